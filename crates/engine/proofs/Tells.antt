-- The findings about the inputs of a known transaction, in words: place by place, and what the exported calls for them promise.
use Prim.Native.Nat.{ℕ, zero, suc, ◌+◌}
use mathlib.Core.Path.{◌≡◌, refl, sym, ap, subst, ◌∙◌}
use mathlib.Core.Bool.{cond}
use mathlib.Core.List.{List, [], ◌∷◌}
use native.Mathlib.Omega.{arith}
use lib.Dec.{ltb}
use lib.ListN.{length, get_or, take}
use Rattle.std.specs.List.{flat_map}
use Rattle.transaction.proofs.Slots.{above, four}
use Rattle.words.proofs.Fours.{by_four}
use Rattle.std.proofs.Common.{Ok, Err}
use Rattle.transaction.specs.declared.refusal.Refusal.{Refusal}
use Rattle.transaction.specs.Refusals.{refusal_number}
use Rattle.model.specs.declared.Finding.{Finding}
use Rattle.model.specs.declared.Finding.TheVariants.{Available}
use Rattle.model.specs.declared.Findings.{Findings}
use Rattle.model.specs.Answers.{Report, finding_number, pledging_number}
use Rattle.engine.specs.Codes.{told_code}
use Rattle.engine.specs.Queries.{findings_words, findings_after, TellsFindings}

-- the two words of a place, of so many findings
abbrev pub pair_at : ℕ → ℕ → Finding → List ℕ
pair_at n i found = cond (ltb i n) (finding_number found ∷ pledging_number found ∷ []) (0 ∷ 0 ∷ [])

-- those of four places, one behind the other
places : (n : ℕ) (a b c e : Finding)
    → flat_map (λ l. l) (pair_at n 0 a ∷ pair_at n 1 b ∷ pair_at n 2 c ∷ pair_at n 3 e ∷ [])
    ≡ findings_words 4 (take n (a ∷ b ∷ c ∷ e ∷ []))
places zero a b c e = refl
places (suc zero) a b c e = refl
places (suc (suc zero)) a b c e = refl
places (suc (suc (suc zero))) a b c e = refl
places (suc (suc (suc (suc n)))) a b c e =
    rw (above n 0 (omega arith), above n 1 (omega arith), above n 2 (omega arith), above n 3 (omega arith)) refl

module _ (n : ℕ) (found : List Finding) (long : length found ≡ 4) where
  abbrev at : ℕ → Finding
  at i = get_or found i Available

  pub words-by : (pairs : List (List ℕ)) → length pairs ≡ 4
      → get_or pairs 0 [] ≡ pair_at n 0 (at 0) → get_or pairs 1 [] ≡ pair_at n 1 (at 1)
      → get_or pairs 2 [] ≡ pair_at n 2 (at 2) → get_or pairs 3 [] ≡ pair_at n 3 (at 3)
      → flat_map (λ l. l) pairs ≡ findings_words 4 (take n found)
  words-by pairs four-pairs p q r s =
      ap (flat_map (λ l. l)) (by_four [] pairs (λ (i : ℕ). pair_at n i (at i)) four-pairs p q r s)
      ∙ places n (at 0) (at 1) (at 2) (at 3) ∙ ap (λ (l : List Finding). findings_words 4 (take n l)) (four Available found long)

-- refused, or told
module _ (r : Report) (before : List ℕ) where
  pub tells_refused : {cause : Refusal} {code : ℕ} → r ≡ Err cause → code ≡ refusal_number cause → TellsFindings r before code before
  unfolding told_code findings_after
  tells_refused e ec = record { answered = ec ∙ ap told_code (sym e); filled = ap (λ (x : Report). findings_after x before) (sym e) }

  pub tells_found : {found : Findings} {code : ℕ} {after : List ℕ} → r ≡ Ok found → code ≡ 700 + found.count
      → after ≡ findings_words 4 (take found.count found.list) → TellsFindings r before code after
  unfolding told_code findings_after
  tells_found e ec ea = record {
    answered = ec ∙ ap told_code (sym e);
    filled = ea ∙ ap (λ (x : Report). findings_after x before) (sym e);
  }

-- of the report that was asked for
pub tells_report : {r s : Report} {before : List ℕ} {code : ℕ} {after : List ℕ} → r ≡ s → TellsFindings r before code after
    → TellsFindings s before code after
tells_report {before = before} {code} {after} e t = subst (λ (x : Report). TellsFindings x before code after) e t
