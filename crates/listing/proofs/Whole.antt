-- THE WHOLE TEXT. Whoever steps through any bytes with a cluster that `new` left, prints each line and goes on behind
-- the bytes taken until none are left or reading ends, and then prints the TOTAL line, has printed `listing_of` of the
-- bytes: the text that document 01 asks for, by definition.
--
-- The lines and clusters are any that the contracts of `step` and `total` allow. A contract is read off the function
-- itself: `Asked` is what its `requires` asks of the arguments, `Learnt` what its `ensures` tells of the arguments, the
-- result, and the cluster and the bytes lent as they are afterwards, as the checker generates both from src/lib.rt.
-- There is no second copy of a contract here, so that a contract that said less would break this proof.
use Prim.Native.Nat.{ℕ, zero, suc, ◌+◌, ◌-◌, ◌≤◌}
use native.Mathlib.Omega.{arith}
use mathlib.Core.Path.{◌≡◌, refl, sym, ap, ◌∙◌}
use mathlib.Core.Bool.{true, false}
use mathlib.Core.List.{List, ◌++◌, append_assoc}
use lib.ListN.{length, take, drop}
use lib.Seq.{sets-eq, take_at, drop_at, length-take-le}
use contract.Lifetimes.{Lfts}
use Rattle.reader.specs.Reading.{rest_of}
use Rattle.model.specs.Steps.{Ledger}
use Rattle.cluster.specs.View.{view, Sound}
use Rattle.model.specs.Totals.{total_held}
use Rattle.cluster.proofs.Demand.{Cluster, Starts, started}
use Rattle.cluster.proofs.References.{Place, refers, reads}
use Rattle.listing.specs.declared.Listed.{Listed}
use Rattle.listing.specs.Lines.{total_line}
use Rattle.listing.specs.Parts.{Puts, Shows}
use Rattle.listing.specs.Listing.{listing_within, listing_of}
use Rattle.listing.proofs.Left.{fewer, behind, nothing_left, reading_ends, reading_on}
use Rattle.listing.proofs.step.Reads as of-step
use Rattle.listing.proofs.total.Reads as of-total

-- `step`, handed references to a cluster, to the bytes left and to lent bytes with a place in them that has room for a
-- line, may have returned r and left the cluster and the lent bytes as they are after
pub record Stepped (c : Cluster) (step : ℕ) (bytes lent : List ℕ) (at : ℕ) (r : Listed) (c' : Cluster)
    (after : List ℕ) : Type 0 where
  pub lifetimes : Lfts 3
  pub shards : Place
  pub from : Place
  pub to : Place
  pub room : at + 64 ≤ length lent
  pub kept : of-step.Asked lifetimes (refers shards c, (step, (reads from bytes, (refers to lent, (at, tt)))))
      → of-step.Learnt lifetimes (refers shards c, (step, (reads from bytes, (refers to lent, (at, tt))))) r
      (refers shards c', (step, (reads from bytes, (refers to after, (at, tt)))))

-- `total`, handed references to a cluster and to a lent line, may have returned the size and left the line as it is
-- after
pub record Totalled (c : Cluster) (lent : List ℕ) (size : ℕ) (after : List ℕ) : Type 0 where
  pub lifetimes : Lfts 2
  pub shards : Place
  pub to : Place
  pub kept : of-total.Asked lifetimes (reads shards c, (refers to lent, tt))
      → of-total.Learnt lifetimes (reads shards c, (refers to lent, tt)) size (reads shards c, (refers to after, tt))

-- the bytes from a place up to another
abbrev pub between : ℕ → ℕ → List ℕ → List ℕ
between at end bytes = take (end - at) (drop at bytes)

-- with a cluster, a step and the bytes left, this text is printed
pub data Prints : Cluster → ℕ → List ℕ → List ℕ → Type 0 where
  finished : {c : Cluster} {step : ℕ} {bytes lent after : List ℕ} {size : ℕ}
      → length bytes ≡ 0 → Totalled c lent size after → Prints c step bytes (take size after)
  ended : {c c' : Cluster} {step at : ℕ} {bytes lent after last total : List ℕ} {r : Listed} {size : ℕ}
      → (length bytes ≡ 0 → ⊥) → Stepped c step bytes lent at r c' after → r.ends ≡ true → Totalled c' last size total
      → Prints c step bytes (between at r.at after ++ take size total)
  further : {c c' : Cluster} {step at : ℕ} {bytes lent after text : List ℕ} {r : Listed}
      → (length bytes ≡ 0 → ⊥) → Stepped c step bytes lent at r c' after → r.ends ≡ false
      → Prints c' (step + 1) (drop r.taken bytes) text
      → Prints c step bytes (between at r.at after ++ text)

-- the part of the lent bytes that is printed is the line
pub shown : {line lent after : List ℕ} {r : ℕ} → Shows line lent after r → take r after ≡ line
shown {line} {lent} {after} {r} s = ap (take r) s.text ∙ take_at line (drop (length line) lent) r (sym s.size)

shown-at : {line lent after : List ℕ} {at r : ℕ} → at + 64 ≤ length lent → Puts lent at line 64 after r
    → between at r after ≡ line
shown-at {line} {lent} {after} {at} {r} h s =
    let rest = drop (at + length line) lent in
    ap (between at r)
    (s.stored ∙ sets-eq line lent at (omega (arith, s.behind, s.within)) ∙ append_assoc (take at lent) line rest)
    ∙ ap (take (r - at)) (drop_at (take at lent) (line ++ rest) at (length-take-le at lent (omega arith)))
    ∙ take_at line rest (r - at) (omega (arith, s.behind))

pub joined : {a b c d : List ℕ} → a ≡ b → c ≡ d → a ++ c ≡ b ++ d
joined p q = rw (p, q) refl

printed : (enough : ℕ) {c : Cluster} {step : ℕ} {bytes text : List ℕ} → length bytes ≤ enough → Sound c
    → Prints c step bytes text
    → text ≡ listing_within enough (view c) step bytes
printed enough {c} {step} {bytes} h sound (finished e t) =
    shown (t.kept sound) ∙ sym (nothing_left enough (view c) step bytes e)
printed zero h sound (ended n s e t) = absurd (n (omega arith))
printed (suc enough) {c} {step} {bytes} h sound (ended n s e t) =
    let l = s.kept (sound, s.room) in
    joined (shown-at s.room l.shows)
    (shown (t.kept l.sound) ∙ ap (λ (x : List Ledger). total_line (total_held x)) l.ledgers)
    ∙ sym (reading_ends enough (view c) step bytes n (sym l.ends ∙ e))
printed zero h sound (further n s e p) = absurd (n (omega arith))
printed (suc enough) {c} {step} {bytes} h sound (further {r = r} n s e p) =
    let l = s.kept (sound, s.room) in
    let rest : drop r.taken bytes ≡ rest_of bytes = behind bytes l.taken in
    joined (shown-at s.room l.shows)
    (printed enough (rw rest (fewer bytes enough n h)) l.sound p
    ∙ rw (l.ledgers, rest) refl)
    ∙ sym (reading_on enough (view c) step bytes n (sym l.ends ∙ e))

-- THEOREM
pub whole_listing : {c : Cluster} {bytes text : List ℕ} → Starts c → Prints c 1 bytes text → text ≡ listing_of bytes
unfolding listing_of
whole_listing {c} {bytes} starts p =
    let fresh = started starts in
    printed (length bytes) (omega arith) fresh.sound p
    ∙ ap (λ (x : List Ledger). listing_within (length bytes) x 1 bytes) fresh.empty
