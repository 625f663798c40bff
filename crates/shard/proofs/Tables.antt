-- The tables of refusals: how a form is put together, and what the counts and the place of a number say of each row's test.
use Prim.Native.Nat.{ℕ, ◌+◌, ◌*◌, ◌≤◌, ◌<◌}
use mathlib.Core.Path.{◌≡◌, refl, sym, ap, ◌∙◌}
use mathlib.Core.Bool.{Bool, true, false, not}
use mathlib.Core.List.{List, [], ◌∷◌, ◌++◌}
use native.Mathlib.Omega.{arith}
use borrow.Author.Tests.{eq-eqb, ne_eqb, le-ltb}
use lib.Dec.{eqb, leb, ltb}
use lib.ListN.{length, get_or}
use Rattle.std.specs.Prelude.{None, Result, Ok, Err, IsErrAnd}
use Rattle.std.proofs.lemmas.Result.{err_from_is_err_and}
use Rattle.transaction.specs.declared.Transaction.{Transaction}
use Rattle.transaction.specs.declared.refusal.Refusal.{Refusal}
use Rattle.transaction.specs.declared.refusal.Refusal.TheVariants.{OutOfRange, NumberTaken, KnownAlready, NumberUnknown}
use Rattle.transaction.specs.Lists.{any, first_of}
use Rattle.transaction.proofs.Tables.{row_holds, row_passes, table_stands, table_behind}
use Rattle.model.specs.declared.Known.{Known}
use Rattle.model.specs.Said.{Said}
use Rattle.model.specs.Steps.{house, is_for, place_of, entry_of, nothing_known, heard_from, outputs_here}
use Rattle.model.specs.Shard.{is_numbered, is_other, other_verdict, too_full, reserved}
use Rattle.layout.specs.Layout.{token_slots, known_slots, shard_of, slot_known}
use Rattle.layout.proofs.Ledgers.{held-length, known-length, known-entry}
use Rattle.loops.proofs.Positions.{Stands, Nowhere}
use Rattle.registry.proofs.Finds.{none_passes, passes-there, found-there, asks_for, asks-other}
use Rattle.registry.proofs.Decisions.{reserved-most}
use Rattle.shard.specs.View.{number, view, Sound}

-- ---- Row by row: what a table says, from what was told of its tests

abbrev pub Table : Type 0
Table = List (Bool × Refusal)

abbrev pub Verdict : Type 0
Verdict = Result Unit Refusal

pub record Says (table : Table) (verdict : Verdict) : Type 0 where
  pub so : verdict ≡ first_of table

-- no row is left; the row's test holds; it does not, and the rows behind it say the rest
pub none : Says [] (Ok tt)
none = record { so = refl }

pub here : {told test : Bool} {refusal : Refusal} {rest : Table} → told ≡ test → told ≡ true → Says ((test, refusal) ∷ rest) (Err refusal)
here {test = test} {refusal} {rest} e y = record { so = row_holds test refusal rest (sym e ∙ y) }

pub past : {told test : Bool} {refusal : Refusal} {verdict : Verdict} {rest : Table} → told ≡ test → told ≡ false → Says rest verdict
    → Says ((test, refusal) ∷ rest) verdict
past {test = test} {refusal} {rest = rest} e n s = record { so = row_passes test refusal rest (sym e ∙ n) s.so }

-- the same where the test is told by its opposite
pub here-not : {told test : Bool} {refusal : Refusal} {rest : Table} → told ≡ test → not told ≡ true
    → Says ((not test, refusal) ∷ rest) (Err refusal)
here-not e y = here (ap not e) y

pub past-not : {told test : Bool} {refusal : Refusal} {verdict : Verdict} {rest : Table} → told ≡ test → not told ≡ false → Says rest verdict
    → Says ((not test, refusal) ∷ rest) verdict
past-not e n s = past (ap not e) n s

-- a table that was asked as a whole
pub says : {table : Table} {verdict : Verdict} → verdict ≡ first_of table → Says table verdict
says e = record { so = e }

-- what the exit of a `?` returns
pub passed_on : {T : Type 0} (r : Result T Refusal) {refusal : Refusal} → IsErrAnd r (λ e. e ≡ refusal) → r ≡ Err refusal
passed_on r h = let p = err_from_is_err_and r h in rw (p.1, p.2) refl

-- ---- A table behind another: the first one's refusal stands, or the second one answers

module _ (first rest : Table) where
  pub stands-first : {refusal : Refusal} → Err refusal ≡ first_of first → Says (first ++ rest) (Err refusal)
  stands-first e = record { so = table_stands first rest e refl }

  pub behind-first : {verdict : Verdict} → Ok tt ≡ first_of first → verdict ≡ first_of rest → Says (first ++ rest) verdict
  behind-first e s = record { so = table_behind first rest e refl s }

-- ---- 3 where the record is addressed to another shard

module _ (receiver me : ℕ) (rest : Table) where
  pub other-shard : (receiver ≡ me → ⊥) → Says ((not (eqb receiver me), OutOfRange) ∷ rest) (Err OutOfRange)
  other-shard n = here {test = not (eqb receiver me)} refl (ap not (ne_eqb receiver me n))

  pub own-shard : {verdict : Verdict} → receiver ≡ me → verdict ≡ first_of rest → Says ((not (eqb receiver me), OutOfRange) ∷ rest) verdict
  own-shard e s = past {test = not (eqb receiver me)} refl (ap not (eq-eqb receiver me e)) (record { so = s })

-- ---- 11 where sender and receiver are one

module _ {sender me own : ℕ} (em : me ≡ own) (rest : Table) where
  pub own-vote : sender ≡ me → Says ((eqb sender own, NumberUnknown) ∷ rest) (Err NumberUnknown)
  own-vote e = here {test = eqb sender own} refl (eq-eqb sender own (e ∙ em))

  pub others-vote : {verdict : Verdict} → (sender ≡ me → ⊥) → Says rest verdict → Says ((eqb sender own, NumberUnknown) ∷ rest) verdict
  others-vote n s = past {test = eqb sender own} refl (ne_eqb sender own (λ z. n (z ∙ sym em))) s

-- ---- The tests that go by how many transactions are known: 13 and 9

module _ {ws : List ℕ} (sound : Sound ws) {count : ℕ} (ec : count ≡ (shard_of ws).known) where
  pub count-is : length (view ws).known ≡ count
  count-is = known-length ws sound.known ∙ sym ec

  pub any-known : not (eqb count 0) ≡ not (eqb (length (view ws).known) 0)
  any-known = rw count-is refl

  pub all_known : leb known_slots count ≡ leb house.transactions (length (view ws).known)
  all_known = rw count-is refl

-- ---- The tests that go by the place of the number: 7 and 8

module _ {ws : List ℕ} (sound : Sound ws) (t : Transaction) where
  abbrev known : List Known
  known = (view ws).known

  -- it is not known, so that 7 and 8 do not fit
  module _ (nowhere : Nowhere (is_numbered t.number) known) {verdict : Verdict} {rest : Table} where
    pub other-passes : {refusal : Refusal} → Says rest verdict → Says ((any (is_other t) (view ws).known, refusal) ∷ rest) verdict
    other-passes s = past {told = false} (sym (none_passes known sound.once t.number nowhere (is_other t) (asks-other t))) refl s

    pub known-passes : {refusal : Refusal} → Says rest verdict → Says ((any (is_for t) (view ws).known, refusal) ∷ rest) verdict
    known-passes s = past {told = false} (sym (none_passes known sound.once t.number nowhere (is_for t) (asks_for t))) refl s

  pub unknown-passes : Nowhere (is_numbered t.number) known → {verdict : Verdict} {rest : Table} → Says rest verdict
      → Says ((any (is_other t) (view ws).known, NumberTaken) ∷ (any (is_for t) (view ws).known, KnownAlready) ∷ rest) verdict
  unknown-passes nowhere s = other-passes nowhere (known-passes nowhere s)

  -- it is known, for this transaction or for another
  module _ {place : ℕ} (at : Stands (is_numbered t.number) known place) where
    pub place-below : place < (shard_of ws).known
    place-below = rw (known-length ws sound.known) at at.below

    pub place-slot : place < known_slots
    place-slot = omega (arith, place-below, sound.known)

    abbrev there : Known
    there = get_or known place nothing_known

    entry : slot_known ws place ≡ there
    entry = known-entry ws place place-below sound.known nothing_known

    module _ {same : Bool} (es : same ≡ is_for t (slot_known ws place)) where
      same-is : is_for t there ≡ same
      same-is = sym (es ∙ ap (is_for t) entry)

      pub other-is : not same ≡ any (is_other t) known
      other-is =
          sym (passes-there known sound.once t.number at (is_other t) (asks-other t)
          ∙ rw (at.passes nothing_known, same-is) refl)

      pub for_is : same ≡ any (is_for t) known
      for_is = sym (passes-there known sound.once t.number at (is_for t) (asks_for t) ∙ same-is)

    -- where the transaction is known, it stands at the place
    module _ (whole : any (is_for t) known ≡ true) where
      same : is_for t there ≡ true
      same = sym (passes-there known sound.once t.number at (is_for t) (asks_for t)) ∙ whole

      pub place_is : place_of t known ≡ place
      unfolding place_of
      place_is = found-there known sound.once t.number at (is_for t) (asks_for t) same

      pub entry-there : slot_known ws place ≡ entry_of t known
      unfolding entry_of
      entry-there = entry ∙ rw place_is refl

      module _ (sender : ℕ) {heard : Said} (e : heard ≡ get_or (slot_known ws place).heard sender None) where
        pub verdict_there : heard ≡ heard_from sender (entry_of t known)
        verdict_there = e ∙ ap (heard_from sender) entry-there

        -- 12
        pub other-there : (verdict : ℕ) {told : Bool} → told ≡ other_verdict heard verdict
            → told ≡ other_verdict (heard_from sender (entry_of t known)) verdict
        other-there verdict o = o ∙ ap (λ (h : Said). other_verdict h verdict) verdict_there

-- ---- 10, by the counts
module _ {ws : List ℕ} (sound : Sound ws) (t : Transaction) {me held more : ℕ}
    (em : me ≡ number ws) (eh : held ≡ (shard_of ws).held) (eo : more ≡ length (outputs_here me t)) where
  abbrev wanted : ℕ
  wanted = length (view ws).tokens + reserved (number ws) (view ws).known + length (outputs_here (number ws) t)

  held-is : length (view ws).tokens ≡ held
  held-is = held-length ws sound.held ∙ sym eh

  more-is : length (outputs_here (number ws) t) ≡ more
  more-is = sym (eo ∙ rw em refl)

  pub not_full : {count : ℕ} → count ≡ (shard_of ws).known → held + 4 * count + more ≤ token_slots
      → false ≡ too_full house (number ws) (view ws) t
  not_full {count} ec h =
      sym (le-ltb house.tokens wanted (omega (arith, held-is, more-is, ec, reserved-most (number ws) ws sound.known)))

  pub full_is : {waiting : ℕ} → waiting ≡ reserved me (view ws).known
      → ltb token_slots (held + waiting + more) ≡ too_full house (number ws) (view ws) t
  full_is ew = rw (held-is, more-is, ew, em) refl
