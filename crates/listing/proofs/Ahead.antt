-- A record is 102 bytes long at most: with so many at hand, what stands behind them changes nothing of the step.
use Prim.Native.Nat.{ℕ, ◌+◌, ◌≤◌, ◌<◌}
use native.Mathlib.Omega.{arith}
use mathlib.Core.Path.{◌≡◌, refl, sym, ap, ◌∙◌}
use mathlib.Core.Bool.{Bool, true, false}
use mathlib.Core.List.{List, ◌++◌}
use lib.Dec.{eqb}
use lib.ListN.{length, drop, get_or-append, length-append}
use lib.Seq.{drop-append-le}
use Rattle.std.specs.Prelude.{Result, Ok, Err, Option, Some, None, unwrap_or}
use Rattle.transaction.specs.declared.refusal.Refusal.{Refusal}
use Rattle.reader.specs.declared.Reading.{Reading}
use Rattle.reader.specs.Layout.{byte_at, word_at, body_length, input_at, output_at, inputs_at, outputs_at, transaction_at}
use Rattle.reader.specs.Reading.{kind_of, head_cause, read_cause, record_at, transaction_in, taken_of, reading_of, rest_of}
use Rattle.reader.proofs.Cases.{
  head-unknown,
  head-whole,
  by_kinds,
  reading_none,
  taken_record,
  cause_1,
  cause_2,
  cause_3,
  cause_4,
}
use Rattle.model.specs.Steps.{Ledger}
use Rattle.listing.specs.Listing.{step_of}

-- no kind's body is longer
body_most : (k : ℕ) → unwrap_or (body_length k) 0 ≤ 101
unfolding body_length
body_most k = go (eqb k 1) (eqb k 2) (eqb k 3) (eqb k 4) refl refl refl refl
  where
    go : (a b c d : Bool) → eqb k 1 ≡ a → eqb k 2 ≡ b → eqb k 3 ≡ c → eqb k 4 ≡ d → unwrap_or (body_length k) 0 ≤ 101
    go true b c d ea eb ec ed = rw ea (omega arith)
    go false true c d ea eb ec ed = rw (ea, eb) (omega arith)
    go false false true d ea eb ec ed = rw (ea, eb, ec) (omega arith)
    go false false false true ea eb ec ed = rw (ea, eb, ec, ed) (omega arith)
    go false false false false ea eb ec ed = rw (ea, eb, ec, ed) (omega arith)

module _ (l x : List ℕ) (long : 102 ≤ length l) where
  byte : (k : ℕ) → k < 102 → byte_at (l ++ x) k ≡ byte_at l k
  byte k h = get_or-append l x 0 k (omega arith)

  word : (k : ℕ) → k + 4 ≤ 102 → word_at (l ++ x) k ≡ word_at l k
  unfolding word_at
  word k h =
      rw (byte k (omega arith), byte (k + 1) (omega arith), byte (k + 2) (omega arith), byte (k + 3) (omega arith)) refl

  input : (k : ℕ) → k + 14 ≤ 102 → input_at (l ++ x) k ≡ input_at l k
  unfolding input_at
  input k h =
      rw (
        byte k (omega arith),
        word (k + 1) (omega arith),
        byte (k + 5) (omega arith),
        word (k + 6) (omega arith),
        word (k + 10) (omega arith),
      ) refl

  output : (k : ℕ) → k + 9 ≤ 102 → output_at (l ++ x) k ≡ output_at l k
  unfolding output_at
  output k h = rw (byte k (omega arith), word (k + 1) (omega arith), word (k + 5) (omega arith)) refl

  inputs : (k : ℕ) → k + 56 ≤ 102 → inputs_at (l ++ x) k ≡ inputs_at l k
  unfolding inputs_at
  inputs k h =
      rw (input k (omega arith), input (k + 14) (omega arith), input (k + 28) (omega arith), input (k + 42) (omega arith))
      refl

  outputs : (k : ℕ) → k + 36 ≤ 102 → outputs_at (l ++ x) k ≡ outputs_at l k
  unfolding outputs_at
  outputs k h =
      rw (output k (omega arith), output (k + 9) (omega arith), output (k + 18) (omega arith), output (k + 27) (omega arith))
      refl

  transaction : (k : ℕ) → k + 98 ≤ 102 → transaction_at (l ++ x) k ≡ transaction_at l k
  unfolding transaction_at
  transaction k h =
      rw (
        word k (omega arith),
        byte (k + 4) (omega arith),
        byte (k + 5) (omega arith),
        inputs (k + 6) (omega arith),
        outputs (k + 62) (omega arith),
      ) refl

  longer : 102 ≤ length (l ++ x)
  longer = omega (arith, length-append l x)

  kind : kind_of (l ++ x) ≡ kind_of l
  kind = byte 0 (omega arith)

  head-same : head_cause (l ++ x) ≡ head_cause l
  head-same = go (body_length (kind_of l)) refl
    where
      go : (found : Option ℕ) → body_length (kind_of l) ≡ found → head_cause (l ++ x) ≡ head_cause l
      go None e =
          sym (head-unknown (l ++ x) (λ q. omega (arith, longer)) (sym e ∙ ap body_length (sym kind)))
          ∙ head-unknown l (λ q. omega arith) (sym e)
      go (Some n) e =
          let most : n ≤ 101 = rw e at (body_most (kind_of l)) in
          sym (head-whole (l ++ x) (λ q. omega (arith, longer)) (sym e ∙ ap body_length (sym kind)) (omega (arith, longer, most)))
          ∙ head-whole l (λ q. omega arith) (sym e) (omega (arith, most))

  fields-same : record_at (l ++ x) ≡ record_at l
  unfolding record_at
  fields-same =
      rw (kind, byte 1 (omega arith), byte 2 (omega arith), byte 3 (omega arith), word 3 (omega arith), word 7 (omega arith))
      refl

  transaction-same : transaction_in (l ++ x) ≡ transaction_in l
  unfolding transaction_in
  transaction-same = rw (kind, transaction 2 (omega arith), transaction 4 (omega arith)) refl

  cause-same : head_cause l ≡ Ok tt → read_cause (l ++ x) ≡ read_cause l
  cause-same h =
      by_kinds l h (read_cause (l ++ x) ≡ read_cause l)
      (λ k.
      cause_1 (l ++ x) (head-same ∙ h) (kind ∙ k) ∙ rw (byte 1 (omega arith), transaction 2 (omega arith)) refl
      ∙ sym (cause_1 l h k))
      (λ k.
      cause_2 (l ++ x) (head-same ∙ h) (kind ∙ k)
      ∙ rw (byte 1 (omega arith), byte 2 (omega arith), byte 3 (omega arith), transaction 4 (omega arith)) refl
      ∙ sym (cause_2 l h k))
      (λ k.
      cause_3 (l ++ x) (head-same ∙ h) (kind ∙ k)
      ∙ rw (byte 1 (omega arith), byte 2 (omega arith), word 3 (omega arith), word 7 (omega arith)) refl
      ∙ sym (cause_3 l h k))
      (λ k. cause_4 (l ++ x) (head-same ∙ h) (kind ∙ k) ∙ rw (byte 1 (omega arith)) refl ∙ sym (cause_4 l h k))

  -- the reading, but for the bytes taken
  abbrev Same : Type 0
  Same =
      ((reading_of (l ++ x)).answer ≡ (reading_of l).answer) × ((reading_of (l ++ x)).transaction ≡ (reading_of l).transaction)

  same_reading : Same
  unfolding reading_of
  same_reading = go (head_cause l) refl
    where
      go : (found : Result Unit Refusal) → head_cause l ≡ found → Same
      go (Ok tt) e = (rw (cause-same e, fields-same) refl, rw (cause-same e, transaction-same) refl)
      go (Err cause) e =
          let there = reading_none (l ++ x) (head-same ∙ e) in
          let here = reading_none l e in (
            sym (ap (λ (r : Reading). r.answer) there) ∙ ap (λ (r : Reading). r.answer) here,
            sym (ap (λ (r : Reading). r.transaction) there) ∙ ap (λ (r : Reading). r.transaction) here,
          )

  pub same_step : (shards : List Ledger) (step : ℕ) → step_of shards step (l ++ x) ≡ step_of shards step l
  unfolding step_of
  same_step shards step = rw (same_reading.0, same_reading.1) refl

  -- the bytes behind the record, where one stands there
  pub same_rest : head_cause l ≡ Ok tt → rest_of (l ++ x) ≡ rest_of l ++ x
  unfolding rest_of
  same_rest h =
      let t : taken_of (l ++ x) ≡ taken_of l =
      taken_record (l ++ x) (head-same ∙ h) ∙ ap (λ (k : ℕ). unwrap_or (body_length k) 0 + 1) kind ∙ sym (taken_record l h) in
      ap (λ (k : ℕ). drop k (l ++ x)) t
      ∙ drop-append-le (taken_of l) l x (omega (arith, taken_record l h, body_most (kind_of l)))
