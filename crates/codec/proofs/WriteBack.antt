-- Every record read writes back as the same bytes.
use Prim.Native.Nat.{ℕ, ◌+◌, ◌*◌, ◌/◌, ◌%◌, ◌≤◌, ◌<◌}
use mathlib.Core.Path.{◌≡◌, refl, sym, ap, ◌∙◌}
use mathlib.Core.List.{List, [], ◌∷◌, ◌++◌}
use native.Mathlib.Omega.{arith}
use Rattle.std.proofs.Common.{Result, Ok, Err}
use lib.ListN.{length, get_or, take, drop}
use lib.Seq.{take-add, drop-drop, drop-cons}
use Rattle.transaction.specs.declared.refusal.Refusal.{Refusal}
use Rattle.transaction.specs.Refusals.{answer_of}
use Rattle.transaction.specs.Lists.{first_of}
use Rattle.transaction.specs.Checks.{house_genesis, register_checks, vote_checks, mint_checks, turn_checks}
use Rattle.reader.specs.declared.Record.{Record}
use Rattle.reader.specs.declared.Reading.{Reading}
use Rattle.reader.specs.Layout.{byte_at, joined, word_at, input_at, output_at, inputs_at, outputs_at, transaction_at}
use Rattle.reader.specs.Reading.{
  kind_of,
  head_cause,
  head_checks,
  body_checks,
  read_cause,
  record_at,
  transaction_in,
  taken_of,
  reading_of,
}
use Rattle.reader.proofs.Cases.{
  by_kinds,
  cause_1,
  record_1,
  transaction_1,
  taken_1,
  long_1,
  cause_2,
  record_2,
  transaction_2,
  taken_2,
  long_2,
  cause_3,
  record_3,
  taken_3,
  long_3,
  cause_4,
  record_4,
  taken_4,
  long_4,
}
use Rattle.writer.specs.Layout.{
  byte_of,
  word_of,
  input_bytes,
  output_bytes,
  inputs_bytes,
  outputs_bytes,
  transaction_bytes,
  register_bytes,
  vote_bytes,
  mint_bytes,
  turn_bytes,
}
use Rattle.writer.specs.Writing.{room_checks, register_cause, vote_cause, mint_cause, turn_cause, Writes}
use Rattle.transaction.proofs.Tables.{first-front, first-stands, first-behind}
use Rattle.writer.proofs.Writes.{refuses}
use Rattle.codec.specs.Records.{record_bytes, record_cause, copy_cause, Copies}

-- the four bytes that make a number are the number's
word-again : (a b c d : ℕ) → a < 256 → b < 256 → c < 256 → d < 256 → word_of (joined a b c d) ≡ a ∷ b ∷ c ∷ d ∷ []
unfolding word_of
word-again a b c d ha hb hc hd =
    let n = ((a * 256 + b) * 256 + c) * 256 + d in
    let e1 : n / 16777216 ≡ a = omega arith in
    let e2 : n / 65536 % 256 ≡ b = omega arith in
    let e3 : n / 256 % 256 ≡ c = omega arith in
    let e4 : n % 256 ≡ d = omega arith in
    cc

-- the n bytes from place k; two parts one behind the other are one
abbrev part : List ℕ → ℕ → ℕ → List ℕ
part l k n = take n (drop k l)

join : (l : List ℕ) (k n m : ℕ) → part l k n ++ part l (k + n) m ≡ part l k (n + m)
join l k n m = rw (take-add n m (drop k l), drop-drop n k l)

-- what was found to be the part from k, with what was found to be the part right behind it
glue : {a b : List ℕ} (l : List ℕ) (k n m : ℕ) → a ≡ part l k n → b ≡ part l (k + n) m → a ++ b ≡ part l k (n + m)
glue l k n m e f = rw (e, f) (join l k n m)

module _ (l : List ℕ) (small : (i : ℕ) → get_or l i 0 < 256) where
  byte-part : (k : ℕ) → k < length l → byte_of (byte_at l k) ≡ part l k 1
  byte-part k h = rw (drop-cons l k 0 h)

  word-part : (k : ℕ) → k + 4 ≤ length l → word_of (word_at l k) ≡ part l k 4
  unfolding word_at
  word-part k h =
      word-again (byte_at l k) (byte_at l (k + 1)) (byte_at l (k + 2)) (byte_at l (k + 3))
      (small k) (small (k + 1)) (small (k + 2)) (small (k + 3))
      ∙ glue l k 3 1
      (glue l k 2 1 (glue l k 1 1 (byte-part k (omega arith)) (byte-part (k + 1) (omega arith)))
      (byte-part (k + 2) (omega arith))) (byte-part (k + 3) (omega arith))

  input-part : (k : ℕ) → k + 14 ≤ length l → input_bytes (input_at l k) ≡ part l k 14
  unfolding input_at input_bytes
  input-part k h =
      glue l k 10 4
      (glue l k 6 4 (glue l k 5 1 (glue l k 1 4 (byte-part k (omega arith)) (word-part (k + 1) (omega arith)))
      (byte-part (k + 5) (omega arith))) (word-part (k + 6) (omega arith))) (word-part (k + 10) (omega arith))

  output-part : (k : ℕ) → k + 9 ≤ length l → output_bytes (output_at l k) ≡ part l k 9
  unfolding output_at output_bytes
  output-part k h =
      glue l k 5 4 (glue l k 1 4 (byte-part k (omega arith)) (word-part (k + 1) (omega arith)))
      (word-part (k + 5) (omega arith))

  inputs-part : (k : ℕ) → k + 56 ≤ length l → inputs_bytes (inputs_at l k) ≡ part l k 56
  unfolding inputs_at inputs_bytes
  inputs-part k h =
      glue l k 42 14 (glue l k 28 14 (glue l k 14 14 (input-part k (omega arith)) (input-part (k + 14) (omega arith)))
      (input-part (k + 28) (omega arith))) (input-part (k + 42) (omega arith))

  outputs-part : (k : ℕ) → k + 36 ≤ length l → outputs_bytes (outputs_at l k) ≡ part l k 36
  unfolding outputs_at outputs_bytes
  outputs-part k h =
      glue l k 27 9 (glue l k 18 9 (glue l k 9 9 (output-part k (omega arith)) (output-part (k + 9) (omega arith)))
      (output-part (k + 18) (omega arith))) (output-part (k + 27) (omega arith))

  transaction-part : (k : ℕ) → k + 98 ≤ length l → transaction_bytes (transaction_at l k) ≡ part l k 98
  unfolding transaction_at transaction_bytes
  transaction-part k h =
      glue l k 62 36
      (glue l k 6 56 (glue l k 5 1 (glue l k 4 1 (word-part k (omega arith)) (byte-part (k + 4) (omega arith)))
      (byte-part (k + 5) (omega arith))) (inputs-part (k + 6) (omega arith))) (outputs-part (k + 62) (omega arith))

  -- the byte of kind
  kind-part : {n : ℕ} → kind_of l ≡ n → 0 < length l → byte_of n ≡ part l 0 1
  kind-part k h = ap byte_of (sym k) ∙ byte-part 0 h

  register-again : 100 ≤ length l → kind_of l ≡ 1 → register_bytes (byte_at l 1) (transaction_at l 2) ≡ take 100 l
  unfolding register_bytes
  register-again h k =
      glue l 0 2 98 (glue l 0 1 1 (kind-part k (omega arith)) (byte-part 1 (omega arith))) (transaction-part 2 h)

  vote-again : 102 ≤ length l → kind_of l ≡ 2
      → vote_bytes (byte_at l 1) (byte_at l 2) (byte_at l 3) (transaction_at l 4) ≡ take 102 l
  unfolding vote_bytes
  vote-again h k =
      glue l 0 4 98 (glue l 0 3 1 (glue l 0 2 1 (glue l 0 1 1 (kind-part k (omega arith)) (byte-part 1 (omega arith)))
      (byte-part 2 (omega arith))) (byte-part 3 (omega arith))) (transaction-part 4 h)

  mint-again : 11 ≤ length l → kind_of l ≡ 3 → mint_bytes (byte_at l 1) (byte_at l 2) (word_at l 3) (word_at l 7) ≡ take 11 l
  unfolding mint_bytes
  mint-again h k =
      glue l 0 7 4 (glue l 0 3 4 (glue l 0 2 1 (glue l 0 1 1 (kind-part k (omega arith)) (byte-part 1 (omega arith)))
      (byte-part 2 (omega arith))) (word-part 3 (omega arith))) (word-part 7 (omega arith))

  turn-again : 2 ≤ length l → kind_of l ≡ 4 → turn_bytes (byte_at l 1) ≡ take 2 l
  unfolding turn_bytes
  turn-again h k = glue l 0 1 1 (kind-part k (omega arith)) (byte-part 1 h)

  -- THEOREM: the bytes of what was read are the bytes that the record took.
  pub read_writes_back : head_cause l ≡ Ok tt → record_bytes (record_at l) (transaction_in l) ≡ take (taken_of l) l
  read_writes_back h =
      by_kinds l h (record_bytes (record_at l) (transaction_in l) ≡ take (taken_of l) l)
      (λ k. rw (record_1 l h k, transaction_1 l h k, taken_1 l h k) (register-again (long_1 l h k) k))
      (λ k. rw (record_2 l h k, transaction_2 l h k, taken_2 l h k) (vote-again (long_2 l h k) k))
      (λ k. rw (record_3 l h k, taken_3 l h k) (mint-again (long_3 l h k) k))
      (λ k. rw (record_4 l h k, taken_4 l h k) (turn-again (long_4 l h k) k))

head-passes : (l : List ℕ) → read_cause l ≡ Ok tt → head_cause l ≡ Ok tt
unfolding read_cause head_cause
head-passes l h = first-front (head_checks l) (body_checks l) h

-- What was read is refused by a writer only for want of room, and so is the copy.
module _ (l : List ℕ) (pass : read_cause l ≡ Ok tt) (room : ℕ) where
  copy_room : copy_cause l room ≡ first_of (room_checks (taken_of l) room)
  unfolding copy_cause read_cause
  copy_room = first-behind (head_checks l ++ body_checks l) (room_checks (taken_of l) room) pass

  record_room : record_cause (record_at l) (transaction_in l) room ≡ first_of (room_checks (taken_of l) room)
  unfolding register_cause vote_cause mint_cause turn_cause
  record_room =
      let h = head-passes l pass in
      by_kinds l h (record_cause (record_at l) (transaction_in l) room ≡ first_of (room_checks (taken_of l) room))
      (λ k.
      rw (record_1 l h k, transaction_1 l h k, taken_1 l h k)
      (first-behind (register_checks house_genesis (byte_at l 1) (transaction_at l 2)) (room_checks 100 room)
      (sym (cause_1 l h k) ∙ pass)))
      (λ k.
      rw (record_2 l h k, transaction_2 l h k, taken_2 l h k)
      (first-behind (vote_checks house_genesis (byte_at l 1) (byte_at l 2) (byte_at l 3) (transaction_at l 4))
      (room_checks 102 room) (sym (cause_2 l h k) ∙ pass)))
      (λ k.
      rw (record_3 l h k, taken_3 l h k)
      (first-behind (mint_checks house_genesis (byte_at l 1) (byte_at l 2) (word_at l 3) (word_at l 7)) (room_checks 11 room) (sym (cause_3 l h k) ∙ pass)))
      (λ k.
      rw (record_4 l h k, taken_4 l h k)
      (first-behind (turn_checks (byte_at l 1)) (room_checks 2 room) (sym (cause_4 l h k) ∙ pass)))

-- The reader's two answers: a record, of which the checks pass, or the refusal of the check.
was_read : (cause : Result Unit Refusal) (fields found : Record) → Ok found ≡ answer_of cause fields
    → (cause ≡ Ok tt) × (found ≡ fields)
was_read (Ok pass) fields found e = (refl, cc)
was_read (Err refusal) fields found e = absurd cc

was_refused : (cause : Result Unit Refusal) (found : Refusal) (fields : Record) → Err found ≡ answer_of cause fields
    → cause ≡ Err found
was_refused (Ok pass) found fields e = absurd cc
was_refused (Err refusal) found fields e = cc

-- THEOREM: a record read and written again is a copy of its bytes.
module _ (l before : List ℕ) {reading : Reading} (read : reading ≡ reading_of l) where
  pub copies : ((i : ℕ) → get_or l i 0 < 256) → {fields : Record} {answer : Result ℕ Refusal} {after : List ℕ}
      → reading.answer ≡ Ok fields
      → Writes (record_cause fields reading.transaction (length before))
      (record_bytes fields reading.transaction) before answer after
      → Copies l before answer after
  unfolding reading_of
  copies small {fields} e w =
      let p = was_read (read_cause l) (record_at l) fields (sym e ∙ ap (λ (x : Reading). x.answer) read) in
      let t : reading.transaction ≡ transaction_in l = ap (λ (x : Reading). x.transaction) read ∙ rw p.0 refl in
      let again = read_writes_back l small (head-passes l p.0) in
      rw (p.1, t, record_room l p.0 (length before), again, ← copy_room l p.0 (length before)) at w

  pub copies-refused : {refusal : Refusal} → reading.answer ≡ Err refusal
      → Copies l before (Err refusal) before
  unfolding reading_of copy_cause read_cause
  copies-refused {refusal} e =
      let p = was_refused (read_cause l) refusal (record_at l) (sym e ∙ ap (λ (x : Reading). x.answer) read) in
      refuses (take (taken_of l) l) before
      (sym (first-stands (head_checks l ++ body_checks l) (room_checks (taken_of l) (length before)) p))
