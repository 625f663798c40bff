-- Words stored one behind the other, slots taken one by one, and a record taken whole.
use Prim.Native.Nat.{ℕ, zero, suc, ◌+◌, ◌*◌, ◌<◌, ◌≤◌}
use mathlib.Core.Path.{◌≡◌, refl, sym, ap, ◌∙◌}
use mathlib.Core.Bool.{Bool, true, false, cond, not, ◌&&◌}
use mathlib.Core.Logic.{◌⊎◌}
use mathlib.Core.List.{List, [], ◌∷◌, ◌++◌, append-nil}
use native.Mathlib.Numerals.{add-one}
use native.Mathlib.Omega.{arith}
use borrow.Author.Count.{below_more}
use borrow.Rule.Slice.PartMut.{put_mid}
use lib.Dec.{eqb, leb, ltb}
use lib.ListN.{length, length-append, set, take, replicate, drop_of_length-le}
use lib.Seq.{sets, take_all}
use Rattle.std.proofs.lemmas.List.Edits.{sets-eq}
use Rattle.std.proofs.lemmas.Slice.{put_mid-paste}
use Rattle.transaction.specs.declared.Input.{Input}
use Rattle.transaction.specs.declared.Output.{Output}
use Rattle.transaction.specs.declared.Transaction.{Transaction}
use Rattle.std.proofs.Common.{Result, Ok, Err, is_err}
use Rattle.transaction.specs.declared.refusal.Refusal.{Refusal}
use Rattle.transaction.specs.declared.refusal.Refusal.TheVariants.{TokenTwice, SumsDiffer}
use Rattle.transaction.specs.Refusals.{number_of}
use Rattle.transaction.specs.Lists.{repeats, total, slots_fit}
use Rattle.transaction.specs.Tokens.{same_input, same_output, zero_input, zero_output}
use Rattle.transaction.specs.Checks.{
  house_genesis,
  input_fits,
  output_fits,
  counts_fit,
  fields_fit,
  same_name,
  named_twice,
  input_amount,
  output_amount,
  cause_of,
}
use Rattle.transaction.proofs.Slots.{slot, slot_0, slot_1, slot_2, slot_3}
use Rattle.transaction.proofs.Causes.{fits-inputs, fit-outputs, cause_0, cause_4, cause_5}
use Rattle.reader.specs.declared.Record.{Record}
use Rattle.reader.specs.declared.Record.TheVariants.{Register, Vote, Mint, Turn}
use Rattle.reader.specs.Layout.{byte_at, word_at, input_at, output_at, inputs_at, outputs_at, transaction_at}
use Rattle.reader.specs.Reading.{kind_of, head_cause, record_at, transaction_in, reading_of}
use Rattle.reader.proofs.Cases.{front-fit, front-passes, reading_good, reading_bad}
use Rattle.writer.proofs.Stores.{behind, front}
use Rattle.words.specs.Words.{input_words, output_words, words_of}
use Rattle.engine.specs.Fields.{record_words, answer_words, reading_words, Fills}
use Rattle.engine.specs.Taking.{four_slots, four_words, LastOf, TakesTransaction, TakesRecord}

-- words stored at places one behind the other are a run
pub three-words : (l : List ℕ) (to u v w : ℕ) → set (set (set l to u) (to + 1) v) (to + 2) w ≡ sets l to (u ∷ v ∷ w ∷ [])
three-words l to u v w =
    let one : to + 1 ≡ suc to = omega arith in
    let two : to + 2 ≡ suc (suc to) = omega arith in
    rw (one, two) refl

pub five-words : (l : List ℕ) (to u v w x y : ℕ)
    → set (set (set (set (set l to u) (to + 1) v) (to + 2) w) (to + 3) x) (to + 4) y
    ≡ sets l to (u ∷ v ∷ w ∷ x ∷ y ∷ [])
five-words l to u v w x y =
    let one : to + 1 ≡ suc to = omega arith in
    let two : to + 2 ≡ suc (suc to) = omega arith in
    let three : to + 3 ≡ suc (suc (suc to)) = omega arith in
    let four : to + 4 ≡ suc (suc (suc (suc to))) = omega arith in
    rw (one, two, three, four) refl

-- words that stand in a part of a slice are stored there
pub part-sets : (l : List ℕ) (a k : ℕ) (ys vs : List ℕ) → ys ≡ vs → length vs ≡ k → a + k ≤ length l → put_mid a k l ys ≡ sets l a vs
part-sets l a k ys vs e ek room =
    put_mid-paste a k l ys vs (length vs) e ek refl
    ∙ rw (take_all (length vs) vs (omega arith)) refl
    ∙ sym (sets-eq vs l a (omega (arith, ek)))

-- the slots of a loop over all four, from the first on
module _ {S : Type 0} (read : ℕ → S) (size at : ℕ) (u z : S → Bool) (n : ℕ) where
  abbrev slots : List S
  slots = four_slots size read at

  -- the test of a slot
  abbrev test : ℕ → Bool
  test k = cond (ltb k n) (u (read (at + k * size))) (z (read (at + k * size)))

  abbrev tested : ℕ → Bool
  tested k = slot (read at) slots u z n k

  test-is : (k : ℕ) → k < 4 → tested k ≡ test k
  test-is zero h = let e : at + 0 * size ≡ at = omega arith in rw e refl
  test-is (suc zero) h = let e : at + 1 * size ≡ at + size = omega arith in rw e refl
  test-is (suc (suc zero)) h = refl
  test-is (suc (suc (suc zero))) h = refl
  test-is (suc (suc (suc (suc k)))) h = absurd (omega arith)

  -- so many of them pass
  pub record Pass (k : ℕ) : Type 0 where
    pub passes : (i : ℕ) → i < k → test i ≡ true

  pub none-passed : Pass 0
  none-passed = record { passes = λ i h. absurd (omega arith) }

  pub one-more : (k : ℕ) → Pass k → test k ≡ true → Pass (k + 1)
  one-more k p h = record { passes = below_more (λ (i : ℕ). test i ≡ true) k p.passes h }

  passed : (k i : ℕ) → Pass k → i < k → i < 4 → tested i ≡ true
  passed k i p h four = test-is i four ∙ p.passes i h

  pub unfit-at : (k : ℕ) → k < 4 → Pass k → test k ≡ false → false ≡ slots_fit u z n slots
  unfit-at zero h p f = slot_0 (read at) slots refl u z n (test-is 0 (omega arith) ∙ f)
  unfit-at (suc zero) h p f =
      slot_1 (read at) slots refl u z n (passed 1 0 p (omega arith) (omega arith)) (test-is 1 (omega arith) ∙ f)
  unfit-at (suc (suc zero)) h p f =
      slot_2 (read at) slots refl u z n (passed 2 0 p (omega arith) (omega arith)) (passed 2 1 p (omega arith) (omega arith))
      (test-is 2 (omega arith) ∙ f)
  unfit-at (suc (suc (suc zero))) h p f =
      slot_3 (read at) slots refl u z n (passed 3 0 p (omega arith) (omega arith)) (passed 3 1 p (omega arith) (omega arith))
      (passed 3 2 p (omega arith) (omega arith)) (sym (test-is 3 (omega arith) ∙ f))
  unfit-at (suc (suc (suc (suc k)))) h p f = absurd (omega arith)

  pub all-fit : (k : ℕ) → 4 ≤ k → Pass k → true ≡ slots_fit u z n slots
  all-fit k h p =
      slot_3 (read at) slots refl u z n (passed k 0 p (omega arith) (omega arith)) (passed k 1 p (omega arith) (omega arith))
      (passed k 2 p (omega arith) (omega arith)) (sym (passed k 3 p (omega arith) (omega arith)))

-- and their words, one slot's behind the other's
module _ {S : Type 0} (words : S → List ℕ) (size : ℕ) (read : ℕ → S) (at : ℕ) where
  abbrev pub run : ℕ → List ℕ
  run zero = []
  run (suc k) = run k ++ words (read (at + k * size))

  length-run : (wide : ℕ) → ((x : S) → length (words x) ≡ wide) → (k : ℕ) → length (run k) ≡ k * wide
  length-run wide long zero = omega arith
  length-run wide long (suc k) =
      length-append (run k) (words (read (at + k * size))) ∙ rw (length-run wide long k, long (read (at + k * size))) (omega arith)

  pub next-run : (wide : ℕ) → ((x : S) → length (words x) ≡ wide) → (k to : ℕ) (l : List ℕ) {a b : List ℕ} → a ≡ sets l to (run k)
      → b ≡ sets a (to + k * wide) (words (read (at + k * size))) → b ≡ sets l to (run (k + 1))
  next-run wide long k to l ea eb = rw add-one (behind l to (run k) (words (read (at + k * size))) (k * wide) (length-run wide long k) ea eb)

  pub whole-run : run 4 ≡ four_words words size read at
  whole-run =
      let none : at + 0 * size ≡ at = omega arith in
      let one : at + 1 * size ≡ at + size = omega arith in
      rw (none, one) refl

-- a slot of four has its place
pub place-of : (k size : ℕ) → k < 4 → k * size + size ≤ 4 * size
place-of zero size h = omega arith
place-of (suc zero) size h = omega arith
place-of (suc (suc zero)) size h = omega arith
place-of (suc (suc (suc zero))) size h = omega arith
place-of (suc (suc (suc (suc k)))) size h = absurd (omega arith)

-- checks 4 and 5, from what was found of the slots
named : (t : Transaction) {x : List Input} {count : ℕ} {found : Bool} → found ≡ repeats same_name (take count x)
    → t.inputs ≡ x → t.input_count ≡ count → found ≡ named_twice t
unfolding named_twice
named t ef ex ec = ef ∙ rw (sym ec, sym ex) refl

module _ {x : List Input} {y : List Output} {count : ℕ} where
  pub last_4 : {found : Bool} → found ≡ repeats same_name (take count x) → found ≡ true → LastOf x y count (Err TokenTwice)
  last_4 ef twice = record {
    answered = λ t ex ey ec fit. cause_4 house_genesis t fit (sym twice ∙ named t ef ex ec);
  }

  module _ {found : Bool} (ef : found ≡ repeats same_name (take count x)) (once : found ≡ false) {m n : ℕ}
      (em : m ≡ total input_amount x) (en : n ≡ total output_amount y) where
    pub last_5 : (m ≡ n → ⊥) → LastOf x y count (Err SumsDiffer)
    last_5 differ = record {
      answered = λ t ex ey ec fit.
          cause_5 house_genesis t fit (sym once ∙ named t ef ex ec) (em ∙ ap (total input_amount) (sym ex))
          (en ∙ ap (total output_amount) (sym ey)) differ;
    }

    pub last_0 : m ≡ n → LastOf x y count (Ok tt)
    last_0 agree = record {
      answered = λ t ex ey ec fit.
          cause_0 house_genesis t fit (sym once ∙ named t ef ex ec) (em ∙ ap (total input_amount) (sym ex))
          (en ∙ ap (total output_amount) (sym ey)) agree;
    }

module _ (l : List ℕ) (at : ℕ) where
  -- the number and the counts as they stand in the bytes
  pub counts_of : {number : ℕ} {found : Bool} → number ≡ word_at l at
      → found ≡ (not (eqb number 0) && leb 1 (byte_at l (at + 4)) && leb (byte_at l (at + 4)) 4
      && leb 1 (byte_at l (at + 5)) && leb (byte_at l (at + 5)) 4)
      → found ≡ counts_fit (transaction_at l at)
  unfolding transaction_at counts_fit
  counts_of en ef = ef ∙ rw en refl

  -- the slots of the transaction are those in the bytes
  pub inputs-of : {found : Bool}
      → found ≡ slots_fit (input_fits house_genesis) (same_input zero_input) (byte_at l (at + 4)) (four_slots 14 (input_at l) (at + 6))
      → found ≡ fits-inputs house_genesis (transaction_at l at)
  unfolding transaction_at inputs_at
  inputs-of e = e

  pub outputs-of : {found : Bool} → true ≡ counts_fit (transaction_at l at) → true ≡ fits-inputs house_genesis (transaction_at l at)
      → found ≡ slots_fit output_fits (same_output zero_output) (byte_at l (at + 5)) (four_slots 9 (output_at l) (at + 62))
      → found ≡ fields_fit house_genesis (transaction_at l at)
  unfolding transaction_at outputs_at
  outputs-of within inputs e = fit-outputs house_genesis (transaction_at l at) within inputs e

  module _ (before : List ℕ) where
    -- a transaction that is refused promises nothing of the words
    pub refuses : {cause : Refusal} {after : List ℕ} → Err cause ≡ cause_of house_genesis (transaction_at l at)
        → TakesTransaction l at before (Err cause) after
    refuses e = record { answered = e; stored = λ none. absurd cc }

    -- its words, put one part behind the other
    pub transaction-run : {number : ℕ} {a b c : List ℕ} → number ≡ word_at l at
        → a ≡ sets before 7 (number ∷ byte_at l (at + 4) ∷ byte_at l (at + 5) ∷ [])
        → b ≡ sets a 10 (four_words input_words 14 (input_at l) (at + 6))
        → c ≡ sets b 30 (four_words output_words 9 (output_at l) (at + 62))
        → c ≡ sets before 7 (words_of (transaction_at l at))
    unfolding transaction_at inputs_at outputs_at words_of
    transaction-run en ea eb ec =
        let head = word_at l at ∷ byte_at l (at + 4) ∷ byte_at l (at + 5) ∷ [] in
        let inputs = four_words input_words 14 (input_at l) (at + 6) in
        behind before 7 (head ++ inputs) (four_words output_words 9 (output_at l) (at + 62)) 23 refl
        (behind before 7 head inputs 3 refl (ea ∙ rw en refl) eb) ec

-- ---- A whole record

pub length_front : (fields : Record) → length (record_words fields) ≡ 7
unfolding record_words
length_front (Register receiver) = refl
length_front (Vote receiver sender verdict) = refl
length_front (Mint receiver index owner amount) = refl
length_front (Turn receiver) = refl

length-all : (fields : Record) (t : Transaction) → length (record_words fields ++ words_of t) ≡ 42
unfolding words_of
length-all fields t = length-append (record_words fields) (words_of t) ∙ ap (λ (n : ℕ). n + 35) (length_front fields)

-- the seven words in front and those of the transaction are all 42
pub record_run : (before : List ℕ) (fields : Record) (t : Transaction) {mid after : List ℕ} → length before ≡ 42
    → mid ≡ sets before 0 (record_words fields) → after ≡ sets mid 7 (words_of t) → after ≡ record_words fields ++ words_of t
record_run before fields t long em ea =
    let words = record_words fields ++ words_of t in
    let whole = behind before 0 (record_words fields) (words_of t) 7 (length_front fields) em ea in
    front before words 42 (length-all fields t) (omega (arith, long)) whole
    ∙ ap (λ (z : List ℕ). words ++ z) (drop_of_length-le before {i = 42} (omega (arith, long)))
    ∙ append-nil words

-- an answer that is no error is ok
pub no-error : (found : Result Unit Refusal) → is_err found ≡ false → found ≡ Ok tt
no-error (Ok passed) e = refl
no-error (Err cause) e = absurd cc

module _ (l : List ℕ) (h : head_cause l ≡ Ok tt) {answer : Result Unit Refusal} {taken : List ℕ} (takes : TakesRecord l answer taken) where
  zeros : (found : Result Unit Refusal) → is_err found ≡ true → answer ≡ found → replicate 42 0 ≡ reading_words (reading_of l)
  unfolding answer_words reading_words words_of
  zeros (Ok passed) e same = absurd cc
  zeros (Err cause) e same = ap reading_words (reading_bad l h (sym takes.answered ∙ same) refl)

  module _ {number : ℕ} {after : List ℕ} (en : number ≡ number_of answer) where
    pub fills-taken : is_err answer ≡ false → after ≡ taken → Fills l number after
    unfolding answer_words reading_words
    fills-taken e ea =
        let none = no-error answer e in
        let good = reading_good l h {fields = record_at l} {t = transaction_in l} (sym takes.answered ∙ none) refl refl refl in
        record {
          answered = en ∙ ap (λ (x : Result Unit Refusal). number_of x) takes.answered;
          filled = ea ∙ takes.stored none ∙ ap reading_words good;
        }

    pub fills-refused : is_err answer ≡ true → after ≡ replicate 42 0 → Fills l number after
    fills-refused e ea = record {
      answered = en ∙ ap (λ (x : Result Unit Refusal). number_of x) takes.answered;
      filled = ea ∙ zeros answer e refl;
    }

-- the front passes, and its words and the transaction's are put one behind the other
module _ (l : List ℕ) (h : head_cause l ≡ Ok tt) (k : (kind_of l ≡ 1) ⊎ (kind_of l ≡ 2)) {fit : Bool} (fits : fit ≡ front-fit l) (pass : fit ≡ true)
    (before : List ℕ) (long : length before ≡ 42) where
  pub takes_record : (at : ℕ) (fields : Record) {answer : Result Unit Refusal} {mid after : List ℕ}
      → transaction_at l at ≡ transaction_in l → fields ≡ record_at l
      → mid ≡ sets before 0 (record_words fields) → TakesTransaction l at mid answer after → TakesRecord l answer after
  takes_record at fields et ef em takes = record {
    answered = sym (front-passes l h k fits pass et takes.answered);
    stored = λ none. record_run before fields (transaction_at l at) long em (takes.stored none) ∙ rw (ef, et) refl;
  }
