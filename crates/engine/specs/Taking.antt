-- What the parts of the reader promise that put the fields straight from the bytes into the lent words and check them on the way. A part that
-- says no has left some words there: then the record is refused, and all of them are set to 0. All of this is internal: no contract of the interface cites it.
use Rattle.std.specs.Prelude.{ℕ, ◌+◌, ◌*◌, ◌≡◌, Result, Ok, Bool, true, List, [], ◌∷◌, ◌++◌}
use Rattle.std.proofs.lemmas.List.Edits.{sets}
use Rattle.reader.specs.Layout.{transaction_at}
use Rattle.reader.specs.Reading.{read_cause, record_at, transaction_in}
use Rattle.transaction.specs.declared.Input.{Input}
use Rattle.transaction.specs.declared.Output.{Output}
use Rattle.transaction.specs.declared.Transaction.{Transaction}
use Rattle.transaction.specs.declared.refusal.Refusal.{Refusal}
use Rattle.transaction.specs.Checks.{house_genesis, fields_fit, cause_of}
use Rattle.words.specs.Words.{words_of}
use Rattle.engine.specs.Fields.{record_words}

-- four slots one behind the other, of so many bytes each, and their words
abbrev pub four_slots : {S : Type 0} → ℕ → (ℕ → S) → ℕ → List S
four_slots size read at = read at ∷ read (at + size) ∷ read (at + 2 * size) ∷ read (at + 3 * size) ∷ []

abbrev pub four_words : {S : Type 0} → (S → List ℕ) → ℕ → (ℕ → S) → ℕ → List ℕ
four_words words size read at =
    words (read at) ++ words (read (at + size)) ++ words (read (at + 2 * size)) ++ words (read (at + 3 * size))

-- slots: they fit or not, and where they do their words stand from a place on
pub record TakesSlots (fit : Bool) (words before : List ℕ) (to : ℕ) (answer : Bool) (after : List ℕ) : Type 0 where
  pub answered : answer ≡ fit
  pub stored : answer ≡ true → after ≡ sets before to words

-- checks 4 and 5, by the slots and the count of inputs of a transaction that has passed check 3
pub record LastOf (x : List Input) (y : List Output) (count : ℕ) (answer : Result Unit Refusal) : Type 0 where
  pub answered : (t : Transaction) → t.inputs ≡ x → t.outputs ≡ y → t.input_count ≡ count
      → true ≡ fields_fit house_genesis t → answer ≡ cause_of house_genesis t

-- a transaction in the bytes: its checks, and where all pass its words, behind the seven
pub record TakesTransaction (l : List ℕ) (at : ℕ) (before : List ℕ) (answer : Result Unit Refusal) (after : List ℕ) : Type 0 where
  pub answered : answer ≡ cause_of house_genesis (transaction_at l at)
  pub stored : answer ≡ Ok tt → after ≡ sets before 7 (words_of (transaction_at l at))

-- a record with a transaction: its checks, and where all pass all 42 words
pub record TakesRecord (l : List ℕ) (answer : Result Unit Refusal) (after : List ℕ) : Type 0 where
  pub answered : answer ≡ read_cause l
  pub stored : answer ≡ Ok tt → after ≡ record_words (record_at l) ++ words_of (transaction_in l)
