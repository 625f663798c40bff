-- What the reader answers: rows 1 to 5 of document 01's table of refusals, and the fields of each kind of record.
use Rattle.std.specs.Prelude.{ℕ, ◌+◌, ◌≡◌, Bool, cond, Result, Err, is_ok, is_none, unwrap_or, List, [], ◌∷◌, ◌++◌, eqb, leb, length, drop}
use Rattle.transaction.specs.declared.Transaction.{Transaction}
use Rattle.transaction.specs.declared.refusal.Refusal.{Refusal}
use Rattle.transaction.specs.declared.refusal.Refusal.TheVariants.{UnknownKind, TooShort}
use Rattle.transaction.specs.Refusals.{number_of, answer_of}
use Rattle.transaction.specs.Lists.{first_of}
use Rattle.transaction.specs.Tokens.{blank_transaction}
use Rattle.transaction.specs.Checks.{house_genesis, register_checks, vote_checks, mint_checks, turn_checks}
use Rattle.reader.specs.declared.Record.{Record}
use Rattle.reader.specs.declared.Record.TheVariants.{Register, Vote, Mint, Turn}
use Rattle.reader.specs.declared.Reading.{Reading}
use Rattle.reader.specs.Layout.{byte_at, word_at, body_length, transaction_at}

abbrev pub kind_of : List ℕ → ℕ
kind_of l = byte_at l 0

-- what holds for kind 1, for kind 2, for kind 3, and for the kind that is left
abbrev pub by_kind : {A : Type 0} → ℕ → A → A → A → A → A
by_kind kind register vote mint turn = cond (eqb kind 1) register (cond (eqb kind 2) vote (cond (eqb kind 3) mint turn))

-- the length of the body that the kind fixes, 0 for a kind that is not 1 to 4
abbrev pub body_of : List ℕ → ℕ
body_of l = unwrap_or (body_length (kind_of l)) 0

-- 2 for no bytes; 1 for a kind that is not 1 to 4; 2 for fewer bytes than the kind's length
abbrev pub head_checks : List ℕ → List (Bool × Refusal)
head_checks l =
    (eqb (length l) 0, TooShort)
    ∷ (is_none (body_length (kind_of l)), UnknownKind)
    ∷ (leb (length l) (body_of l), TooShort)
    ∷ []

-- 3, 4, 5 of the fields
abbrev pub body_checks : List ℕ → List (Bool × Refusal)
body_checks l =
    by_kind (kind_of l)
    (register_checks house_genesis (byte_at l 1) (transaction_at l 2))
    (vote_checks house_genesis (byte_at l 1) (byte_at l 2) (byte_at l 3) (transaction_at l 4))
    (mint_checks house_genesis (byte_at l 1) (byte_at l 2) (word_at l 3) (word_at l 7))
    (turn_checks (byte_at l 1))

-- the order: 2 for no bytes, then 1, 2, 3, 4, 5; ok where a record is read
unfoldable pub head_cause : List ℕ → Result Unit Refusal
head_cause l = first_of (head_checks l)

unfoldable pub read_cause : List ℕ → Result Unit Refusal
read_cause l = first_of (head_checks l ++ body_checks l)

-- the fields of the record, and its transaction; a genesis token's record (opening) and a turn have none
unfoldable pub record_at : List ℕ → Record
record_at l =
    by_kind (kind_of l)
    (Register (byte_at l 1))
    (Vote (byte_at l 1) (byte_at l 2) (byte_at l 3))
    (Mint (byte_at l 1) (byte_at l 2) (word_at l 3) (word_at l 7))
    (Turn (byte_at l 1))

unfoldable pub transaction_in : List ℕ → Transaction
transaction_in l = by_kind (kind_of l) (transaction_at l 2) (transaction_at l 4) blank_transaction blank_transaction

-- The record's length, known also where its fields are refused.
-- Where no whole record stands there (1 and 2), all of the bytes: nothing is behind it.
unfoldable pub taken_of : List ℕ → ℕ
taken_of l = cond (is_ok (head_cause l)) (body_of l + 1) (length l)

-- the reading: the answer, the bytes taken, and the transaction; beside a refusal that is blank
unfoldable pub reading_of : List ℕ → Reading
reading_of l =
    record {
      answer = answer_of (read_cause l) (record_at l);
      transaction = cond (is_ok (read_cause l)) (transaction_in l) blank_transaction;
      taken = taken_of l;
    }

abbrev pub refusal : Refusal → ℕ → Reading
refusal cause taken = record { answer = Err cause; transaction = blank_transaction; taken = taken }

-- what the reader promises: the number of the first check that fits, and the whole reading
pub record Reads (l : List ℕ) (r : Reading) : Type 0 where
  pub number : number_of r.answer ≡ number_of (read_cause l)
  pub whole : r ≡ reading_of l

-- the part of the bytes behind the record
unfoldable pub rest_of : List ℕ → List ℕ
rest_of l = drop (taken_of l) l
