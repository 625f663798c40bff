-- What was read of a record, as 42 words: kind, receiver, sender, verdict, index, owner, amount, and the transaction's
-- 35.
use Rattle.std.specs.Prelude.{ℕ, ◌≡◌, Result, Ok, Err, List, [], ◌∷◌, ◌++◌, replicate}
use Rattle.transaction.specs.declared.refusal.Refusal.{Refusal}
use Rattle.transaction.specs.Refusals.{number_of}
use Rattle.reader.specs.declared.Record.{Record}
use Rattle.reader.specs.declared.Record.TheVariants.{Register, Vote, Mint, Turn}
use Rattle.reader.specs.declared.Reading.{Reading}
use Rattle.reader.specs.Reading.{read_cause, reading_of}
use Rattle.words.specs.Words.{words_of}

-- the seven words in front of the transaction; a field that a kind of record does not have is 0
unfoldable pub record_words : Record → List ℕ
record_words (Register receiver) = 1 ∷ receiver ∷ 0 ∷ 0 ∷ 0 ∷ 0 ∷ 0 ∷ []
record_words (Vote receiver sender verdict) = 2 ∷ receiver ∷ sender ∷ verdict ∷ 0 ∷ 0 ∷ 0 ∷ []
record_words (Mint receiver index owner amount) = 3 ∷ receiver ∷ 0 ∷ 0 ∷ index ∷ owner ∷ amount ∷ []
record_words (Turn receiver) = 4 ∷ receiver ∷ 0 ∷ 0 ∷ 0 ∷ 0 ∷ 0 ∷ []

-- seven zeros where the record was refused
unfoldable pub answer_words : Result Record Refusal → List ℕ
answer_words (Ok fields) = record_words fields
answer_words (Err refusal) = replicate 7 0

-- all 42; the transaction beside a refusal, and beside the record of a genesis token (opening) or of a turn, is blank
unfoldable pub reading_words : Reading → List ℕ
reading_words r = answer_words r.answer ++ words_of r.transaction

-- what the exported reader promises: the refusal's number, 0 for none, and every word of the lent fields
pub record Fills (bytes : List ℕ) (answer : ℕ) (after : List ℕ) : Type 0 where
  pub answered : answer ≡ number_of (read_cause bytes)
  pub filled : after ≡ reading_words (reading_of bytes)
