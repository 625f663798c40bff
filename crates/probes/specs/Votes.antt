-- The sum over many records that are read one behind the other: what a benchmark compares, so that the reading cannot
-- be left out.
use Rattle.std.specs.Prelude.{ℕ, zero, suc, ◌+◌, Result, Ok, Err, cond, List, length, ◌==◌, slice_index_or}
use Rattle.transaction.specs.declared.Transaction.{Transaction}
use Rattle.transaction.specs.declared.refusal.Refusal.{Refusal}
use Rattle.transaction.specs.Refusals.{refusal_number}
use Rattle.transaction.specs.Tokens.{zero_input, zero_output}
use Rattle.reader.specs.declared.Record.{Record}
use Rattle.reader.specs.declared.Record.TheVariants.{Register, Vote, Mint, Turn}
use Rattle.reader.specs.Reading.{reading_of, rest_of}

-- of a vote's transaction: its number, the second output's owner and the second input's amount
unfoldable pub transaction_worth : Transaction → ℕ
transaction_worth t = t.number + (slice_index_or t.outputs 1 zero_output).owner + (slice_index_or t.inputs 1 zero_input).amount

-- what a record adds to the sum, by its kind
unfoldable pub record_worth : Record → Transaction → ℕ
record_worth (Vote receiver sender verdict) t = receiver + sender + verdict + transaction_worth t
record_worth (Register receiver) t = receiver
record_worth (Mint receiver index owner amount) t = amount
record_worth (Turn receiver) t = receiver

-- what was read of a record, or a million and the refusal's number
unfoldable pub worth_of : Result Record Refusal → Transaction → ℕ
worth_of (Ok fields) t = record_worth fields t
worth_of (Err refusal) t = 1000000 + refusal_number refusal

-- where the next record is read: behind this one, or at the front again where nothing is left
unfoldable pub next_bytes : List ℕ → List ℕ → List ℕ
next_bytes whole left = cond (length (rest_of left) == 0) whole (rest_of left)

-- the sum over so many records, from those that are left on
unfoldable pub sum_of : List ℕ → List ℕ → ℕ → ℕ
sum_of whole left zero = 0
sum_of whole left (suc n) =
    worth_of (reading_of left).answer (reading_of left).transaction + sum_of whole (next_bytes whole left) n
