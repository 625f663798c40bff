-- A record as the reader gives it and the writers take it: its fields with the transaction beside them.
use Rattle.std.specs.Prelude.{ℕ, cond, Result, Ok, is_ok, List, ◌++◌, length, take}
use Rattle.transaction.specs.declared.Transaction.{Transaction}
use Rattle.transaction.specs.declared.refusal.Refusal.{Refusal}
use Rattle.transaction.specs.Lists.{first_of}
use Rattle.transaction.specs.Tokens.{blank_transaction}
use Rattle.reader.specs.declared.Record.{Record}
use Rattle.reader.specs.declared.Record.TheVariants.{Register, Vote, Mint, Turn}
use Rattle.reader.specs.declared.Reading.{Reading}
use Rattle.reader.specs.Reading.{head_checks, body_checks, taken_of, reading_of}
use Rattle.writer.specs.Layout.{register_bytes, vote_bytes, mint_bytes, turn_bytes}
use Rattle.writer.specs.Writing.{room_checks, register_cause, vote_cause, mint_cause, turn_cause, Writes}

-- the bytes of a record, and the first check that fits where it is to be written
abbrev pub record_bytes : Record → Transaction → List ℕ
record_bytes (Register receiver) t = register_bytes receiver t
record_bytes (Vote receiver sender verdict) t = vote_bytes receiver sender verdict t
record_bytes (Mint receiver index owner amount) t = mint_bytes receiver index owner amount
record_bytes (Turn receiver) t = turn_bytes receiver

abbrev pub record_cause : Record → Transaction → ℕ → Result Unit Refusal
record_cause (Register receiver) t room = register_cause receiver t room
record_cause (Vote receiver sender verdict) t room = vote_cause receiver sender verdict t room
record_cause (Mint receiver index owner amount) t room = mint_cause receiver index owner amount room
record_cause (Turn receiver) t room = turn_cause receiver room

-- the transaction that stands beside the fields read: a genesis token's record (opening) and a turn have none
abbrev pub beside : Record → Transaction → Transaction
beside (Register receiver) t = t
beside (Vote receiver sender verdict) t = t
beside (Mint receiver index owner amount) t = blank_transaction
beside (Turn receiver) t = blank_transaction

-- The reading of a record that was written into lent bytes: its own fields; on a refusal, whatever stood there before.
abbrev pub read_back : Record → Transaction → List ℕ → Reading
read_back fields t before =
    cond (is_ok (record_cause fields t (length before)))
    (record { answer = Ok fields; transaction = beside fields t; taken = length (record_bytes fields t) })
    (reading_of before)

-- Copying a record through its fields: the reader's checks, then 15; the bytes written are the bytes read.
unfoldable pub copy_cause : List ℕ → ℕ → Result Unit Refusal
copy_cause l room = first_of (head_checks l ++ body_checks l ++ room_checks (taken_of l) room)

abbrev pub Copies : List ℕ → List ℕ → Result ℕ Refusal → List ℕ → Type 0
Copies l before answer after = Writes (copy_cause l (length before)) (take (taken_of l) l) before answer after
