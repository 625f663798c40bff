-- Document 01's starred lines ('Swaps at the edge (* proved)') and its example listing, in one table: `StarredTable`,
-- at the end of this file. Its rows stand in document 01's order, each under the line that it states.
-- `starred` in proofs/Starred.antt proves all of them.
-- Rows about records speak of bytes: the writer's bytes, and one record spelled out.
-- Rows about calls play them from the empty cluster (round).
use Rattle.std.specs.Prelude.{ℕ, zero, suc, ◌≡◌, Result, Ok, Err, true, false, List, [], ◌∷◌, ◌++◌, map, length, take, replicate}
use Rattle.transaction.specs.declared.TokenId.{TokenId}
use Rattle.transaction.specs.declared.Input.{Input}
use Rattle.transaction.specs.declared.Output.{Output}
use Rattle.transaction.specs.declared.Transaction.{Transaction}
use Rattle.transaction.specs.declared.refusal.Refusal.{Refusal}
use Rattle.transaction.specs.declared.refusal.Refusal.TheVariants.{
  TooShort,
  OutOfRange,
  SumsDiffer,
  NumberTaken,
  KnownAlready,
}
use Rattle.transaction.specs.Refusals.{refusal_number}
use Rattle.transaction.specs.Lists.{repeats, first_of}
use Rattle.transaction.specs.Tokens.{zero_input, zero_output, blank_transaction, same_token}
use Rattle.transaction.specs.Checks.{balanced, register_checks}
use Rattle.reader.specs.declared.Record.{Record}
use Rattle.reader.specs.declared.Record.TheVariants.{Register, Vote, Mint, Turn}
use Rattle.reader.specs.declared.Reading.{Reading}
use Rattle.reader.specs.Layout.{byte_at, transaction_at}
use Rattle.reader.specs.Reading.{kind_of, read_cause, taken_of, reading_of, refusal, rest_of}
use Rattle.codec.specs.Records.{record_bytes, record_cause}
use Rattle.model.specs.declared.Token.{Token}
use Rattle.model.specs.declared.Outcome.TheVariants.{Wait, Commit, Abort}
use Rattle.model.specs.declared.Done.TheVariants.{Minted, Registered, Heard, Again}
use Rattle.model.specs.Answers.{Answer, carried_out}
use Rattle.model.specs.Steps.{Ledger, house}
use Rattle.model.specs.Shard.{Call, mint, register, deliver, turn}
use Rattle.model.specs.Cluster.{empty_shards, ledger_at}
use Rattle.model.specs.Totals.{total_held}
use Rattle.model.specs.Model.{play, play_answers}

-- ---- What is held

-- a token's id (name) at a shard
abbrev pub id_at : ℕ → Token → TokenId
id_at shard held = record { shard = shard; creator = held.creator; index = held.index }

-- the ids of the tokens held, shard by shard; `shard` is the first one's number
unfoldable pub ids_held : ℕ → List Ledger → List TokenId
ids_held shard [] = []
ids_held shard (ledger ∷ shards) = map (id_at shard) ledger.tokens ++ ids_held (suc shard) shards

-- ---- What lists of calls leave, played from the empty cluster

-- the answers
abbrev pub answers_to : List Call → List Answer
answers_to calls = play_answers house calls

-- the eight ledgers afterwards
abbrev pub shards_after : List Call → List Ledger
shards_after calls = (play house calls).shards

-- the tokens that a shard then holds
abbrev pub tokens_at : ℕ → List Call → List Token
tokens_at shard calls = (ledger_at house (shards_after calls) shard).tokens

-- the ids of all tokens then held
abbrev pub ids_after : List Call → List TokenId
ids_after calls = ids_held 0 (shards_after calls)

-- the amount then held in all shards
abbrev pub total_after : List Call → ℕ
total_after calls = total_held (shards_after calls)

-- ---- Records

-- the fields of the record that asks for a call
abbrev pub fields_of : Call → Record
fields_of (mint receiver index owner amount) = Mint receiver index owner amount
fields_of (register receiver t) = Register receiver
fields_of (deliver receiver sender verdict t) = Vote receiver sender verdict
fields_of (turn receiver) = Turn receiver

-- and its transaction (swap); the record of a genesis token (opening) or of a turn has none
abbrev pub transaction_of : Call → Transaction
transaction_of (mint receiver index owner amount) = blank_transaction
transaction_of (register receiver t) = t
transaction_of (deliver receiver sender verdict t) = t
transaction_of (turn receiver) = blank_transaction

-- its bytes, as a writer writes them
abbrev pub bytes_of : Call → List ℕ
bytes_of call = record_bytes (fields_of call) (transaction_of call)

-- the bytes of several records, one behind the other
abbrev pub stretch_of : List Call → List ℕ
stretch_of [] = []
stretch_of (call ∷ calls) = bytes_of call ++ stretch_of calls

-- its reading where nothing is refused: all its fields, all its bytes taken
abbrev pub read_as : Call → Reading
read_as call = record { answer = Ok (fields_of call); transaction = transaction_of call; taken = length (bytes_of call) }

-- why a writer refuses it where there is just room, ok where it is written
abbrev pub writer_cause : Call → Result Unit Refusal
writer_cause call = record_cause (fields_of call) (transaction_of call) (length (bytes_of call))

-- It passes: the bytes are read as these fields, the writer writes them, and the empty cluster carries the call out.
abbrev pub Passes : Call → Type 0
Passes call =
    (reading_of (bytes_of call) ≡ read_as call)
    × (writer_cause call ≡ Ok tt)
    × (map carried_out (answers_to (call ∷ [])) ≡ true ∷ [])

-- It is refused so: by the reader, which takes all its bytes, so that reading goes on behind it; by the writer;
-- and by the empty cluster.
abbrev pub Gives : Refusal → Call → Type 0
Gives cause call =
    (reading_of (bytes_of call) ≡ refusal cause (length (bytes_of call)))
    × (writer_cause call ≡ Err cause)
    × (answers_to (call ∷ []) ≡ Err cause ∷ [])

-- so many records of a longer stretch, each read from the place where the one before it ended
unfoldable pub readings : ℕ → List ℕ → List Reading
readings zero bytes = []
readings (suc n) bytes = reading_of bytes ∷ readings n (rest_of bytes)

-- a whole record of kind 1 stands in front: only checks 3, 4 and 5 of its receiver and its transaction are left,
-- and 100 bytes are taken
abbrev pub WholeRegistration : List ℕ → Type 0
WholeRegistration bytes =
    (read_cause bytes ≡ first_of (register_checks house.genesis (byte_at bytes 1) (transaction_at bytes 2)))
    × (taken_of bytes ≡ 100)

-- ---- Small transactions, tokens and calls

-- an input: a token's shard, creator (making swap) and index (position), its owner (household) and its amount
abbrev pub input : ℕ → ℕ → ℕ → ℕ → ℕ → Input
input shard creator index owner amount = record {
  token = record { shard = shard; creator = creator; index = index };
  owner = owner;
  amount = amount;
}

-- an output: a shard, an owner and an amount
abbrev pub output : ℕ → ℕ → ℕ → Output
output shard owner amount = record { shard = shard; owner = owner; amount = amount }

-- the transaction of a number, its inputs and its outputs, with unused slots zero
abbrev pub make : ℕ → List Input → List Output → Transaction
make number xs ys = record {
  number = number;
  input_count = length xs;
  output_count = length ys;
  inputs = take 4 (xs ++ replicate 4 zero_input);
  outputs = take 4 (ys ++ replicate 4 zero_output);
}

-- a held token: its creator and index, its owner and amount,
-- and the number of the transaction that it is pledged to, 0 for none
abbrev pub token : ℕ → ℕ → ℕ → ℕ → ℕ → Token
token creator index owner amount pledge = record {
  creator = creator;
  index = index;
  owner = owner;
  amount = amount;
  pledge = pledge;
}

-- a token's id: its shard, creator and index
abbrev pub id : ℕ → ℕ → ℕ → TokenId
id shard creator index = record { shard = shard; creator = creator; index = index }

-- the genesis token (opening) that most rows speak of: at shard 0, index 0, owner 10, amount 3
abbrev pub opened : Call
opened = mint 0 0 10 3

-- a transaction that names it rightly, for a token at shard 1: it waits for shard 1's vote
abbrev pub claim : ℕ → Transaction
claim number = make number (input 0 0 0 10 3 ∷ []) (output 1 11 3 ∷ [])

-- one that names it rightly, for a token at shard 0: it is decided by its registration
abbrev pub alone : ℕ → Transaction
alone number = make number (input 0 0 0 10 3 ∷ []) (output 0 11 3 ∷ [])

-- number 6: that token with another owner
abbrev pub wrong_owner : Transaction
wrong_owner = make 6 (input 0 0 0 99 3 ∷ []) (output 0 11 3 ∷ [])

-- number 6: that token rightly, and a token that is not held
abbrev pub half : Transaction
half = make 6 (input 0 0 0 10 3 ∷ input 0 0 1 10 1 ∷ []) (output 0 11 4 ∷ [])

-- inputs 3 and 2, and one output
abbrev pub three_and_two : ℕ → Transaction
three_and_two amount = make 1 (input 0 0 0 10 3 ∷ input 0 0 1 10 2 ∷ []) (output 0 11 amount ∷ [])

-- number 7, from one shard to another
abbrev pub pass : ℕ → ℕ → Transaction
pass from to = make 7 (input from 0 0 10 3 ∷ []) (output to 20 3 ∷ [])

-- two transactions numbered 7, of shards 0 and 1 and of shards 2 and 3:
-- registered at both of their shards, and both votes delivered
abbrev pub sevens : List Call
sevens =
    mint 0 0 10 3
    ∷ mint 2 0 10 3
    ∷ register 0 (pass 0 1)
    ∷ register 1 (pass 0 1)
    ∷ register 2 (pass 2 3)
    ∷ register 3 (pass 2 3)
    ∷ deliver 0 1 1 (pass 0 1)
    ∷ deliver 1 0 1 (pass 0 1)
    ∷ deliver 2 3 1 (pass 2 3)
    ∷ deliver 3 2 1 (pass 2 3)
    ∷ []

-- ---- Document 01's example

-- swap 5, which takes both tokens and gives household 10 3 portions at pantry 1,
-- then household 20 2 portions at pantry 0
abbrev pub example5 : Transaction
example5 = make 5 (input 0 0 0 10 3 ∷ input 1 0 0 20 2 ∷ []) (output 1 10 3 ∷ output 0 20 2 ∷ [])

-- its registration at shard 0, byte by byte: kind, receiver, number, counts; four inputs; four outputs
abbrev pub example5_bytes : List ℕ
example5_bytes =
    1 ∷ 0 ∷ 0 ∷ 0 ∷ 0 ∷ 5 ∷ 2 ∷ 2
    ∷ 0 ∷ 0 ∷ 0 ∷ 0 ∷ 0 ∷ 0 ∷ 0 ∷ 0 ∷ 0 ∷ 10 ∷ 0 ∷ 0 ∷ 0 ∷ 3
    ∷ 1 ∷ 0 ∷ 0 ∷ 0 ∷ 0 ∷ 0 ∷ 0 ∷ 0 ∷ 0 ∷ 20 ∷ 0 ∷ 0 ∷ 0 ∷ 2
    ∷ 0 ∷ 0 ∷ 0 ∷ 0 ∷ 0 ∷ 0 ∷ 0 ∷ 0 ∷ 0 ∷ 0 ∷ 0 ∷ 0 ∷ 0 ∷ 0
    ∷ 0 ∷ 0 ∷ 0 ∷ 0 ∷ 0 ∷ 0 ∷ 0 ∷ 0 ∷ 0 ∷ 0 ∷ 0 ∷ 0 ∷ 0 ∷ 0
    ∷ 1 ∷ 0 ∷ 0 ∷ 0 ∷ 10 ∷ 0 ∷ 0 ∷ 0 ∷ 3
    ∷ 0 ∷ 0 ∷ 0 ∷ 0 ∷ 20 ∷ 0 ∷ 0 ∷ 0 ∷ 2
    ∷ 0 ∷ 0 ∷ 0 ∷ 0 ∷ 0 ∷ 0 ∷ 0 ∷ 0 ∷ 0
    ∷ 0 ∷ 0 ∷ 0 ∷ 0 ∷ 0 ∷ 0 ∷ 0 ∷ 0 ∷ 0
    ∷ []

-- another transaction numbered 5
abbrev pub other5 : Transaction
other5 = make 5 (input 0 0 0 10 3 ∷ []) (output 1 10 3 ∷ [])

-- opening to 0, opening to 1; swap 5 registered at 0, then 1; yes from 1 to 0; yes from 0 to 1, twice
abbrev pub example : List Call
example =
    mint 0 0 10 3
    ∷ mint 1 0 20 2
    ∷ register 0 example5
    ∷ register 1 example5
    ∷ deliver 0 1 1 example5
    ∷ deliver 1 0 1 example5
    ∷ deliver 1 0 1 example5
    ∷ []

-- cut after line 5
abbrev pub cut : List Call
cut = take 5 example

-- ---- The table

-- Ten rows for the ten starred lines, quoted in front of them, and one for the example;
-- what stands below a line says how the row states it.
pub record StarredTable : Type 0 where
  -- * Empty input: the one line TOTAL 0.
  -- No bytes: 2, nothing taken, nothing behind. No calls: no answers, eight empty ledgers, and the amount held is 0.
  -- The listing's own line is to stand here too, once there is a definition of it.
  pub empty-input :
      (reading_of [] ≡ refusal TooShort 0)
      × (rest_of [] ≡ [])
      × (answers_to [] ≡ [])
      × (shards_after [] ≡ empty_shards house)
      × (total_after [] ≡ 0)
  -- * 99 bytes of kind 1: 2. 100 bytes: read.
  -- Any 99 bytes of kind 1; of any 100 only checks 3 to 5 of the fields can refuse, and all are taken;
  -- and the example's swap, byte by byte.
  pub length_of_kind_1 :
      ((bytes : List ℕ) → kind_of bytes ≡ 1 → length bytes ≡ 99 → reading_of bytes ≡ refusal TooShort 99)
      × ((bytes : List ℕ) → kind_of bytes ≡ 1 → length bytes ≡ 100 → WholeRegistration bytes)
      × (bytes_of (register 0 example5) ≡ example5_bytes)
      × (reading_of (take 99 example5_bytes) ≡ refusal TooShort 99)
      × (length example5_bytes ≡ 100)
      × (reading_of example5_bytes ≡ read_as (register 0 example5))
  -- * Portions 1,000,000 pass; 1,000,001 and 0 give 3.
  -- At an opening, and at an input and an output; then each of them alone out of range, with equal sums.
  pub amounts :
      Passes (mint 0 0 10 1000000)
      × Passes (register 0 (make 1 (input 0 0 0 10 1000000 ∷ []) (output 0 11 1000000 ∷ [])))
      × Gives OutOfRange (mint 0 0 10 1000001)
      × Gives OutOfRange (register 0 (make 1 (input 0 0 0 10 1000001 ∷ []) (output 0 11 1000000 ∷ output 0 12 1 ∷ [])))
      × Gives OutOfRange (register 0 (make 1 (input 0 0 0 10 1000000 ∷ input 0 0 1 10 1 ∷ []) (output 0 11 1000001 ∷ [])))
      × Gives OutOfRange (mint 0 0 10 0)
      × Gives OutOfRange (register 0 (make 1 (input 0 0 0 10 3 ∷ input 0 0 1 10 0 ∷ []) (output 0 11 3 ∷ [])))
      × Gives OutOfRange (register 0 (make 1 (input 0 0 0 10 3 ∷ []) (output 0 11 3 ∷ output 0 12 0 ∷ [])))
  -- * Input position 4 of making swap 9: 3. Position 127 of making swap 0: passes.
  pub input-index :
      Gives OutOfRange (register 0 (make 1 (input 0 9 4 10 3 ∷ []) (output 0 11 3 ∷ [])))
      × Passes (register 0 (make 1 (input 0 0 127 10 3 ∷ []) (output 0 11 3 ∷ [])))
  -- * Inputs 3 and 2, outputs 5: balanced. Outputs 4: 5.
  pub sums :
      (balanced (three_and_two 5) ≡ true)
      × Passes (register 0 (three_and_two 5))
      × (balanced (three_and_two 4) ≡ false)
      × Gives SumsDiffer (register 0 (three_and_two 4))
  -- * Two swaps name one held token rightly: the first registered votes yes, the other no.
  -- In either order: the first one waits, and the token is pledged to it; the other one's no aborts it (document 02, 5).
  -- And where the first one is decided at once, the token is gone.
  pub two-claims :
      (answers_to (opened ∷ register 0 (claim 1) ∷ register 0 (claim 2) ∷ []) ≡ Ok Minted ∷ Ok (Registered true Wait) ∷ Ok (Registered false Abort) ∷ [])
      × (tokens_at 0 (opened ∷ register 0 (claim 1) ∷ register 0 (claim 2) ∷ []) ≡ token 0 0 10 3 1 ∷ [])
      × (answers_to (opened ∷ register 0 (claim 2) ∷ register 0 (claim 1) ∷ [])
      ≡ Ok Minted ∷ Ok (Registered true Wait) ∷ Ok (Registered false Abort) ∷ [])
      × (tokens_at 0 (opened ∷ register 0 (claim 2) ∷ register 0 (claim 1) ∷ []) ≡ token 0 0 10 3 2 ∷ [])
      × (answers_to (opened ∷ register 0 (alone 1) ∷ register 0 (alone 2) ∷ [])
      ≡ Ok Minted ∷ Ok (Registered true Commit) ∷ Ok (Registered false Abort) ∷ [])
      × (tokens_at 0 (opened ∷ register 0 (alone 1) ∷ register 0 (alone 2) ∷ []) ≡ token 1 0 11 3 0 ∷ [])
  -- * Right token, wrong household: no, and nothing is pledged.
  -- So a swap that names it rightly afterwards gets yes.
  pub wrong-owner :
      (answers_to (opened ∷ register 0 wrong_owner ∷ []) ≡ Ok Minted ∷ Ok (Registered false Abort) ∷ [])
      × (tokens_at 0 (opened ∷ register 0 wrong_owner ∷ []) ≡ token 0 0 10 3 0 ∷ [])
      × (answers_to (opened ∷ register 0 wrong_owner ∷ register 0 (claim 1) ∷ [])
      ≡ Ok Minted ∷ Ok (Registered false Abort) ∷ Ok (Registered true Wait) ∷ [])
  -- * One input available, one not: no, and the first stays pledged.
  -- So a swap that names it rightly afterwards gets no.
  pub one-available :
      (answers_to (opened ∷ register 0 half ∷ []) ≡ Ok Minted ∷ Ok (Registered false Abort) ∷ [])
      × (tokens_at 0 (opened ∷ register 0 half ∷ []) ≡ token 0 0 10 3 6 ∷ [])
      × (answers_to (opened ∷ register 0 half ∷ register 0 (claim 1) ∷ [])
      ≡ Ok Minted ∷ Ok (Registered false Abort) ∷ Ok (Registered false Abort) ∷ [])
  -- * Swap 5 registered again: 8. Another swap numbered 5: 7.
  -- Both leave all as it was. It is the same once swap 5 is decided.
  pub number-again :
      (answers_to (opened ∷ register 0 example5 ∷ register 0 example5 ∷ register 0 other5 ∷ [])
      ≡ Ok Minted ∷ Ok (Registered true Wait) ∷ Err KnownAlready ∷ Err NumberTaken ∷ [])
      × (shards_after (opened ∷ register 0 example5 ∷ register 0 example5 ∷ register 0 other5 ∷ [])
      ≡ shards_after (opened ∷ register 0 example5 ∷ []))
      × (answers_to (cut ++ (register 0 example5 ∷ register 0 other5 ∷ []))
      ≡ answers_to cut ++ (Err KnownAlready ∷ Err NumberTaken ∷ []))
      × (shards_after (cut ++ (register 0 example5 ∷ register 0 other5 ∷ [])) ≡ shards_after cut)
  -- * Two swaps numbered 7, one of pantries 0 and 1, one of 2 and 3: both may commit; the token names differ by pantry.
  -- Registered at their shards and with their votes delivered, both commit at all of them;
  -- the ids of the tokens then held.
  pub two-sevens :
      (answers_to sevens ≡ Ok Minted ∷ Ok Minted ∷ replicate 4 (Ok (Registered true Wait)) ++ replicate 4 (Ok (Heard Commit)))
      × (ids_after sevens ≡ id 1 7 0 ∷ id 3 7 0 ∷ [])
      × (repeats same_token (ids_after sevens) ≡ false)
  -- The listing program's example: 1 0 OPENED, 2 1 OPENED, 3 0 YES WAIT, 4 1 YES WAIT, 5 0 HEARD COMMIT,
  -- 6 1 HEARD COMMIT, 7 1 AGAIN COMMIT, TOTAL 5.
  -- Pantry 0 then holds (0, 5, 1), pantry 1 holds (1, 5, 0). Cut after line 5, TOTAL is 4.
  -- The seven records are read one behind the other; the calls' answers; the tokens held, and no others;
  -- in the cut case shard 1 still has its opening.
  pub example_listing :
      (readings 7 (stretch_of example) ≡ map read_as example)
      × (answers_to example
      ≡ Ok Minted ∷ Ok Minted ∷ Ok (Registered true Wait) ∷ Ok (Registered true Wait) ∷ Ok (Heard Commit) ∷ Ok (Heard Commit) ∷ Ok (Again Commit) ∷ [])
      × (tokens_at 0 example ≡ token 5 1 20 2 0 ∷ [])
      × (tokens_at 1 example ≡ token 5 0 10 3 0 ∷ [])
      × (ids_after example ≡ id 0 5 1 ∷ id 1 5 0 ∷ [])
      × (total_after example ≡ 5)
      × (ids_after cut ≡ id 0 5 1 ∷ id 1 0 0 ∷ [])
      × (total_after cut ≡ 4)
  -- The numbers that the lines name, of the refusals that the rows name.
  pub numbers :
      map refusal_number (TooShort ∷ OutOfRange ∷ SumsDiffer ∷ NumberTaken ∷ KnownAlready ∷ []) ≡ 2 ∷ 3 ∷ 5 ∷ 7 ∷ 8 ∷ []
