-- Document 01's example, cases of 'Swaps at the edge' about registrations and votes, and document 02's, played through the model: facts by computation.
use Prim.Native.Nat.{ℕ}
use mathlib.Core.Path.{◌≡◌, refl}
use mathlib.Core.Bool.{true, false}
use mathlib.Core.Option.{Option, none, some}
use mathlib.Core.List.{List, [], ◌∷◌, ◌++◌}
use lib.ListN.{length, take, replicate}
use Rattle.transaction.specs.declared.TokenId.{TokenId}
use Rattle.transaction.specs.declared.Input.{Input}
use Rattle.transaction.specs.declared.Output.{Output}
use Rattle.transaction.specs.declared.Transaction.{Transaction}
use Rattle.transaction.specs.Tokens.{zero_input, zero_output, takes_part, same_token, same_input, same_output, same_transaction}
use Rattle.transaction.specs.Checks.{index_fits, value_fits, input_fits, output_fits, counts_fit, fields_fit, same_name, named_twice, balanced, mint_fits}
use Rattle.model.specs.declared.Token.{Token}
use Rattle.model.specs.declared.Finding.{Finding}
use Rattle.model.specs.declared.Finding.TheVariants.{Available, NotHeld, OtherOwner, OtherAmount, Pledged}
use Rattle.model.specs.Answers.{Report}
use Rattle.model.specs.declared.Outcome.TheVariants.{Wait, Commit, Abort}
use Rattle.model.specs.declared.Done.TheVariants.{Minted, Registered, Heard, Again, Turned, Brought}
use Rattle.model.specs.Lists.{and_then}
use Rattle.model.specs.Steps.{
  Limits,
  house,
  inputs_here,
  available,
  available_here,
  finding,
  findings,
  keeping,
  pledges,
  vote,
  newly_known,
  decide,
  outputs_here,
  made_here,
  commit,
  after_mint,
  after_register,
  after_vote,
  place_of,
  entry_of,
  freeing,
  after_turn,
}
use Rattle.model.specs.Shard.{
  Call,
  mint,
  register,
  deliver,
  reserved_by,
  reserved,
  held_off,
  mint_refusals,
  register_refusals,
  deliver_form,
  deliver_refusals,
  hear,
  shard_step,
  turn,
  turn_refusals,
  bring,
}
use Rattle.model.specs.Cluster.{ledger_at, gave, not_given, at_shard, cluster_step}
use Rattle.model.specs.Model.{log_after, minted_after, step, after, answers, play, play_answers, Entry}
use Rattle.model.specs.Demand.{
  outcome_in,
  heard_all_in,
  heard_all_at,
  committed,
  serial_from,
  serial_order,
  Value,
  genesis_ledger,
  take_inputs,
  add_outputs,
  spend,
  serial_run,
  last_place,
}
use Rattle.model.specs.Findings.{report, report_at, reported}
use Rattle.std.specs.Prelude.{Result, Ok, Err}
use Rattle.transaction.specs.declared.refusal.Refusal.{Refusal}
use Rattle.transaction.specs.declared.refusal.Refusal.TheVariants.{
  OutOfRange,
  NumberTaken,
  KnownAlready,
  TransactionsFull,
  TokensFull,
  NumberUnknown,
  OtherVerdict,
  MintTooLate,
  IndexGiven,
  VoteNotGiven,
  HeldOff,
  NoSuchNumber,
  TurnedAlready,
}

-- ---- Small transactions

-- the token of a shard, creator and index, with its owner and amount; an output to a shard
input : ℕ → ℕ → ℕ → ℕ → ℕ → Input
input shard creator index owner amount = record { token = record { shard = shard; creator = creator; index = index }; owner = owner; amount = amount }

-- an output to a shard
output : ℕ → ℕ → ℕ → Output
output shard owner amount = record { shard = shard; owner = owner; amount = amount }

-- the transaction of a number, its inputs and its outputs, with unused slots zero
make : ℕ → List Input → List Output → Transaction
make number xs ys = record {
  number = number;
  input_count = length xs;
  output_count = length ys;
  inputs = take 4 (xs ++ replicate 4 zero_input);
  outputs = take 4 (ys ++ replicate 4 zero_output);
}

-- the tokens that a shard holds after the calls, and what each of the calls is answered
tokens_after : List Call → ℕ → List Token
tokens_after calls shard = (ledger_at house (play house calls).shards shard).tokens

-- what the serial ledger has under an id after the calls
serial_value : List Call → TokenId → Option Value
serial_value calls id = and_then (λ ledger. ledger id) (serial_run (genesis_ledger (play house calls).minted) (serial_order (play house calls)))

-- a held token
token : ℕ → ℕ → ℕ → ℕ → ℕ → Token
token creator index owner amount pledge = record { creator = creator; index = index; owner = owner; amount = amount; pledge = pledge }

-- an entry of the log
entry : ℕ → ℕ → Transaction → List Input → Entry
entry place shard t inputs = record { place = place; shard = shard; transaction = t; available = inputs }

-- document 01's swap 5: both tokens change hands
both : Transaction
both = make 5 (input 0 0 0 10 3 ∷ input 1 0 0 20 2 ∷ []) (output 1 10 3 ∷ output 0 20 2 ∷ [])

-- the first four calls of document 01's list, and its last three
known-at-both : List Call
known-at-both = mint 0 0 10 3 ∷ mint 1 0 20 2 ∷ register 0 both ∷ register 1 both ∷ []

-- the last three of document 01's calls
votes : List Call
votes = deliver 0 1 1 both ∷ deliver 1 0 1 both ∷ deliver 1 0 1 both ∷ []

-- transactions of shard 0 alone, of the token that it is given first, rightly and with another owner; of that token and one that is not there
alone : ℕ → Transaction
alone number = make number (input 0 0 0 10 3 ∷ []) (output 0 11 3 ∷ [])

-- of the token that it is given second
alone-second : ℕ → Transaction
alone-second number = make number (input 0 0 1 10 3 ∷ []) (output 0 11 3 ∷ [])

-- the token with another owner
wrong : Transaction
wrong = make 6 (input 0 0 0 99 3 ∷ []) (output 0 11 3 ∷ [])

-- that token and one that is not there
half : Transaction
half = make 6 (input 0 0 0 10 3 ∷ input 0 0 1 10 1 ∷ []) (output 0 11 4 ∷ [])

-- two tokens held at shard 0, the second pledged to transaction 9
two-held : List Token
two-held = token 0 0 10 3 0 ∷ token 0 1 10 1 9 ∷ []

-- both of them and one of shard 1, for a token at shard 2
mixed : Transaction
mixed = make 6 (input 0 0 0 10 3 ∷ input 1 0 0 20 2 ∷ input 0 0 1 10 1 ∷ []) (output 2 11 6 ∷ [])

-- another transaction numbered 5, and one like document 01's in all but an owner
other5 : Transaction
other5 = make 5 (input 0 0 0 10 3 ∷ []) (output 1 10 3 ∷ [])

-- like document 01's in all but an owner
near5 : Transaction
near5 = make 5 (input 0 0 0 10 3 ∷ input 1 0 0 20 2 ∷ []) (output 1 10 3 ∷ output 0 21 2 ∷ [])

-- one numbered 7 between two shards, the token of the first for a token at the second
pass : ℕ → ℕ → Transaction
pass from to = make 7 (input from 0 0 10 3 ∷ []) (output to 20 3 ∷ [])

-- shard 0's token is there and shard 1's is not
torn : Transaction
torn = make 8 (input 0 0 0 10 3 ∷ input 1 0 0 20 2 ∷ []) (output 1 10 3 ∷ output 0 20 2 ∷ [])

-- it is registered at both, and both votes are delivered
torn-apart : List Call
torn-apart = mint 0 0 10 3 ∷ register 0 torn ∷ register 1 torn ∷ deliver 0 1 0 torn ∷ deliver 1 0 1 torn ∷ []

-- shard 0 is to pass on an amount of 2, which another transaction is to make, by that one's number, the output's index and its owner
onward : ℕ → ℕ → ℕ → ℕ → Transaction
onward number creator index owner = make number (input 0 creator index owner 2 ∷ []) (output 0 11 2 ∷ [])

-- two transactions of shards 0 and 1 that each take what the other is to make
crossed : ℕ → ℕ → ℕ → ℕ → Transaction
crossed number other from to = make number (input from other 0 10 3 ∷ []) (output to 10 3 ∷ [])

-- shards 0 and 1 are to swap tokens by way of shard 2
three : Transaction
three = make 9 (input 0 0 0 10 3 ∷ input 1 0 0 20 2 ∷ []) (output 2 10 3 ∷ output 0 20 2 ∷ [])

-- it is registered at all three
known-at-three : List Call
known-at-three = register 0 three ∷ register 1 three ∷ register 2 three ∷ []

-- shard 1's token is not there, and its no has come to shard 0, where shard 2's vote is still missing
early : List Call
early = mint 0 0 10 3 ∷ known-at-three ++ (deliver 0 1 0 three ∷ [])

-- shard 0 is to pass on to shard 1 what document 01's is to make at shard 0
onward-to : ℕ → Transaction
onward-to number = make number (input 0 5 1 20 2 ∷ []) (output 1 11 2 ∷ [])

-- document 01's, registered at shard 0 alone, and its vote delivered to shard 1
brought : List Call
brought = mint 0 0 10 3 ∷ mint 1 0 20 2 ∷ register 0 both ∷ deliver 1 0 1 both ∷ []

-- the findings that a shard reports after the calls, of the transaction of that number
asked : List Call → ℕ → ℕ → List Finding
asked calls shard number = reported (report_at house (play house calls).shards shard number)

-- how many there are, or why the call is refused
abbrev many : Report → Result ℕ Refusal
many (Ok found) = Ok found.count
many (Err refusal) = Err refusal

-- and so of that call
answered : List Call → ℕ → ℕ → Result ℕ Refusal
answered calls shard number = many (report_at house (play house calls).shards shard number)

-- a transaction of that number and these inputs, for a token of their amount at shard 1
claims : ℕ → List Input → ℕ → Transaction
claims number inputs amount = make number inputs (output 1 11 amount ∷ [])

-- shard 0 holds three tokens of owner 10 and amount 3, the third pledged to transaction 9, when it registers the transaction
claimed : Transaction → List Call
claimed t = mint 0 0 10 3 ∷ mint 0 1 10 3 ∷ mint 0 2 10 3 ∷ register 0 (claims 9 (input 0 0 2 10 3 ∷ []) 3) ∷ register 0 t ∷ []

-- limits of two tokens and two transactions
small : Limits
small = record { tokens = 2; transactions = 2; genesis = 2 }

-- ---- What the model says of them

-- the facts
pub record Examples : Type 0 where
  -- document 01's seven calls, and what the shards then hold
  seven_answers : play_answers house (known-at-both ++ votes) ≡ Ok Minted ∷ Ok Minted ∷ Ok (Registered true Wait)
      ∷ Ok (Registered true Wait) ∷ Ok (Heard Commit) ∷ Ok (Heard Commit) ∷ Ok (Again Commit) ∷ []
  seven_0 : tokens_after (known-at-both ++ votes) 0 ≡ token 5 1 20 2 0 ∷ []
  seven_1 : tokens_after (known-at-both ++ votes) 1 ≡ token 5 0 10 3 0 ∷ []
  seven_order : serial_order (play house (known-at-both ++ votes)) ≡ both ∷ []
  -- the serial ledger: the outputs are there, the inputs are gone
  serial-made : serial_value (known-at-both ++ votes) (record { shard = 1; creator = 5; index = 0 }) ≡ some (record { owner = 10; amount = 3 })
  serial-gone : serial_value (known-at-both ++ votes) (record { shard = 0; creator = 0; index = 0 }) ≡ none
  -- cut after line 5: shard 1 still holds its token, pledged
  cut_0 : tokens_after (known-at-both ++ (deliver 0 1 1 both ∷ [])) 0 ≡ token 5 1 20 2 0 ∷ []
  cut_1 : tokens_after (known-at-both ++ (deliver 0 1 1 both ∷ [])) 1 ≡ token 0 0 20 2 5 ∷ []
  -- two transactions name one held token rightly: the first registered votes yes, the other no
  two-claims : play_answers house (mint 0 0 10 3 ∷ register 0 (alone 1) ∷ register 0 (alone 2) ∷ []) ≡ Ok Minted
      ∷ Ok (Registered true Commit) ∷ Ok (Registered false Abort) ∷ []
  two-claims-held : tokens_after (mint 0 0 10 3 ∷ register 0 both ∷ register 0 (alone 2) ∷ []) 0 ≡ token 0 0 10 3 5 ∷ []
  -- right token, wrong owner: no, and nothing is pledged
  wrong-owner : play_answers house (mint 0 0 10 3 ∷ register 0 wrong ∷ []) ≡ Ok Minted ∷ Ok (Registered false Abort) ∷ []
  wrong-owner-held : tokens_after (mint 0 0 10 3 ∷ register 0 wrong ∷ []) 0 ≡ token 0 0 10 3 0 ∷ []
  -- one input available, one not: no, and the first stays pledged
  half-there : play_answers house (mint 0 0 10 3 ∷ register 0 half ∷ register 0 (alone 1) ∷ [])
      ≡ Ok Minted ∷ Ok (Registered false Abort) ∷ Ok (Registered false Abort) ∷ []
  half-there-held : tokens_after (mint 0 0 10 3 ∷ register 0 half ∷ register 0 (alone 1) ∷ []) 0 ≡ token 0 0 10 3 6 ∷ []
  -- the local step's four parts: the inputs here, the available one among them, its pledge beside another's, a no; with outputs only a yes
  local_inputs : inputs_here 0 mixed ≡ input 0 0 0 10 3 ∷ input 0 0 1 10 1 ∷ []
  local_available : available_here 0 two-held mixed ≡ input 0 0 0 10 3 ∷ []
  local_pledges : pledges 6 (available_here 0 two-held mixed) two-held ≡ token 0 0 10 3 6 ∷ token 0 1 10 1 9 ∷ []
  local_message : vote 0 two-held mixed ≡ false
  local_outputs_only : vote 2 two-held mixed ≡ true
  -- registered again: 8; another of that number: 7; also once it is decided
  again_8 : play_answers house (mint 0 0 10 3 ∷ register 0 both ∷ register 0 both ∷ register 0 other5 ∷ []) ≡ Ok Minted
      ∷ Ok (Registered true Wait) ∷ Err KnownAlready ∷ Err NumberTaken ∷ []
  decided_8 : play_answers house (known-at-both ++ (deliver 0 1 1 both ∷ register 0 both ∷ register 0 other5 ∷ []))
      ≡ Ok Minted ∷ Ok Minted ∷ Ok (Registered true Wait) ∷ Ok (Registered true Wait) ∷ Ok (Heard Commit) ∷ Err KnownAlready ∷ Err NumberTaken ∷ []
  -- two transactions numbered 7, one of shards 0 and 1, one of 2 and 3: both commit
  two-sevens : play_answers house (
      mint 0 0 10 3
      ∷ mint 2 0 10 3
      ∷ register 0 (pass 0 1)
      ∷ register 1 (pass 0 1)
      ∷ register 2 (pass 2 3)
      ∷ register 3 (pass 2 3)
      ∷ deliver 1 0 1 (pass 0 1)
      ∷ deliver 3 2 1 (pass 2 3)
      ∷ []
      )
      ≡ Ok Minted ∷ Ok Minted ∷ Ok (Registered true Wait) ∷ Ok (Registered true Wait) ∷ Ok (Registered true Wait)
      ∷ Ok (Registered true Wait) ∷ Ok (Heard Commit) ∷ Ok (Heard Commit) ∷ []
  -- one no among the votes: abort at both shards, and the pledge stays, so that a later transaction finds nothing
  one-no : play_answers house (torn-apart ++ (register 0 (alone 1) ∷ [])) ≡ Ok Minted ∷ Ok (Registered true Wait)
      ∷ Ok (Registered false Abort) ∷ Ok (Heard Abort) ∷ Ok (Heard Abort) ∷ Ok (Registered false Abort) ∷ []
  one-no-held : tokens_after torn-apart 0 ≡ token 0 0 10 3 8 ∷ []
  -- a genesis token after a transaction is known: 13; an index given twice: 14
  late-mint : play_answers house (mint 0 0 10 3 ∷ mint 0 0 10 3 ∷ register 0 both ∷ mint 0 1 10 3 ∷ []) ≡ Ok Minted
      ∷ Err IndexGiven ∷ Ok (Registered true Wait) ∷ Err MintTooLate ∷ []
  -- a vote that was not given: 16, also on a transaction that differs in one field; given, and the receiver does not know it: it is brought
  not-given : play_answers house (mint 0 0 10 3 ∷ register 0 both ∷ deliver 0 1 1 both ∷ deliver 1 0 0 both ∷ deliver 1 0 1 near5 ∷ deliver 1 0 1 both ∷ [])
      ≡ Ok Minted ∷ Ok (Registered true Wait) ∷ Err VoteNotGiven ∷ Err VoteNotGiven ∷ Err VoteNotGiven ∷ Ok (Brought false Abort) ∷ []
  -- given, and the receiver knows its number for a transaction that differs in one field: 7
  near_vote : play_answers house (mint 0 0 10 3 ∷ mint 1 0 20 2 ∷ register 0 near5 ∷ register 1 both ∷ deliver 0 1 1 both ∷ [])
      ≡ Ok Minted ∷ Ok Minted ∷ Ok (Registered true Wait) ∷ Ok (Registered true Wait) ∷ Err NumberTaken ∷ []
  -- a vote to the shard itself: its own is a repeat, the other is not given
  own-vote : play_answers house (mint 0 0 10 3 ∷ register 0 both ∷ deliver 0 0 1 both ∷ deliver 0 0 0 both ∷ []) ≡ Ok Minted
      ∷ Ok (Registered true Wait) ∷ Ok (Again Wait) ∷ Err VoteNotGiven ∷ []
  -- at a lone shard: a record for another shard is 3, and the other verdict from one sender is 12
  lone_3 : (shard_step house 0 (ledger_at house (play house known-at-both).shards 0) (register 1 both)).1 ≡ Err OutOfRange
  lone_12 : (shard_step house 0 (ledger_at house (play house (known-at-both ++ votes)).shards 0) (deliver 0 1 0 both)).1 ≡ Err OtherVerdict
  -- a full shard: 9 and 10 at the stated counts only
  full_9 : play_answers small (mint 0 0 10 3 ∷ register 0 (alone 1) ∷ register 0 (alone 2) ∷ register 0 (alone 3) ∷ [])
      ≡ Ok Minted ∷ Ok (Registered true Commit) ∷ Ok (Registered false Abort) ∷ Err TransactionsFull ∷ []
  full_10 : play_answers small (mint 0 0 10 3 ∷ register 0 (alone 1) ∷ []) ≡ Ok Minted ∷ Ok (Registered true Commit) ∷ []
  over_10 : play_answers small (mint 0 0 10 3 ∷ mint 0 1 10 3 ∷ register 0 (alone 1) ∷ []) ≡ Ok Minted ∷ Ok Minted ∷ Err TokensFull ∷ []
  -- an output here of an undecided transaction passed on: 17, whoever is named as its owner; not where the output is at another shard;
  -- once the first is committed here, the same transaction is registered and voted yes
  held_17 : play_answers house (known-at-both ++ (
      register 0 (onward 6 5 1 20)
      ∷ register 0 (onward 6 5 1 99)
      ∷ register 0 (onward 7 5 0 20)
      ∷ deliver 0 1 1 both
      ∷ register 0 (onward 6 5 1 20)
      ∷ []
      ))
      ≡ Ok Minted ∷ Ok Minted ∷ Ok (Registered true Wait) ∷ Ok (Registered true Wait) ∷ Err HeldOff ∷ Err HeldOff
      ∷ Ok (Registered false Abort) ∷ Ok (Heard Commit) ∷ Ok (Registered true Commit) ∷ []
  -- once it is aborted here, registered and voted no
  aborted_17 : play_answers house (
      mint 0 0 10 3
      ∷ register 0 torn
      ∷ register 1 torn
      ∷ register 0 (onward 9 8 1 20)
      ∷ deliver 0 1 0 torn
      ∷ register 0 (onward 9 8 1 20)
      ∷ []
      )
      ≡ Ok Minted ∷ Ok (Registered true Wait) ∷ Ok (Registered false Abort) ∷ Err HeldOff ∷ Ok (Heard Abort) ∷ Ok (Registered false Abort) ∷ []
  -- a full shard: 10 and 9 go first
  full_17 : play_answers small (mint 0 0 10 3 ∷ register 0 both ∷ register 0 (onward 6 5 1 20) ∷ register 0 (pass 0 1) ∷ register 0 (onward 6 5 1 20) ∷ [])
      ≡ Ok Minted ∷ Ok (Registered true Wait) ∷ Err TokensFull ∷ Ok (Registered false Abort) ∷ Err TransactionsFull ∷ []
  -- two that each take what the other is to make: known at one shard each, they are held off at the other, each until the other is decided, and no vote
  -- brings them
  crossed_17 : play_answers house (
      register 0 (crossed 6 7 1 0)
      ∷ register 1 (crossed 7 6 0 1)
      ∷ register 1 (crossed 6 7 1 0)
      ∷ register 0 (crossed 7 6 0 1)
      ∷ deliver 1 0 1 (crossed 6 7 1 0)
      ∷ []
      )
      ≡ Ok (Registered true Wait) ∷ Ok (Registered true Wait) ∷ Err HeldOff ∷ Err HeldOff ∷ Err HeldOff ∷ []
  -- commit needs every yes: two of three shards heard is not enough
  every_yes : play_answers house (mint 0 0 10 3 ∷ mint 1 0 20 2 ∷ known-at-three ++ (deliver 0 1 1 three ∷ deliver 0 2 1 three ∷ []))
      ≡ Ok Minted ∷ Ok Minted ∷ Ok (Registered true Wait) ∷ Ok (Registered true Wait) ∷ Ok (Registered true Wait) ∷ Ok (Heard Wait) ∷ Ok (Heard Commit) ∷ []
  -- one no suffices, the own one and a heard one; later fresh votes are noted and answer abort, yes and no
  early-no : play_answers house (early ++ (
      deliver 0 2 1 three
      ∷ deliver 0 2 1 three
      ∷ deliver 1 0 1 three
      ∷ deliver 2 0 1 three
      ∷ deliver 2 1 0 three
      ∷ []
      ))
      ≡ Ok Minted ∷ Ok (Registered true Wait) ∷ Ok (Registered false Abort) ∷ Ok (Registered true Wait) ∷ Ok (Heard Abort)
      ∷ Ok (Heard Abort) ∷ Ok (Again Abort) ∷ Ok (Heard Abort) ∷ Ok (Heard Wait) ∷ Ok (Heard Abort) ∷ []
  -- the pledge stays, and no later yes takes the place of the no
  early-held : tokens_after early 0 ≡ token 0 0 10 3 9 ∷ []
  early_12 : (shard_step house 0 (ledger_at house (play house early).shards 0) (deliver 0 1 1 three)).1 ≡ Err OtherVerdict
  -- not all votes are in at that abort, and with the last one they are
  early-missing : heard_all_at house (play house early) 0 three ≡ false
  early_in : heard_all_at house (play house (early ++ (deliver 0 2 1 three ∷ []))) 0 three ≡ true
  -- aborted early, it reserves nothing and holds off nothing
  early_10 : play_answers small (mint 0 0 10 3 ∷ register 0 three ∷ register 1 three ∷ register 0 (alone 6) ∷ deliver 0 1 0 three ∷ register 0 (alone 6) ∷ [])
      ≡ Ok Minted ∷ Ok (Registered true Wait) ∷ Ok (Registered false Abort) ∷ Err TokensFull ∷ Ok (Heard Abort) ∷ Ok (Registered false Abort) ∷ []
  early_17 : play_answers house (
      mint 0 0 10 3
      ∷ register 0 three
      ∷ register 1 three
      ∷ register 0 (onward 10 9 1 20)
      ∷ deliver 0 1 0 three
      ∷ register 0 (onward 10 9 1 20)
      ∷ []
      )
      ≡ Ok Minted ∷ Ok (Registered true Wait) ∷ Ok (Registered false Abort) ∷ Err HeldOff ∷ Ok (Heard Abort) ∷ Ok (Registered false Abort) ∷ []
  -- turning frees what is pledged to an aborted transaction, and a third one spends it; once: 19; no such shard: 3
  turn_frees : play_answers house (torn-apart ++ (register 0 (alone 1) ∷ turn 0 ∷ turn 0 ∷ turn 8 ∷ register 0 (alone 2) ∷ []))
      ≡ Ok Minted ∷ Ok (Registered true Wait) ∷ Ok (Registered false Abort) ∷ Ok (Heard Abort) ∷ Ok (Heard Abort) ∷ Ok (Registered false Abort)
      ∷ Ok Turned ∷ Err TurnedAlready ∷ Err OutOfRange ∷ Ok (Registered true Commit) ∷ []
  turn_freed : tokens_after (torn-apart ++ (turn 0 ∷ [])) 0 ≡ token 0 0 10 3 0 ∷ []
  -- what is pledged to an undecided transaction stays pledged, and that one still commits
  turn_waits : tokens_after (mint 0 0 10 3 ∷ register 0 both ∷ turn 0 ∷ []) 0 ≡ token 0 0 10 3 5 ∷ []
  turn-commits : play_answers house (known-at-both ++ (turn 0 ∷ register 0 (alone 1) ∷ deliver 0 1 1 both ∷ turn 1 ∷ deliver 1 0 1 both ∷ []))
      ≡ Ok Minted ∷ Ok Minted ∷ Ok (Registered true Wait) ∷ Ok (Registered true Wait) ∷ Ok Turned
      ∷ Ok (Registered false Abort) ∷ Ok (Heard Commit) ∷ Ok Turned ∷ Ok (Heard Commit) ∷ []
  -- at a turned shard an abort frees its tokens at once: inside a registration, by the last vote, and by an early no
  turned-own : play_answers house (turn 0 ∷ mint 0 0 10 3 ∷ register 0 half ∷ register 0 (alone 1) ∷ [])
      ≡ Ok Turned ∷ Ok Minted ∷ Ok (Registered false Abort) ∷ Ok (Registered true Commit) ∷ []
  turned-vote : tokens_after (turn 0 ∷ torn-apart) 0 ≡ token 0 0 10 3 0 ∷ []
  turned-early : tokens_after (turn 0 ∷ early) 0 ≡ token 0 0 10 3 0 ∷ []
  -- it frees none that is pledged to another one
  turned-bound : tokens_after (turn 0 ∷ mint 0 0 10 3 ∷ register 0 both ∷ register 0 (alone 1) ∷ []) 0 ≡ token 0 0 10 3 5 ∷ []
  -- and stays turned: a second abort frees too
  turned-still : tokens_after (turn 0 ∷ mint 0 0 10 3 ∷ register 0 half ∷ register 0 torn ∷ register 1 torn ∷ deliver 0 1 0 torn ∷ []) 0
      ≡ token 0 0 10 3 0 ∷ []
  -- another shard's turn frees nothing here
  turned-other : tokens_after (turn 1 ∷ torn-apart) 0 ≡ token 0 0 10 3 8 ∷ []
  -- at a lone shard: a turn of another shard is 3
  lone_turn : (shard_step house 0 (ledger_at house (play house []).shards 0) (turn 1)).1 ≡ Err OutOfRange
  -- a vote brings its transaction, which both votes decide; it is known from then on, and the receiver's own vote is given
  brings : play_answers house (brought ++ (deliver 1 0 1 both ∷ deliver 0 1 1 both ∷ register 1 both ∷ []))
      ≡ Ok Minted ∷ Ok Minted ∷ Ok (Registered true Wait) ∷ Ok (Brought true Commit) ∷ Ok (Again Commit) ∷ Ok (Heard Commit) ∷ Err KnownAlready ∷ []
  brings-held : tokens_after brought 1 ≡ token 5 0 10 3 0 ∷ []
  -- it is logged at the place of the vote's call, and last registration counts it: of two that commit, the one brought last is the newest
  brings-logged : (play house brought).log ≡ entry 4 1 both (input 1 0 0 20 2 ∷ []) ∷ entry 3 0 both (input 0 0 0 10 3 ∷ []) ∷ []
  brings-place : last_place (play house brought).log both ≡ 4
  brings_order : serial_order (play house (
      mint 0 0 10 3
      ∷ mint 0 1 10 3
      ∷ register 0 (pass 0 1)
      ∷ register 0 (alone-second 6)
      ∷ deliver 1 0 1 (pass 0 1)
      ∷ []
      ))
      ≡ pass 0 1 ∷ alone-second 6 ∷ []
  -- three shards: it waits for the third; the own no aborts, and so does the sender's
  brings_waits : play_answers house (mint 0 0 10 3 ∷ mint 1 0 20 2 ∷ register 0 three ∷ deliver 1 0 1 three ∷ deliver 2 1 1 three ∷ deliver 2 0 1 three ∷ [])
      ≡ Ok Minted ∷ Ok Minted ∷ Ok (Registered true Wait) ∷ Ok (Brought true Wait) ∷ Ok (Brought true Wait) ∷ Ok (Heard Commit) ∷ []
  brings-own-no : play_answers house (mint 0 0 10 3 ∷ register 0 three ∷ deliver 1 0 1 three ∷ deliver 2 1 0 three ∷ [])
      ≡ Ok Minted ∷ Ok (Registered true Wait) ∷ Ok (Brought false Abort) ∷ Ok (Brought true Abort) ∷ []
  -- under 9, 10 and 17: refused, nothing is changed; the same vote brings it once that no longer fits
  brings_9 : play_answers small (register 1 three ∷ register 0 (alone 1) ∷ register 0 (alone 2) ∷ deliver 0 1 0 three ∷ [])
      ≡ Ok (Registered false Abort) ∷ Ok (Registered false Abort) ∷ Ok (Registered false Abort) ∷ Err TransactionsFull ∷ []
  brings_10 : play_answers small (mint 0 0 10 3 ∷ mint 0 1 10 3 ∷ register 1 three ∷ deliver 0 1 0 three ∷ [])
      ≡ Ok Minted ∷ Ok Minted ∷ Ok (Registered false Abort) ∷ Err TokensFull ∷ []
  brings_17 : play_answers house (known-at-both ++ (
      register 1 (onward-to 6)
      ∷ deliver 0 1 1 (onward-to 6)
      ∷ deliver 0 1 1 both
      ∷ deliver 0 1 1 (onward-to 6)
      ∷ []
      ))
      ≡ Ok Minted ∷ Ok Minted ∷ Ok (Registered true Wait) ∷ Ok (Registered true Wait) ∷ Ok (Registered true Wait)
      ∷ Err HeldOff ∷ Ok (Heard Commit) ∷ Ok (Brought true Commit) ∷ []
  brings_17_held : tokens_after (known-at-both ++ (register 1 (onward-to 6) ∷ deliver 0 1 1 (onward-to 6) ∷ [])) 0 ≡ token 0 0 10 3 5 ∷ []
  -- a number that is known for another transaction: 7
  brings_7 : play_answers house (mint 0 0 10 3 ∷ register 1 both ∷ register 0 other5 ∷ deliver 0 1 0 both ∷ [])
      ≡ Ok Minted ∷ Ok (Registered false Abort) ∷ Ok (Registered true Wait) ∷ Err NumberTaken ∷ []
  -- at a turned shard an abort frees at once what the registration inside has pledged
  brings-turned : tokens_after (turn 0 ∷ mint 0 0 10 3 ∷ register 1 torn ∷ deliver 0 1 0 torn ∷ []) 0 ≡ token 0 0 10 3 0 ∷ []
  brings-unturned : tokens_after (mint 0 0 10 3 ∷ register 1 torn ∷ deliver 0 1 0 torn ∷ []) 0 ≡ token 0 0 10 3 8 ∷ []
  -- at a lone shard: its own vote on an unknown number is 11, another shard's brings its transaction
  lone_11 : (shard_step house 0 (ledger_at house (play house []).shards 0) (deliver 0 0 1 both)).1 ≡ Err NumberUnknown
  lone_brings : (shard_step house 0 (ledger_at house (play house []).shards 0) (deliver 0 1 1 both)).1 ≡ Ok (Brought false Abort)
  -- each finding: available, not held, another owner, another amount, pledged with its number
  found-each : asked (claimed (claims 6 (input 0 0 0 10 3 ∷ input 0 0 7 10 3 ∷ input 0 0 1 99 3 ∷ input 0 0 2 10 3 ∷ []) 12)) 0 6
      ≡ Available ∷ NotHeld ∷ OtherOwner ∷ Pledged 9 ∷ []
  found-amount : asked (claimed (claims 6 (input 0 0 1 10 2 ∷ []) 2)) 0 6 ≡ OtherAmount ∷ []
  -- the first that fits: of a pledged token another owner before another amount, and this before the pledge
  found-owner-first : asked (claimed (claims 6 (input 0 0 2 99 2 ∷ []) 2)) 0 6 ≡ OtherOwner ∷ []
  found-amount-first : asked (claimed (claims 6 (input 0 0 2 10 2 ∷ []) 2)) 0 6 ≡ OtherAmount ∷ []
  -- in input order, past an input of another shard; where there are outputs only, none
  found_here : asked (mint 0 0 10 3 ∷ mint 0 1 10 3 ∷ register 0 mixed ∷ []) 0 6 ≡ Available ∷ OtherAmount ∷ []
  found_none : answered (register 2 mixed ∷ []) 2 6 ≡ Ok 0
  -- a vote that brings its transaction finds alike: a token that is there, and one that is not
  found-brought : asked brought 1 5 ≡ Available ∷ []
  found-brought-no : asked (mint 0 0 10 3 ∷ register 0 torn ∷ deliver 1 0 1 torn ∷ []) 1 8 ≡ NotHeld ∷ []
  -- findings stay as they were: once a vote is heard, and where a commit has destroyed the token since, or a turn has freed it
  found-heard : asked torn-apart 1 8 ≡ NotHeld ∷ []
  found-commits : asked (known-at-both ++ votes) 0 5 ≡ Available ∷ []
  found-turns : asked (torn-apart ++ (register 0 (alone 1) ∷ turn 0 ∷ [])) 0 1 ≡ Pledged 8 ∷ []
  -- no such shard, and number 0: 3, which goes first; a number that the shard does not know, though another may: 18; a refused call reports nothing
  report-shard : answered known-at-both 8 5 ≡ Err OutOfRange
  report-zero : answered known-at-both 0 0 ≡ Err OutOfRange
  report-unknown : answered known-at-both 0 6 ≡ Err NoSuchNumber
  report_elsewhere : answered known-at-both 2 5 ≡ Err NoSuchNumber
  report-nothing : asked known-at-both 0 6 ≡ []
  -- at a lone shard: another shard is 3
  lone_report : report 0 (ledger_at house (play house known-at-both).shards 0) 1 5 ≡ Err OutOfRange

-- each of them by computation
pub examples : Examples
unfolding input output make tokens_after token entry both known-at-both votes alone alone-second wrong half two-held mixed other5 near5 pass torn torn-apart
    onward crossed onward-to brought three known-at-three early asked answered claims claimed small takes_part
    same_token same_input same_output same_transaction
    index_fits value_fits input_fits output_fits counts_fit fields_fit same_name named_twice balanced mint_fits
    inputs_here available available_here finding findings
    keeping pledges vote newly_known decide outputs_here made_here commit freeing after_mint after_register after_vote after_turn place_of entry_of reserved_by
    reserved held_off mint_refusals register_refusals deliver_form deliver_refusals turn_refusals hear bring shard_step gave not_given at_shard cluster_step
    log_after minted_after step after answers play play_answers outcome_in heard_all_in committed serial_from
    serial_value genesis_ledger take_inputs add_outputs
    spend serial_run report
examples = record {
  seven_answers = refl;
  seven_0 = refl;
  seven_1 = refl;
  seven_order = refl;
  serial-made = refl;
  serial-gone = refl;
  cut_0 = refl;
  cut_1 = refl;
  two-claims = refl;
  two-claims-held = refl;
  wrong-owner = refl;
  wrong-owner-held = refl;
  half-there = refl;
  half-there-held = refl;
  local_inputs = refl;
  local_available = refl;
  local_pledges = refl;
  local_message = refl;
  local_outputs_only = refl;
  again_8 = refl;
  decided_8 = refl;
  two-sevens = refl;
  one-no = refl;
  one-no-held = refl;
  late-mint = refl;
  not-given = refl;
  near_vote = refl;
  own-vote = refl;
  lone_3 = refl;
  lone_12 = refl;
  full_9 = refl;
  full_10 = refl;
  over_10 = refl;
  held_17 = refl;
  aborted_17 = refl;
  full_17 = refl;
  crossed_17 = refl;
  every_yes = refl;
  early-no = refl;
  early-held = refl;
  early_12 = refl;
  early-missing = refl;
  early_in = refl;
  early_10 = refl;
  early_17 = refl;
  turn_frees = refl;
  turn_freed = refl;
  turn_waits = refl;
  turn-commits = refl;
  turned-own = refl;
  turned-vote = refl;
  turned-early = refl;
  turned-bound = refl;
  turned-still = refl;
  turned-other = refl;
  lone_turn = refl;
  brings = refl;
  brings-held = refl;
  brings-logged = refl;
  brings-place = refl;
  brings_order = refl;
  brings_waits = refl;
  brings-own-no = refl;
  brings_9 = refl;
  brings_10 = refl;
  brings_17 = refl;
  brings_17_held = refl;
  brings_7 = refl;
  brings-turned = refl;
  brings-unturned = refl;
  lone_11 = refl;
  lone_brings = refl;
  found-each = refl;
  found-amount = refl;
  found-owner-first = refl;
  found-amount-first = refl;
  found_here = refl;
  found_none = refl;
  found-brought = refl;
  found-brought-no = refl;
  found-heard = refl;
  found-commits = refl;
  found-turns = refl;
  report-shard = refl;
  report-zero = refl;
  report-unknown = refl;
  report_elsewhere = refl;
  report-nothing = refl;
  lone_report = refl;
}
