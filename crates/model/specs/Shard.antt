-- Document 01, 'Causes of refusal', at one shard: for each kind of call one table of tests and refusals in the paper's order, and the whole call.
-- Arguments are raw: any number, any count, any slots. A record addressed to another shard is part of check 3.
use Rattle.std.specs.Prelude.{ℕ, ◌+◌, Result, Ok, Err, Bool, true, false, cond, not, ◌&&◌, is_some, List, [], ◌∷◌, ◌++◌, eqb, leb, ltb, length, get_or}
use Rattle.transaction.specs.declared.Input.{Input}
use Rattle.transaction.specs.declared.Transaction.{Transaction}
use Rattle.transaction.specs.declared.refusal.Refusal.{Refusal}
use Rattle.transaction.specs.declared.refusal.Refusal.TheVariants.{
  OutOfRange,
  NotTakingPart,
  NumberTaken,
  KnownAlready,
  TransactionsFull,
  TokensFull,
  NumberUnknown,
  OtherVerdict,
  MintTooLate,
  IndexGiven,
  HeldOff,
  TurnedAlready,
}
use Rattle.transaction.specs.Lists.{any, total, first_of}
use Rattle.transaction.specs.Tokens.{takes_part}
use Rattle.transaction.specs.Checks.{register_checks, vote_checks, mint_checks, turn_checks}
use Rattle.model.specs.declared.Known.{Known}
use Rattle.model.specs.declared.Outcome.{Outcome}
use Rattle.model.specs.declared.Outcome.TheVariants.{Wait, Commit, Abort}
use Rattle.model.specs.declared.Done.TheVariants.{Minted, Registered, Heard, Again, Turned, Brought}
use Rattle.model.specs.Answers.{Answer}
use Rattle.model.specs.Said.{Said, says}
use Rattle.model.specs.Steps.{
  Limits,
  Ledger,
  inputs_here,
  names,
  vote,
  newly_known,
  heard_from,
  hearing,
  outcome_of,
  outputs_here,
  made_here,
  is_for,
  entry_of,
  after_mint,
  after_register,
  after_vote,
  after_turn,
}

-- The calls: an opening (receiver, index, owner, amount), a registration (receiver, transaction),
-- a vote (receiver, sender, verdict with 1 for yes and 0 for no, transaction), a turn (receiver).
pub data Call : Type 0 where
  mint : ℕ → ℕ → ℕ → ℕ → Call
  register : ℕ → Transaction → Call
  deliver : ℕ → ℕ → ℕ → Transaction → Call
  turn : ℕ → Call

-- has the known transaction that number
abbrev pub is_numbered : ℕ → Known → Bool
is_numbered number k = eqb k.transaction.number number

-- has it this transaction's number
abbrev pub has_number : Transaction → Known → Bool
has_number t k = is_numbered t.number k

-- an unknown number: no known transaction has it
abbrev pub is_unknown : Transaction → List Known → Bool
is_unknown t known = not (any (has_number t) known)

-- is it another transaction of this number
abbrev pub is_other : Transaction → Known → Bool
is_other t k = has_number t k && not (is_for t k)

-- nothing is decided
abbrev pub is_undecided : Outcome → Bool
is_undecided Wait = true
is_undecided Commit = false
is_undecided Abort = false

-- the number where nothing is decided, else 0
abbrev pub if_undecided : Outcome → ℕ → ℕ
if_undecided o n = cond (is_undecided o) n 0

-- the outputs here of a known transaction, while it is undecided
unfoldable pub reserved_by : ℕ → Known → ℕ
reserved_by me k = if_undecided (outcome_of k) (length (outputs_here me k.transaction))

-- the outputs here of all undecided transactions
unfoldable pub reserved : ℕ → List Known → ℕ
reserved me known = total (reserved_by me) known

-- a vote is heard from this sender, and it is the other one
abbrev pub other_verdict : Said → ℕ → Bool
other_verdict heard verdict = is_some heard && not (says heard verdict)

-- Each table is in two parts: what the record says by itself (its form), then what the ledger says (the rest).

-- kind 3, the form: 3
abbrev pub mint_form : Limits → ℕ → ℕ → ℕ → ℕ → ℕ → List (Bool × Refusal)
mint_form limits me receiver index owner amount = (not (eqb receiver me), OutOfRange) ∷ mint_checks limits.genesis receiver index owner amount

-- the rest: 13, 14
abbrev pub mint_rest : Ledger → ℕ → List (Bool × Refusal)
mint_rest ledger index =
    (not (eqb (length ledger.known) 0), MintTooLate)
    ∷ (get_or ledger.given index false, IndexGiven)
    ∷ []

-- kind 3: 3, 13, 14
unfoldable pub mint_refusals : Limits → ℕ → Ledger → ℕ → ℕ → ℕ → ℕ → List (Bool × Refusal)
mint_refusals limits me ledger receiver index owner amount =
    mint_form limits me receiver index owner amount
    ++ mint_rest ledger index

-- kind 1, the form: 3, 4, 5, 6
abbrev pub register_form : Limits → ℕ → ℕ → Transaction → List (Bool × Refusal)
register_form limits me receiver t =
    (not (eqb receiver me), OutOfRange)
    ∷ register_checks limits.genesis receiver t
    ++ (not (takes_part receiver t), NotTakingPart)
    ∷ []

-- 10: held tokens, outputs here of undecided transactions and of this one would pass the limit
abbrev pub too_full : Limits → ℕ → Ledger → Transaction → Bool
too_full limits me ledger t =
    ltb limits.tokens (length ledger.tokens + reserved me ledger.known + length (outputs_here me t))

-- the input's token, by number and index alone, is an output here of the known transaction, and this is undecided
abbrev pub awaits : ℕ → Input → Known → Bool
awaits me x k = is_undecided (outcome_of k) && any (names x) (made_here me k.transaction)

-- 17: an input at this shard awaits a known transaction (the swap is close behind another, and is held off)
unfoldable pub held_off : ℕ → List Known → Transaction → Bool
held_off me known t = any (λ x. any (awaits me x) known) (inputs_here me t)

-- whether a transaction that is not known can be entered now: 9, 10, 17
abbrev pub entry_refusals : Limits → ℕ → Ledger → Transaction → List (Bool × Refusal)
entry_refusals limits me ledger t =
    (leb limits.transactions (length ledger.known), TransactionsFull)
    ∷ (too_full limits me ledger t, TokensFull)
    ∷ (held_off me ledger.known t, HeldOff)
    ∷ []

-- the rest: 7, 8, 9, 10, 17
abbrev pub register_rest : Limits → ℕ → Ledger → Transaction → List (Bool × Refusal)
register_rest limits me ledger t =
    (any (is_other t) ledger.known, NumberTaken)
    ∷ (any (is_for t) ledger.known, KnownAlready)
    ∷ entry_refusals limits me ledger t

-- kind 1: 3, 4, 5, 6, 7, 8, 9, 10, 17
unfoldable pub register_refusals : Limits → ℕ → Ledger → ℕ → Transaction → List (Bool × Refusal)
register_refusals limits me ledger receiver t =
    register_form limits me receiver t
    ++ register_rest limits me ledger t

-- kind 2, the form: 3, 4, 5, 6; a cluster checks them before 16
unfoldable pub deliver_form : Limits → ℕ → ℕ → ℕ → ℕ → Transaction → List (Bool × Refusal)
deliver_form limits me receiver sender verdict t =
    (not (eqb receiver me), OutOfRange)
    ∷ vote_checks limits.genesis receiver sender verdict t
    ++ (not (takes_part receiver t), NotTakingPart)
    ∷ (not (takes_part sender t), NotTakingPart)
    ∷ []

-- the rest on an unknown number (document 02, 6): 11 where sender and receiver are one; else the vote brings its transaction, under 9, 10, 17
abbrev pub bring_rest : Limits → ℕ → Ledger → ℕ → Transaction → List (Bool × Refusal)
bring_rest limits me ledger sender t = (eqb sender me, NumberUnknown) ∷ entry_refusals limits me ledger t

-- the rest on a known number: 7, 12
abbrev pub hear_rest : Ledger → ℕ → ℕ → Transaction → List (Bool × Refusal)
hear_rest ledger sender verdict t =
    (any (is_other t) ledger.known, NumberTaken)
    ∷ (other_verdict (heard_from sender (entry_of t ledger.known)) verdict, OtherVerdict)
    ∷ []

-- the rest, by whether the number is known
abbrev pub deliver_rest : Limits → ℕ → Ledger → ℕ → ℕ → Transaction → List (Bool × Refusal)
deliver_rest limits me ledger sender verdict t =
    cond (is_unknown t ledger.known)
    (bring_rest limits me ledger sender t)
    (hear_rest ledger sender verdict t)

-- kind 2 at a lone shard: 3, 4, 5, 6, then 11, 9, 10, 17 or 7, 12
unfoldable pub deliver_refusals : Limits → ℕ → Ledger → ℕ → ℕ → ℕ → Transaction → List (Bool × Refusal)
deliver_refusals limits me ledger receiver sender verdict t =
    deliver_form limits me receiver sender verdict t
    ++ deliver_rest limits me ledger sender verdict t

-- kind 4 (document 02, 4), the form: 3
abbrev pub turn_form : ℕ → ℕ → List (Bool × Refusal)
turn_form me receiver = (not (eqb receiver me), OutOfRange) ∷ turn_checks receiver

-- the rest: 19, the shard has turned already
abbrev pub turn_rest : Ledger → List (Bool × Refusal)
turn_rest ledger = (ledger.turned, TurnedAlready) ∷ []

-- kind 4: 3, 19
unfoldable pub turn_refusals : ℕ → Ledger → ℕ → List (Bool × Refusal)
turn_refusals me ledger receiver =
    turn_form me receiver
    ++ turn_rest ledger

-- ---- One call at a lone shard

-- refused for the first cause that fits, and all left as it was; else carried out
abbrev pub unless : {A : Type 0} → Result Unit Refusal → A → A × Answer → A × Answer
unless (Ok passed) before done = done
unless (Err refusal) before done = (before, Err refusal)

-- a vote that passes on a known number: fresh, or the same one heard again
unfoldable pub hear : ℕ → Ledger → ℕ → ℕ → Transaction → Ledger × Answer
hear me ledger sender verdict t =
    let k = entry_of t ledger.known in
    cond (is_some (heard_from sender k))
    (ledger, Ok (Again (outcome_of k)))
    (after_vote me ledger sender verdict t, Ok (Heard (outcome_of (hearing sender verdict k))))

-- a vote that passes on an unknown number brings its transaction (document 02, 6): the registration, and then the vote
unfoldable pub bring : ℕ → Ledger → ℕ → ℕ → Transaction → Ledger × Answer
bring me ledger sender verdict t =
    let registered = after_register me ledger t in
    let k = entry_of t registered.known in
    (after_vote me registered sender verdict t, Ok (Brought (vote me ledger.tokens t) (outcome_of (hearing sender verdict k))))

-- a vote that passes
abbrev pub delivered : ℕ → Ledger → ℕ → ℕ → Transaction → Ledger × Answer
delivered me ledger sender verdict t =
    cond (is_unknown t ledger.known)
    (bring me ledger sender verdict t)
    (hear me ledger sender verdict t)

-- the whole call
unfoldable pub shard_step : Limits → ℕ → Ledger → Call → Ledger × Answer
shard_step limits me ledger (mint receiver index owner amount) =
    unless (first_of (mint_refusals limits me ledger receiver index owner amount)) ledger
    (after_mint ledger index owner amount, Ok Minted)
shard_step limits me ledger (register receiver t) =
    unless (first_of (register_refusals limits me ledger receiver t)) ledger
    (after_register me ledger t, Ok (Registered (vote me ledger.tokens t) (outcome_of (newly_known me ledger.tokens t))))
shard_step limits me ledger (deliver receiver sender verdict t) =
    unless (first_of (deliver_refusals limits me ledger receiver sender verdict t)) ledger
    (delivered me ledger sender verdict t)
shard_step limits me ledger (turn receiver) =
    unless (first_of (turn_refusals me ledger receiver)) ledger
    (after_turn ledger, Ok Turned)
