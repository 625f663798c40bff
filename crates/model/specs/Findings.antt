-- Document 02, 2, 'Which token spoiled it': the call that reports what a shard found about the inputs of a known transaction, and what is claimed
-- of it about every list of calls: each finding that is reported is the true state of its token at the registration.
use Rattle.std.specs.Prelude.{ℕ, suc, ◌≡◌, ◌↔◌, ◌≢◌, Result, Ok, Err, Bool, true, not, Some, eqb, length, get_or, take}
use Rattle.std.proofs.Math.Option.{none, some}
use mathlib.Core.List.{List, [], ◌∷◌, ◌++◌, Memᴰ}
use Rattle.transaction.specs.declared.Input.{Input}
use Rattle.transaction.specs.declared.refusal.Refusal.{Refusal}
use Rattle.transaction.specs.declared.refusal.Refusal.TheVariants.{OutOfRange, NoSuchNumber}
use Rattle.transaction.specs.Lists.{any, all, first_of}
use Rattle.transaction.specs.Checks.{shard_fits}
use Rattle.model.specs.declared.Token.{Token}
use Rattle.model.specs.declared.Finding.{Finding}
use Rattle.model.specs.declared.Finding.TheVariants.{Available, NotHeld, OtherOwner, OtherAmount, Pledged}
use Rattle.model.specs.declared.Findings.{Findings}
use Rattle.model.specs.declared.Known.{Known}
use Rattle.model.specs.Lists.{find}
use Rattle.model.specs.Answers.{Report, is_available}
use Rattle.model.specs.Steps.{Limits, Ledger, inputs_here, heard_from, nothing_known}
use Rattle.model.specs.Shard.{Call, is_numbered}
use Rattle.model.specs.Cluster.{ledger_at}
use Rattle.model.specs.Model.{entry_for, play}
use Rattle.model.specs.Demand.{token_at}

-- ---- The call, given a shard (pantry) and a transaction's (swap's) number

-- its refusals at a shard, the form: 3 for another shard, for one above 7, and for the number 0
abbrev pub report_form : ℕ → ℕ → ℕ → List (Bool × Refusal)
report_form me shard number = (not (eqb shard me), OutOfRange) ∷ (not (shard_fits shard), OutOfRange) ∷ (eqb number 0, OutOfRange) ∷ []

-- the rest: 18, the number is not known here
abbrev pub report_rest : Ledger → ℕ → List (Bool × Refusal)
report_rest ledger number = (not (any (is_numbered number) ledger.known), NoSuchNumber) ∷ []

-- 3, 18
abbrev pub report_refusals : ℕ → Ledger → ℕ → ℕ → List (Bool × Refusal)
report_refusals me ledger shard number =
    report_form me shard number
    ++ report_rest ledger number

-- the known transaction of that number
abbrev pub numbered : ℕ → List Known → Known
numbered number known = get_or known (find (is_numbered number) known) nothing_known

-- what is told of a known transaction: one finding for each input here, as they are kept
abbrev pub told : ℕ → Known → Findings
told me k = record { count = length (inputs_here me k.transaction); list = k.findings }

-- that, unless the call is refused
abbrev pub unless_refused : Result Unit Refusal → Findings → Report
unless_refused (Ok passed) found = Ok found
unless_refused (Err refusal) found = Err refusal

-- refused for the first cause that fits; else the findings. The call changes nothing
unfoldable pub report : ℕ → Ledger → ℕ → ℕ → Report
report me ledger shard number =
    unless_refused (first_of (report_refusals me ledger shard number)) (told me (numbered number ledger.known))

-- at a cluster, the shard that is asked
abbrev pub report_at : Limits → List Ledger → ℕ → ℕ → Report
report_at limits shards shard number = report shard (ledger_at limits shards shard) shard number

-- the findings that are reported, in input order
abbrev pub reported : Report → List Finding
reported (Err refusal) = []
reported (Ok found) = take found.count found.list

-- ---- The true state of a token

-- The state of the input's token among those held. There is none of that name; or there is one, with another owner; or with that owner and another
-- amount; or with both, and pledged to a transaction; or with both, and pledged to none.
pub data State (tokens : List Token) (x : Input) : Finding → Type 0 where
  is-available : (token : Token) → token_at tokens x.token.creator x.token.index ≡ some token
      → token.owner ≡ x.owner → token.amount ≡ x.amount → token.pledge ≡ 0 → State tokens x Available
  is-not-held : token_at tokens x.token.creator x.token.index ≡ none → State tokens x NotHeld
  has_other_owner : (token : Token) → token_at tokens x.token.creator x.token.index ≡ some token
      → token.owner ≢ x.owner → State tokens x OtherOwner
  has_other_amount : (token : Token) → token_at tokens x.token.creator x.token.index ≡ some token
      → token.owner ≡ x.owner → token.amount ≢ x.amount → State tokens x OtherAmount
  is-pledged : (token : Token) → token_at tokens x.token.creator x.token.index ≡ some token
      → token.owner ≡ x.owner → token.amount ≡ x.amount → token.pledge ≢ 0 → State tokens x (Pledged token.pledge)

-- one finding for each input, in input order, and each is the state of its token
pub data States (tokens : List Token) : List Input → List Finding → Type 0 where
  no_more : States tokens [] []
  and_more : {x : Input} {found : Finding} {inputs : List Input} {more : List Finding}
      → State tokens x found → States tokens inputs more → States tokens (x ∷ inputs) (found ∷ more)

-- a transaction of that number is among the known ones
pub record Knows (known : List Known) (number : ℕ) : Type 0 where
  pub entry : Known
  pub is_known : Memᴰ entry known
  pub has-number : entry.transaction.number ≡ number

-- ---- What is claimed of the findings that shard p reports, after the calls, for the transaction of that number

pub record TrueFindings (limits : Limits) (calls : List Call) (p number : ℕ) (found : List Finding) : Type 0 where
  -- the shard knows it
  pub knows : Knows (ledger_at limits (play limits calls).shards p).known number
  -- its registration there is the call behind these, as the log has it
  pub before : List Call
  pub call : Call
  pub later : List Call
  pub split : calls ≡ before ++ (call ∷ later)
  pub logged : Memᴰ (entry_for limits (suc (length before)) (play limits before).shards p knows.entry.transaction) (play limits calls).log
  -- each finding is the state of its token among those that the shard held right before that call
  pub states : States (ledger_at limits (play limits before).shards p).tokens (inputs_here p knows.entry.transaction) found
  -- the shard's own vote is yes exactly where all are 'available'
  pub own-vote : (heard_from p knows.entry ≡ Some true) ↔ (all is_available found ≡ true)
  -- what 'pledged' names was known there before
  pub pledging : (pledge : ℕ) → Memᴰ (Pledged pledge) found → Knows (ledger_at limits (play limits before).shards p).known pledge
