-- Demand 3: one statement about every list of calls, refused ones included, with votes late, repeated or out of order.
-- The model after the calls is `play limits calls`; the code's answers and ledgers are tied to it in proofs/Bridge.
use Rattle.std.specs.Prelude.{ℕ, suc, ◌<◌, ◌≡◌, ◌↔◌, ◌≢◌, Bool, true, false, cond, ◌&&◌, not, eqb}
use Rattle.std.proofs.Math.Option.{Option, none, some}
use mathlib.Core.List.{List, [], ◌∷◌, ◌++◌, Memᴰ}
use Rattle.transaction.specs.declared.TokenId.{TokenId}
use Rattle.transaction.specs.declared.Input.{Input}
use Rattle.transaction.specs.declared.Output.{Output}
use Rattle.transaction.specs.declared.Transaction.{Transaction}
use Rattle.transaction.specs.Lists.{any, repeats}
use Rattle.transaction.specs.Tokens.{used_inputs, used_outputs, shards_of, same_token, same_transaction}
use Rattle.model.specs.declared.Token.{Token}
use Rattle.model.specs.declared.Outcome.{Outcome}
use Rattle.model.specs.declared.Outcome.TheVariants.{Wait, Commit, Abort}
use Rattle.model.specs.Lists.{lookup, map_option, passes, is_none, and_then}
use Rattle.model.specs.Steps.{Limits, Ledger, is_for, entry_of, heard_all, outcome_of}
use Rattle.model.specs.Shard.{Call}
use Rattle.model.specs.Cluster.{ledger_at}
use Rattle.model.specs.Model.{Entry, Genesis, Model, play}

-- ---- Decisions

-- the outcome that a shard notes for a transaction, every field of it; Wait where it does not know it
unfoldable pub outcome_in : Ledger → Transaction → Outcome
outcome_in ledger t = cond (any (is_for t) ledger.known) (outcome_of (entry_of t ledger.known)) Wait

-- has the shard heard all of its votes
unfoldable pub heard_all_in : Ledger → Transaction → Bool
heard_all_in ledger t = any (is_for t) ledger.known && heard_all t (entry_of t ledger.known).heard

-- the same, of the model's shard of that number
abbrev pub outcome_at : Limits → Model → ℕ → Transaction → Outcome
outcome_at limits model shard t = outcome_in (ledger_at limits model.shards shard) t

-- has the model's shard of that number heard all votes
abbrev pub heard_all_at : Limits → Model → ℕ → Transaction → Bool
heard_all_at limits model shard t = heard_all_in (ledger_at limits model.shards shard) t

-- the outcome is commit
abbrev pub is_commit : Outcome → Bool
is_commit Wait = false
is_commit Commit = true
is_commit Abort = false

-- this shard has decided commit
abbrev pub commits : Transaction → Ledger → Bool
commits t ledger = is_commit (outcome_in ledger t)

-- a transaction is committed if some shard has
unfoldable pub committed : Model → Transaction → Bool
committed model t = any (commits t) model.shards

-- the input was available when its shard registered the transaction, as the log has it
pub record WasAvailable (log : List Entry) (t : Transaction) (x : Input) : Type 0 where
  pub entry : Entry
  pub logged : Memᴰ entry log
  pub at : entry.shard ≡ x.token.shard
  pub of : entry.transaction ≡ t
  pub found : Memᴰ x entry.available

-- every committed transaction is decided at all its shards
abbrev pub Settled : Limits → Model → Type 0
Settled limits model =
    (t : Transaction) → committed model t ≡ true → (shard : ℕ) → Memᴰ shard (shards_of t) → outcome_at limits model shard t ≢ Wait

-- ---- The serial order: the committed transactions by last registration, the latest first

-- the entry is of this transaction
abbrev pub logs_it : Transaction → Entry → Bool
logs_it t entry = same_transaction entry.transaction t

-- no newer entry of the log is of this transaction
abbrev pub is_last : List Entry → Transaction → Bool
is_last newer t = not (any (logs_it t) newer)

-- down the log from its newest entry; `newer` are the entries passed
unfoldable pub serial_from : Model → List Entry → List Entry → List Transaction
serial_from model newer [] = []
serial_from model newer (entry ∷ older) =
    cond (is_last newer entry.transaction && committed model entry.transaction)
    (entry.transaction ∷ serial_from model (entry ∷ newer) older)
    (serial_from model (entry ∷ newer) older)

-- down the whole log
abbrev pub serial_order : Model → List Transaction
serial_order model = serial_from model [] model.log

-- the place of a transaction's last registration; 0 where it has none
abbrev pub last_place : List Entry → Transaction → ℕ
last_place [] t = 0
last_place (entry ∷ older) t = cond (logs_it t entry) entry.place (last_place older t)

-- each stands strictly behind the ones that were registered last before it
abbrev pub ByLast : List Entry → List Transaction → Type 0
ByLast log [] = Unit {0}
ByLast log (t ∷ earlier) = ((s : Transaction) → Memᴰ s earlier → last_place log s < last_place log t) × ByLast log earlier

-- no transaction is listed twice
abbrev pub EachOnce : List Transaction → Type 0
EachOnce [] = Unit {0}
EachOnce (t ∷ earlier) = (Memᴰ t earlier → ⊥) × EachOnce earlier

-- ---- The serial ledger (the one ledger): from a token's id to its owner and amount, where there is such a token

-- a token's owner and amount
pub record Value : Type 0 where
  pub owner : ℕ
  pub amount : ℕ

-- what the one ledger has under an id
abbrev pub SerialLedger : Type 0
SerialLedger = TokenId → Option Value

-- what an input asks for
abbrev pub input_value : Input → Value
input_value x = record { owner = x.owner; amount = x.amount }

-- what an output makes
abbrev pub output_value : Output → Value
output_value y = record { owner = y.owner; amount = y.amount }

-- a genesis token's id
abbrev pub genesis_id : Genesis → TokenId
genesis_id g = record { shard = g.shard; creator = 0; index = g.index }

-- at first, the genesis tokens given
unfoldable pub genesis_ledger : List Genesis → SerialLedger
genesis_ledger [] id = none
genesis_ledger (g ∷ gs) id = cond (same_token (genesis_id g) id) (some (record { owner = g.owner; amount = g.amount })) (genesis_ledger gs id)

-- it is the owner and the amount that the input gives
abbrev pub has_value : Input → Value → Bool
has_value x v = eqb v.owner x.owner && eqb v.amount x.amount

-- the input's token is there with that owner and amount
abbrev pub present : SerialLedger → Input → Bool
present ledger x = passes (has_value x) (ledger x.token)

-- the ledger without the input's token
abbrev pub without : SerialLedger → Input → SerialLedger
without ledger x id = cond (same_token x.token id) none (ledger id)

-- a transaction takes away its inputs' tokens one by one, each there with that owner and that amount
unfoldable pub take_inputs : List Input → SerialLedger → Option SerialLedger
take_inputs [] ledger = some ledger
take_inputs (x ∷ xs) ledger = cond (present ledger x) (take_inputs xs (without ledger x)) none

-- an output's id: its shard, the transaction's number and its place among all outputs
abbrev pub output_id : ℕ → ℕ → Output → TokenId
output_id number index y = record { shard = y.shard; creator = number; index = index }

-- the ledger with one token more
abbrev pub with_token : SerialLedger → TokenId → Value → SerialLedger
with_token ledger new v id = cond (same_token new id) (some v) (ledger id)

-- and adds each output under its id, which must be free; `index` is the first one's
unfoldable pub add_outputs : ℕ → ℕ → List Output → SerialLedger → Option SerialLedger
add_outputs number index [] ledger = some ledger
add_outputs number index (y ∷ ys) ledger =
    cond (is_none (ledger (output_id number index y)))
    (add_outputs number (suc index) ys (with_token ledger (output_id number index y) (output_value y)))
    none

-- one transaction, on the ledger that the earlier ones left
unfoldable pub spend : Transaction → SerialLedger → Option SerialLedger
spend t ledger = and_then (add_outputs t.number 0 (used_outputs t)) (take_inputs (used_inputs t) ledger)

-- the transactions one by one; the earliest stands last
unfoldable pub serial_run : SerialLedger → List Transaction → Option SerialLedger
serial_run ledger [] = some ledger
serial_run ledger (t ∷ earlier) = and_then (spend t) (serial_run ledger earlier)

-- it has that creator and that index
abbrev pub has_spot : ℕ → ℕ → Token → Bool
has_spot creator index token = eqb token.creator creator && eqb token.index index

-- the token of that creator and that index, if there is one
abbrev pub token_at : List Token → ℕ → ℕ → Option Token
token_at tokens creator index = lookup (has_spot creator index) tokens

-- its owner and amount
abbrev pub token_value : Token → Value
token_value token = record { owner = token.owner; amount = token.amount }

-- what the eight shards hold under an id: what its shard holds
abbrev pub held_value : Limits → Model → TokenId → Option Value
held_value limits model id =
    map_option token_value (token_at (ledger_at limits model.shards id.shard).tokens id.creator id.index)

-- two tokens of one creator and index
abbrev pub same_spot : Token → Token → Bool
same_spot a b = has_spot a.creator a.index b

-- ---- Demand 3

-- the ledger in which the serial run ends
pub record SerialEnd (model : Model) : Type 0 where
  pub ledger : SerialLedger
  pub runs : serial_run (genesis_ledger model.minted) (serial_order model) ≡ some ledger

module _ (limits : Limits) (calls : List Call) where
  -- the model after the calls
  abbrev model : Model
  model = play limits calls

  -- the statement
  pub record Demand3 : Type 0 where
    -- no two shards ever decide one transaction differently
    pub agreement : (p q : ℕ) (t : Transaction) → outcome_at limits model p t ≢ Wait → outcome_at limits model q t ≢ Wait
        → outcome_at limits model p t ≡ outcome_at limits model q t
    -- none changes its decision: it stands in every longer list
    pub finality : (more : List Call) (p : ℕ) (t : Transaction) → outcome_at limits model p t ≢ Wait
        → outcome_at limits (play limits (calls ++ more)) p t ≡ outcome_at limits model p t
    -- a shard that has heard all votes holds the transaction committed exactly when each input was available at its shard's registration
    pub commit_rule : (p : ℕ) (t : Transaction) → heard_all_at limits model p t ≡ true
        → (outcome_at limits model p t ≡ Commit) ↔ ((x : Input) → Memᴰ x (used_inputs t) → WasAvailable model.log t x)
    -- a shard registers a transaction once
    pub one_entry : (a b : Entry) → Memᴰ a model.log → Memᴰ b model.log → a.shard ≡ b.shard → a.transaction ≡ b.transaction → a ≡ b
    -- the serial order lists exactly the committed transactions, each once, strictly by last registration
    pub listed : (t : Transaction) → Memᴰ t (serial_order model) ↔ (committed model t ≡ true)
    pub each-once : EachOnce (serial_order model)
    pub by_last : ByLast model.log (serial_order model)
    -- the serial run succeeds, in every state: each input is present at its turn, with its owner and amount, and is destroyed once; no id is made twice
    pub serial : SerialEnd model
    -- where every committed transaction is decided at all its shards, the shards hold exactly the tokens of the serial ledger
    pub one-ledger : Settled limits model → (id : TokenId) → held_value limits model id ≡ serial.ledger id
    -- no shard holds two tokens of one id
    pub one_token : (p : ℕ) → repeats same_spot (ledger_at limits model.shards p).tokens ≡ false
