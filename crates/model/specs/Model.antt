-- Document 01, 'Any list of calls': the reference model (the book), fed with the calls' arguments in order and nothing else.
use Rattle.std.specs.Prelude.{ℕ, suc, Bool, cond, List, [], ◌∷◌}
use Rattle.transaction.specs.declared.Input.{Input}
use Rattle.transaction.specs.declared.Transaction.{Transaction}
use Rattle.model.specs.Steps.{Limits, Ledger, available_here}
use Rattle.model.specs.Shard.{Call, mint, register, deliver, turn}
use Rattle.model.specs.Answers.{Answer, carried_out, registers}
use Rattle.model.specs.Cluster.{empty_shards, ledger_at, cluster_step}

-- one registration: its place in the list of calls, the shard, the transaction, which of its inputs there were available
pub record Entry : Type 0 where
  pub place : ℕ
  pub shard : ℕ
  pub transaction : Transaction
  pub available : List Input

-- a genesis token given (an opening carried out)
pub record Genesis : Type 0 where
  pub shard : ℕ
  pub index : ℕ
  pub owner : ℕ
  pub amount : ℕ

-- the eight ledgers; the log (row) of registrations, the newest first; the genesis tokens given
pub record Model : Type 0 where
  pub shards : List Ledger
  pub log : List Entry
  pub minted : List Genesis

-- at first
abbrev pub empty_model : Limits → Model
empty_model limits = record { shards = empty_shards limits; log = []; minted = [] }

-- a note more, where there is something to note
abbrev pub note_if : {A : Type 0} → Bool → A → List A → List A
note_if noted note notes = cond noted (note ∷ notes) notes

-- a registration's entry, from the ledgers before it
abbrev pub entry_for : Limits → ℕ → List Ledger → ℕ → Transaction → Entry
entry_for limits place shards receiver t = record {
  place = place;
  shard = receiver;
  transaction = t;
  available = available_here receiver (ledger_at limits shards receiver).tokens t;
}

-- the log with the entry of a call that has registered this transaction here
abbrev pub logged : Limits → ℕ → Model → ℕ → Transaction → Answer → List Entry
logged limits place model receiver t answer = note_if (registers answer) (entry_for limits place model.shards receiver t) model.log

-- a registration that is carried out is logged, and so is one that a vote brings, at the place of that call
unfoldable pub log_after : Limits → ℕ → Model → Call → Answer → List Entry
log_after limits place model (mint receiver index owner amount) answer = model.log
log_after limits place model (register receiver t) answer = logged limits place model receiver t answer
log_after limits place model (deliver receiver sender verdict t) answer = logged limits place model receiver t answer
log_after limits place model (turn receiver) answer = model.log

-- an opening that is carried out is noted
unfoldable pub minted_after : Model → Call → Answer → List Genesis
minted_after model (mint receiver index owner amount) answer =
    note_if (carried_out answer) (record { shard = receiver; index = index; owner = owner; amount = amount }) model.minted
minted_after model (register receiver t) answer = model.minted
minted_after model (deliver receiver sender verdict t) answer = model.minted
minted_after model (turn receiver) answer = model.minted

-- the call at that place of the list: the cluster's step, with the model's notes
unfoldable pub step : Limits → ℕ → Model → Call → Model × Answer
step limits place model call =
    let done = cluster_step limits model.shards call in
    (record { shards = done.0; log = log_after limits place model call done.1; minted = minted_after model call done.1 }, done.1)

-- the calls one after the other, the first one first; `place` is the first one's
unfoldable pub after : Limits → ℕ → Model → List Call → Model
after limits place model [] = model
after limits place model (call ∷ calls) = after limits (suc place) (step limits place model call).0 calls

-- and what they are answered
unfoldable pub answers : Limits → ℕ → Model → List Call → List Answer
answers limits place model [] = []
answers limits place model (call ∷ calls) =
    (step limits place model call).1 ∷ answers limits (suc place) (step limits place model call).0 calls

-- the whole list, from the empty model
unfoldable pub play : Limits → List Call → Model
play limits calls = after limits 1 (empty_model limits) calls

-- its answers
unfoldable pub play_answers : Limits → List Call → List Answer
play_answers limits calls = answers limits 1 (empty_model limits) calls
