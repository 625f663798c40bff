-- What the exported calls on a cluster and on a lone shard promise, by the steps of the reference model.
use Rattle.std.specs.Prelude.{ℕ, ◌≡◌, Result, Ok, Err, List}
use Rattle.transaction.specs.declared.Transaction.{Transaction}
use Rattle.transaction.specs.declared.refusal.Refusal.{Refusal}
use Rattle.reader.specs.declared.Record.{Record}
use Rattle.reader.specs.Reading.{reading_of}
use Rattle.model.specs.Answers.{Answer}
use Rattle.model.specs.Steps.{Ledger, house}
use Rattle.model.specs.Shard.{Call, shard_step}
use Rattle.model.specs.Cluster.{cluster_step}
use Rattle.shard.specs.View as shard
use Rattle.cluster.specs.View as cluster
use Rattle.calls.specs.Calls.{call_of}
use Rattle.engine.specs.Codes.{answer_code}

-- ---- The step that answers a call: the ledgers afterwards, and the answer

-- a call on a cluster, and one on a lone shard
abbrev pub cluster_called : List (List ℕ) → Call → List Ledger × Answer
cluster_called c call = cluster_step house (cluster.view c) call

abbrev pub shard_called : List ℕ → Call → Ledger × Answer
shard_called s call = shard_step house (shard.number s) (shard.view s) call

-- what was read: the call of the record; or refused with 1 to 5, and no ledger is changed
unfoldable pub applied_as : List (List ℕ) → Result Record Refusal → Transaction → List Ledger × Answer
applied_as c (Ok fields) t = cluster_called c (call_of fields t)
applied_as c (Err refusal) t = (cluster.view c, Err refusal)

-- the record at the front of the bytes, whatever they are
unfoldable pub applied : List (List ℕ) → List ℕ → List Ledger × Answer
applied c bytes = applied_as c (reading_of bytes).answer (reading_of bytes).transaction

-- ---- The promise: the answer is the number of the step's answer, the ledgers are the step's, and the memory can be
-- handed to the next call

pub record ClusterDoes (step : List Ledger × Answer) (answer : ℕ) (after : List (List ℕ)) : Type 0 where
  pub answered : answer ≡ answer_code step.1
  pub ledgers : cluster.view after ≡ step.0
  pub sound : cluster.Sound after

-- a lone shard, of the number `me`, keeps its number
pub record ShardDoes (me : ℕ) (step : Ledger × Answer) (answer : ℕ) (after : List ℕ) : Type 0 where
  pub answered : answer ≡ answer_code step.1
  pub ledger : shard.view after ≡ step.0
  pub numbered : shard.number after ≡ me
  pub sound : shard.Sound after
