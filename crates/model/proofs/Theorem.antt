-- Demand 3, whole: about every list of calls, at every limits.
use mathlib.Core.List.{List}
use Rattle.model.specs.Steps.{Limits}
use Rattle.model.specs.Shard.{Call}
use Rattle.model.specs.Cluster.{ledger_at}
use Rattle.model.specs.Model.{play}
use Rattle.model.specs.Demand.{Demand3, same_spot}
use Rattle.model.proofs.Lookups.{alone-repeats}
use Rattle.model.proofs.Steps.{play-inv}
use Rattle.model.proofs.Decisions.{agree_at, exact_at, final_at}
use Rattle.model.proofs.Serial.{serial_end, one-ledger-at}
use Rattle.model.proofs.Order.{listed_at, once-at, sorted_at}

-- the theorem
pub demand_3 : (limits : Limits) (calls : List Call) → Demand3 limits calls
demand_3 limits calls = record {
  agreement = agree_at limits (play limits calls) (play-inv limits calls);
  finality = final_at limits calls;
  commit_rule = exact_at limits (play limits calls) (play-inv limits calls);
  one_entry = (play-inv limits calls).logged.unique;
  listed = listed_at limits (play limits calls) (play-inv limits calls);
  each-once = once-at limits (play limits calls) (play-inv limits calls);
  by_last = sorted_at limits calls;
  serial = serial_end limits (play limits calls) (play-inv limits calls);
  one-ledger = one-ledger-at limits (play limits calls) (play-inv limits calls);
  one_token = λ p. alone-repeats same_spot (ledger_at limits (play limits calls).shards p).tokens ((play-inv limits calls).at p).no_twice;
}
