-- A cluster (document 01: a round of eight pantries) as the reference model sees it, and what every call on it promises. A cluster is its eight shards' words.
use Rattle.std.specs.Prelude.{ℕ, ◌<◌, ◌≤◌, ◌≡◌, List, [], map, length, get_or}
use Rattle.model.specs.Answers.{Answer}
use Rattle.model.specs.Steps.{Ledger, house, empty_ledger}
use Rattle.model.specs.Shard.{Call}
use Rattle.model.specs.Cluster.{empty_shards, ledger_at, cluster_step}
use Rattle.shard.specs.View as shard

-- the ledgers of the eight shards
unfoldable pub view : List (List ℕ) → List Ledger
view c = map shard.view c

-- the words of the shard at a place
abbrev pub shard_at : List (List ℕ) → ℕ → List ℕ
shard_at c p = get_or c p []

-- what holds of every cluster that the public calls built: eight shards, and each knows its number and was built by public calls
pub record SoundAt (c : List (List ℕ)) (p : ℕ) : Type 0 where
  pub numbered : shard.number (shard_at c p) ≡ p
  pub sound : shard.Sound (shard_at c p)

pub record Sound (c : List (List ℕ)) : Type 0 where
  pub eight : length c ≡ 8
  pub each : (p : ℕ) → p < 8 → SoundAt c p

-- the shard of that number
pub record IsShard (c : List (List ℕ)) (number : ℕ) (ws : List ℕ) : Type 0 where
  pub numbered : shard.number ws ≡ number
  pub sound : shard.Sound ws
  pub ledger : ledger_at house (view c) number ≡ shard.view ws

-- there is none: the ledger is an empty one
pub record NoShard (c : List (List ℕ)) (number : ℕ) : Type 0 where
  pub above : 8 ≤ number
  pub ledger : ledger_at house (view c) number ≡ empty_ledger house

-- eight empty shards
pub record Fresh (c : List (List ℕ)) : Type 0 where
  pub empty : view c ≡ empty_shards house
  pub sound : Sound c

-- a call: the answer and all eight ledgers afterwards are the model's step, and the cluster can be handed to the next call
pub record Steps (before : List (List ℕ)) (call : Call) (answer : Answer) (after : List (List ℕ)) : Type 0 where
  pub answered : answer ≡ (cluster_step house (view before) call).1
  pub ledgers : view after ≡ (cluster_step house (view before) call).0
  pub sound : Sound after
