-- Document 01: a shard (pantry) holds at most 128 tokens and knows at most 32 transactions (swaps), decided ones included. A ledger that the
-- calls build keeps to that, at a lone shard and in a cluster; what a caller hands to a function is such a ledger.
use Rattle.std.specs.Prelude.{ℕ, ◌+◌, ◌≤◌, ◌≡◌, Ok, Bool, length}
use mathlib.Core.List.{List, [], Memᴰ}
use Rattle.transaction.specs.Checks.{cause_of}
use Rattle.model.specs.declared.Known.{Known}
use Rattle.model.specs.Lists.{keep}
use Rattle.model.specs.Steps.{Limits, Ledger}
use Rattle.model.specs.Shard.{reserved}

-- the flags that are set
abbrev pub is_set : Bool → Bool
is_set flag = flag

-- how many flags are set
abbrev pub counted : List Bool → ℕ
counted flags = length (keep is_set flags)

-- a fit ledger
pub record Fit (limits : Limits) (me : ℕ) (ledger : Ledger) : Type 0 where
  -- the limits
  pub token-room : length ledger.tokens + reserved me ledger.known ≤ limits.tokens
  pub known-room : length ledger.known ≤ limits.transactions
  -- one flag for each genesis index; while no transaction is known, each token was given
  pub flags : length ledger.given ≡ limits.genesis
  pub only-given : ledger.known ≡ [] → length ledger.tokens ≤ counted ledger.given
  -- known transactions passed 3, 4 and 5, and have a place for each sender
  pub checked : (k : Known) → Memᴰ k ledger.known → cause_of limits.genesis k.transaction ≡ Ok tt
  pub eight : (k : Known) → Memᴰ k ledger.known → length k.heard ≡ 8
