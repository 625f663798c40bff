-- What the slots of a shard say of its ledger: counts and entries.
use Prim.Native.Nat.{ℕ, ◌≤◌, ◌<◌}
use mathlib.Core.Path.{◌≡◌, sym, ◌∙◌}
use mathlib.Core.List.{List}
use native.Mathlib.Omega.{arith}
use lib.ListN.{length, get_or, take}
use lib.Seq.{length-take-le, get_or-take}
use Rattle.model.specs.declared.Token.{Token}
use Rattle.model.specs.declared.Known.{Known}
use Rattle.layout.specs.Layout.{
  token_slots,
  known_slots,
  tokens_of,
  transactions_of,
  shard_of,
  view,
  ledger_of,
  no_token,
  no_known,
  slot_token,
  slot_known,
}
use Rattle.layout.proofs.Regions.{get_or_any}
use Rattle.layout.proofs.Slots.{length-tokens, length-known}

-- the entry at a place among the first n
entry_at : {A : Type 0} (l : List A) (n place : ℕ) (d e : A) → place < n → n ≤ length l
    → get_or l place d ≡ get_or (take n l) place e
entry_at l n place d e h k = get_or_any l place d e (omega arith) ∙ sym (get_or-take n l place e h)

module _ (ws : List ℕ) where
  -- the counts are the lengths
  pub held-length : (shard_of ws).held ≤ token_slots → length (ledger_of ws).tokens ≡ (shard_of ws).held
  unfolding view
  held-length h = length-take-le (shard_of ws).held (tokens_of ws) (omega (arith, length-tokens ws))

  pub known-length : (shard_of ws).known ≤ known_slots → length (ledger_of ws).known ≡ (shard_of ws).known
  unfolding view
  known-length h = length-take-le (shard_of ws).known (transactions_of ws) (omega (arith, length-known ws))

  -- a slot within the count is an element of the ledger's list
  module _ (k : ℕ) where
    pub held-entry : k < (shard_of ws).held → (shard_of ws).held ≤ token_slots → (d : Token)
        → slot_token ws k ≡ get_or (ledger_of ws).tokens k d
    unfolding view
    held-entry h l d = entry_at (tokens_of ws) (shard_of ws).held k no_token d h (omega (arith, length-tokens ws))

    pub known-entry : k < (shard_of ws).known → (shard_of ws).known ≤ known_slots → (d : Known)
        → slot_known ws k ≡ get_or (ledger_of ws).known k d
    unfolding view
    known-entry h l d = entry_at (transactions_of ws) (shard_of ws).known k no_known d h (omega (arith, length-known ws))
