-- A shard (document 01: a pantry) as the reference model sees it, and what every call on it promises. A shard is its words.
use Rattle.std.specs.Prelude.{ℕ, ◌≤◌, ◌≡◌, List, length}
use Rattle.model.specs.Answers.{Answer}
use Rattle.model.specs.Steps.{Ledger, house, empty_ledger}
use Rattle.model.specs.Shard.{Call, shard_step}
use Rattle.model.specs.Fit.{Fit}
use Rattle.layout.specs.Layout as layout
use Rattle.layout.specs.Layout.{shard_words, token_slots, known_slots, Shard, shard_of}
use Rattle.registry.specs.Numbers.{OneEach}

-- the shard's number, and its ledger
abbrev pub number : List ℕ → ℕ
number ws = (shard_of ws).number

abbrev pub view : List ℕ → Ledger
view ws = layout.view (shard_of ws)

-- what holds of every shard that the public calls built: its words are as many as a shard has, the counts are within the slots, the ledger keeps
-- to the limits, and a number is known for one transaction only
pub record Sound (ws : List ℕ) : Type 0 where
  pub long : length ws ≡ shard_words
  pub held : (shard_of ws).held ≤ token_slots
  pub known : (shard_of ws).known ≤ known_slots
  pub fit : Fit house (number ws) (view ws)
  pub once : OneEach (view ws).known

-- a fresh shard of that number
pub record Fresh (me : ℕ) (ws : List ℕ) : Type 0 where
  pub numbered : number ws ≡ me
  pub empty : view ws ≡ empty_ledger house
  pub sound : Sound ws

-- a call: the answer and the ledger afterwards are the model's step, the shard keeps its number, and it can be handed to the next call
pub record Steps (before : List ℕ) (call : Call) (answer : Answer) (after : List ℕ) : Type 0 where
  pub answered : answer ≡ (shard_step house (number before) (view before) call).1
  pub ledger : view after ≡ (shard_step house (number before) (view before) call).0
  pub numbered : number after ≡ number before
  pub sound : Sound after
