-- A change of the tokens held in a shard's words.
use Rattle.std.specs.Prelude.{ℕ, ◌+◌, ◌≤◌, ◌<◌, ◌≡◌, Bool, List, ◌++◌, length, take}
use Rattle.transaction.specs.declared.Input.{Input}
use Rattle.transaction.specs.declared.Output.{Output}
use Rattle.model.specs.declared.Token.{Token}
use Rattle.model.specs.declared.Outcome.{Outcome}
use Rattle.model.specs.Lists.{keep}
use Rattle.model.specs.Steps.{output_here, token_of, stays, concluded}
use Rattle.loops.specs.Lists.{one_if}
use Rattle.layout.specs.Layout.{
  shard_words,
  token_slots,
  known_slots,
  tokens_of,
  Shard,
  shard_of,
  ledger_of,
  slot_known,
  with_held,
  with_tokens,
}

-- the token of an output, where the output is at this shard
abbrev pub made_from : ℕ → ℕ → ℕ → Output → List Token
made_from me number index y = one_if (output_here me y) (token_of number index y)

-- tokens behind those that are held
abbrev pub adding : List Token → List Token → List Token
adding more tokens = tokens ++ more

-- without those that an input names
unfoldable pub destroying : List Input → List Token → List Token
destroying inputs tokens = keep (stays inputs) tokens

-- the words are a shard's, and the tokens held are within their slots
-- Stays: a record of the words and no invariant of a type, since they are lent by C as an array, and the loan of a struct over
-- them would be unsafe. `long` stands in it for laws over plain lists of words.
pub record Room (ws : List ℕ) : Type 0 where
  pub long : length ws ≡ shard_words
  pub held : (shard_of ws).held ≤ token_slots

-- and so many more would be
abbrev pub Left : List ℕ → ℕ → Type 0
Left ws n = Room ws × ((shard_of ws).held + n ≤ token_slots)

-- the words stand for the shard s, but that these are the tokens held
pub record Holds (s : Shard) (l : List Token) (ws : List ℕ) : Type 0 where
  pub kept : shard_of ws ≡ with_held (with_tokens s (tokens_of ws)) (length l)
  pub tokens : take (length l) (tokens_of ws) ≡ l
  pub long : length ws ≡ shard_words

-- the tokens held are changed by f, and nothing else is
abbrev pub Changes : (List Token → List Token) → List ℕ → List ℕ → Type 0
Changes f ws vs = Holds (shard_of ws) (f (ledger_of ws).tokens) vs

-- whatever a closure answers about a token is what the test says of it
abbrev pub Tells : (Token → Bool → Type 0) → (Token → Bool) → Type 0
Tells answers test = (token : Token) (picked : Bool) → answers token picked → picked ≡ test token

-- the tokens after a decision on the known transaction in a slot
abbrev pub settled_at : Outcome → ℕ → List ℕ → List Token
settled_at decided place ws =
    concluded (ledger_of ws).turned decided (shard_of ws).number (slot_known ws place).transaction (ledger_of ws).tokens

-- they fit, so that the decision can be carried out
pub record Settling (decided : Outcome) (place : ℕ) (ws : List ℕ) : Type 0 where
  pub room : Room ws
  pub slot : place < known_slots
  pub fits : length (settled_at decided place ws) ≤ token_slots

-- it is carried out
abbrev pub Settles : Outcome → ℕ → List ℕ → List ℕ → Type 0
Settles decided place ws vs = Holds (shard_of ws) (settled_at decided place ws) vs
