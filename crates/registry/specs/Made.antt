-- The outputs of a known transaction by their index.
use Rattle.std.specs.Prelude.{ℕ, Bool, ◌&&◌, ltb, length, get_or}
use Rattle.transaction.specs.declared.Transaction.{Transaction}
use Rattle.transaction.specs.Tokens.{used_outputs, zero_output}
use Rattle.model.specs.Steps.{output_here}

-- the transaction has an output of that index, and it is at this shard
abbrev pub makes_here : ℕ → Transaction → ℕ → Bool
makes_here me t index = ltb index (length (used_outputs t)) && output_here me (get_or (used_outputs t) index zero_output)
