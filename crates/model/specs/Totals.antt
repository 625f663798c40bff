-- Document 01: the last line of the listing is TOTAL and the portions held in all pantries, a sum over the tokens held.
use Rattle.std.specs.Prelude.{ℕ, List}
use Rattle.transaction.specs.Lists.{total}
use Rattle.model.specs.declared.Token.{Token}
use Rattle.model.specs.Steps.{Ledger}

-- the token's amount (portions)
abbrev pub amount_of : Token → ℕ
amount_of token = token.amount

-- the sum of the amounts (all portions of a pantry)
unfoldable pub total_amount : List Token → ℕ
total_amount tokens = total amount_of tokens

-- the amounts held in a ledger, and in all of them (TOTAL)
unfoldable pub held_in : Ledger → ℕ
held_in ledger = total_amount ledger.tokens

unfoldable pub total_held : List Ledger → ℕ
total_held shards = total held_in shards
