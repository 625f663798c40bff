-- What can be asked of a shard, of its ledger.
use Rattle.std.specs.Prelude.{ℕ, Bool, ◌&&◌, List, [], Option, eqb, slice_get, get_or, option_map}
use Rattle.transaction.specs.Tokens.{blank_transaction}
use Rattle.model.specs.declared.Token.{Token}
use Rattle.model.specs.declared.Known.{Known}
use Rattle.model.specs.declared.Outcome.{Outcome}
use Rattle.model.specs.Lists.{find}
use Rattle.model.specs.Shard.{is_numbered}
use Rattle.model.specs.Steps.{unheard, keeping, outcome_of}

-- the token at a place of those held (document 01: of a pantry's tokens); none behind the last
abbrev pub token_at : List Token → ℕ → Option Token
token_at tokens place = slice_get tokens place

-- the token has that creator (document 01: making swap) and index (position)
abbrev pub has_id : ℕ → ℕ → Token → Bool
has_id creator index token = eqb token.creator creator && eqb token.index index

-- the held token of that id (document 01: of that name in the pantry)
abbrev pub token_of_id : List Token → ℕ → ℕ → Option Token
token_of_id tokens creator index = token_at tokens (find (has_id creator index) tokens)

-- the known transaction at a place (document 01: of a pantry's known swaps); none behind the last
abbrev pub get_known : List Known → ℕ → Option Known
get_known known place = slice_get known place

-- no known transaction (document 01: swap)
abbrev pub blank_known : Known
blank_known = unheard (keeping []) blank_transaction

-- the known transaction at a place, and a blank one behind the last
abbrev pub known_at : List Known → ℕ → Known
known_at known place = get_or known place blank_known

-- the outcome of the known transaction at a place (document 01: wait, commit, abort)
abbrev pub outcome_at : List Known → ℕ → Option Outcome
outcome_at known place = option_map outcome_of (get_known known place)

-- the outcome of the known transaction of that number (document 01: of that swap)
abbrev pub outcome_of_number : List Known → ℕ → Option Outcome
outcome_of_number known number = outcome_at known (find (is_numbered number) known)
