-- Known transactions by their numbers.
use Rattle.std.specs.Prelude.{ℕ, ◌<◌, ◌≡◌, List, length, get_or}
use Rattle.model.specs.declared.Known.{Known}
use Rattle.model.specs.Steps.{nothing_known}

-- the number of the known transaction at a place
abbrev pub number_at : List Known → ℕ → ℕ
number_at known i = (get_or known i nothing_known).transaction.number

-- a number is known for one transaction only
abbrev pub OneEach : List Known → Type 0
OneEach known = (i j : ℕ) → i < length known → j < length known → number_at known i ≡ number_at known j → i ≡ j
