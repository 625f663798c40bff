-- What a shard has heard from a sender: nothing, or a verdict, yes (true) or no (false). The verdict of a record or of a call is a raw number
-- (1 yes, 0 no, any other refused); `says` compares the two.
use Rattle.std.specs.Prelude.{ℕ, Bool, true, false, not, Option, Some, None, eqb}

-- what is heard from a sender
abbrev pub Said : Type 0
Said = Option Bool

-- it is yes
abbrev pub is_said_yes : Said → Bool
is_said_yes None = false
is_said_yes (Some verdict) = verdict

-- it is no
abbrev pub is_said_no : Said → Bool
is_said_no None = false
is_said_no (Some verdict) = not verdict

-- the raw verdict is the one heard
abbrev pub says : Said → ℕ → Bool
says None verdict = false
says (Some true) verdict = eqb verdict 1
says (Some false) verdict = eqb verdict 0

-- its number, where words hold it
abbrev pub said_number : Said → ℕ
said_number None = 0
said_number (Some false) = 1
said_number (Some true) = 2
