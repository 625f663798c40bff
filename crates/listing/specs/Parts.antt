-- What the parts of a line promise each other, and what a whole line promises.
use Rattle.std.specs.Prelude.{ℕ, ◌+◌, ◌≤◌, ◌≡◌, List, ◌++◌, length, drop}
use Rattle.std.proofs.lemmas.List.Edits.{sets}

-- the word is stored from a place on, nothing else is changed, and r is the place behind it, at most so much further
pub record Puts (before : List ℕ) (at : ℕ) (word : List ℕ) (most : ℕ) (after : List ℕ) (r : ℕ) : Type 0 where
  pub stored : after ≡ sets before at word
  pub behind : r ≡ at + length word
  pub within : r ≤ at + most

-- the line stands at the front of the lent bytes, and those behind it are as they were
pub record Shows (line lent after : List ℕ) (r : ℕ) : Type 0 where
  pub text : after ≡ line ++ drop (length line) lent
  pub size : r ≡ length line
  pub within : r ≤ 64
