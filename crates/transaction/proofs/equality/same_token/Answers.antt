use mathlib.Core.Bool.{and-false, and-true}
use borrow.Author.Tests.{eq-eqb, ne_eqb}
use Rattle.transaction.specs.Tokens.{same_token}
use Rattle.transaction.proofs.equality.same_token.Goals as goal

-- the creators differ
pub returns-then-a-b : goal.returns-then-a-b
unfolding same_token
returns-then-a-b c = simp (ne_eqb _ _ c.if-a-b.true, and-false)

-- the creators are equal, so that shard and index decide
pub returns : goal.returns
unfolding same_token
returns c = rw (eq-eqb _ _ c.if-a-b.false) (simp and-true)
