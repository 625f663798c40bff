use Rattle.holdings.proofs.Tokens.{holds_same}
use Rattle.holdings.proofs.committing.settle_at.Goals as goal

-- Before the decision no token changes.
pub returns-in-Wait : goal.returns-in-Wait
returns-in-Wait c = rw c.in-Wait.is (holds_same c.args.s.now c.requires.room)
