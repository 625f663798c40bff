use Rattle.transaction.specs.Tokens.{same_input}
use Rattle.transaction.proofs.equality.same_input.Goals as goal

pub returns : goal.returns
unfolding same_input
returns c = cc
