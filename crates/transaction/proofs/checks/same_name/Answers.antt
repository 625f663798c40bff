use Rattle.transaction.specs.Checks.{same_name}
use Rattle.transaction.proofs.checks.same_name.Goals as goal

pub returns : goal.returns
unfolding same_name
returns c = cc
