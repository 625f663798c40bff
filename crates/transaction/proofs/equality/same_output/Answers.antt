use Rattle.std.proofs.Common.{refl}
use Rattle.transaction.specs.Tokens.{same_output}
use Rattle.transaction.proofs.equality.same_output.Goals as goal

pub returns : goal.returns
unfolding same_output
returns c = refl
