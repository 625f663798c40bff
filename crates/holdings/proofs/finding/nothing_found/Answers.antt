use Rattle.std.proofs.Common.{refl}
use Rattle.model.specs.Steps.{keeping}
use Rattle.holdings.proofs.finding.nothing_found.Goals as goal

pub returns : goal.returns
unfolding keeping
returns c = refl
