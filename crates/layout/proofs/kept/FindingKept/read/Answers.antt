-- The finding is that of the two words.
use Rattle.layout.specs.Layout.{found_in}
use Rattle.layout.proofs.kept.FindingKept.read.Goals as goal

pub returns : goal.returns
unfolding found_in
returns c = c.finding_from.ensures
