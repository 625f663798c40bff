-- One of the three words is of a byte.
use Rattle.layout.specs.Layout.{output_in}
use Rattle.layout.proofs.kept.OutputKept.read.Goals as goal

pub returns : goal.returns
unfolding output_in
returns c = rw c.byte.ensures
