-- Two of the five words are of a byte.
use Rattle.layout.specs.Layout.{input_in}
use Rattle.layout.proofs.kept.InputKept.read.Goals as goal

pub returns : goal.returns
unfolding input_in
returns c = rw (c.byte.ensures, c.byte-2.ensures)
