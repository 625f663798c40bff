use Rattle.std.proofs.Common.{arith}
use Rattle.reader.specs.Layout.{word_at}
use Rattle.reader.proofs.layout.word_at.Goals as goal

-- the four bytes from the place on, high byte first
pub returns : goal.returns
unfolding word_at
returns c = omega (arith, c.from_be_bytes.ensures)
