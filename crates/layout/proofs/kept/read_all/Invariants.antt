-- The first i are read.
use Rattle.layout.proofs.Regions.{Reading}
use Rattle.layout.proofs.kept.read_all.Given as goal

abbrev pub invariant-loop-i : goal.invariant-loop-i
invariant-loop-i g l = Reading g.T.Kept.read_at g.T.Kept.SIZE g.met.T.Kept.local g.row.N l.b l.s l.all l.i
