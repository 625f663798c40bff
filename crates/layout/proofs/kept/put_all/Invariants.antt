-- The first i are stored.
use Rattle.layout.proofs.Regions.{Storing}
use Rattle.layout.proofs.kept.put_all.Given as goal

abbrev pub invariant-loop-i : goal.invariant-loop-i
invariant-loop-i g l = Storing g.T.Kept.read_at g.T.Kept.SIZE g.met.T.Kept.local g.row.N l.b l.x l.initial.s l.s l.i
