-- One more is read, and then all are.
use Rattle.std.proofs.Common.{refl}
use Rattle.layout.proofs.Regions.{read-start, read-next, read_end}
use Rattle.layout.proofs.kept.read_all.Goals as goal

pub loop-i-init : goal.loop-i-init
loop-i-init g c =
    read-start g.T.Kept.read_at g.T.Kept.SIZE g.met.T.Kept.local g.row.N c.args.b c.args.s.now
    _ c.read-all.result c.requires.0 refl c.read-all.ensures

pub loop-i-preserved : goal.loop-i-preserved
loop-i-preserved g c =
    read-next g.T.Kept.read_at g.T.Kept.SIZE g.met.T.Kept.local g.row.N c.args.b c.args.s.now
    c.loop-i.all c.loop-i.i c.read.result c.loop-i.invariant c.loop-i-test.true (rw c.SIZE.ensures at c.read.ensures)

pub returns : goal.returns
returns g c =
    read_end g.T.Kept.read_at g.T.Kept.SIZE g.met.T.Kept.local g.row.N c.args.b c.args.s.now
    c.loop-i.all c.loop-i.i c.loop-i.invariant c.loop-i-test.false
