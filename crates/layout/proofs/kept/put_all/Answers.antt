-- One more is stored, and then all are.
use Rattle.std.proofs.Common.{sym, ◌∙◌, rules}
use Rattle.layout.proofs.Regions.{store-start, store-next, store_end}
use Rattle.layout.proofs.kept.put_all.Goals as goal

pub loop-i-init : goal.loop-i-init
loop-i-init g c =
    store-start g.T.Kept.read_at g.T.Kept.SIZE g.met.T.Kept.local g.row.N c.args.b c.args.x (search rules) c.args.s.now

pub loop-i-preserved : goal.loop-i-preserved
loop-i-preserved g c =
    let put = rw c.SIZE.ensures at c.put.ensures in
    store-next g.T.Kept.read_at g.T.Kept.SIZE g.met.T.Kept.local g.row.N c.args.b c.args.x (search rules) c.args.s.now
    c.loop-i.s c.put.new.s c.loop-i.i c.index-x-i.result c.loop-i.invariant c.loop-i-test.true c.index-x-i.is put.0
    (put.1 ∙ sym c.index-x-i.is)

pub returns : goal.returns
returns g c =
    store_end g.T.Kept.read_at g.T.Kept.SIZE g.met.T.Kept.local g.row.N c.args.b c.args.x (search rules) c.args.s.now
    c.loop-i.s c.loop-i.i c.loop-i.invariant c.loop-i-test.false
