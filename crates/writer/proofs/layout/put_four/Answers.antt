use Rattle.std.proofs.Common.{◌∙◌, refl, arith}
use Rattle.writer.proofs.Stores.{all-next}
use Rattle.writer.proofs.layout.put_four.Goals as goal

-- one slot more is stored behind those that stand there
pub loop-k-preserved : goal.loop-k-preserved
loop-k-preserved g c =
    let next = all-next g.S.InBytes.in_bytes g.S.InBytes.SIZE g.met.S.InBytes.long c.loop-k.out c.args.at c.loop-k.k c.args.slots
    c.x-item.result (omega (arith, c.loop-k-test.true)) in
    record {
      same = refl;
      left = rw (c.put.ensures, c.SIZE.ensures) (next ∙ c.loop-k.invariant.left);
    }
