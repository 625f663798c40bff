use Rattle.std.proofs.Common.{refl, arith}
use Rattle.cluster.proofs.Shards.{freshen_next, freshened}
use Rattle.cluster.proofs.new.Goals as goal

pub loop-number-preserved : goal.loop-number-preserved
loop-number-preserved c =
    rw c.from.ensures (freshen_next c.loop-number.invariant (omega arith) refl c.new.ensures)

pub returns : goal.returns
returns c = freshened c.loop-number.invariant (omega arith)
