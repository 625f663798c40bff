use Rattle.std.proofs.Common.{[], arith}
use Rattle.model.specs.Totals.{held_in}
use Rattle.cluster.proofs.Asked.{held_in-all}
use Rattle.loops.proofs.Loops.{sum-next, sum_end}
use Rattle.cluster.proofs.queries.total_amount.Goals as goal

-- one shard more
pub loop-s-preserved : goal.loop-s-preserved
unfolding held_in
loop-s-preserved c =
    let so_far = c.loop-s.invariant in
    record {
      most = omega (arith, c.total_amount-sum.ensures.1, so_far.most);
      summed = sum-next [] _ so_far.summed (omega arith) (omega (arith, c.requires.eight)) c.total_amount-sum.ensures.0;
    }

pub returns : goal.returns
returns c = held_in-all c.requires (sum_end c.loop-s.invariant.summed (omega arith))
