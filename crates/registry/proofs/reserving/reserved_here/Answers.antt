-- One more known transaction adds four at most.
use Rattle.std.proofs.Common.{sym, arith}
use Rattle.model.specs.Shard.{reserved}
use Rattle.loops.proofs.Loops.{sum-next, sum_end}
use Rattle.layout.specs.Layout.{view, no_known}
use Rattle.layout.proofs.Slots.{length-known}
use Rattle.registry.proofs.reserving.reserved_here.Goals as goal

pub loop-i-preserved : goal.loop-i-preserved
loop-i-preserved c =
    let slots = length-known c.args.s.now in
    let sum = c.loop-i.invariant in
    let one = c.reserved_at-sum.ensures in
    record {
      counted = sum.counted;
      most = omega (arith, one.1, sum.most);
      summed = sum-next no_known _ sum.summed (omega arith) (omega arith) one.0;
    }

pub returns : goal.returns
unfolding view reserved
returns c = (sym (sum_end c.loop-i.invariant.summed (omega arith)), omega arith)
