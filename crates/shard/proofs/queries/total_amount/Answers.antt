use Rattle.std.proofs.Common.{sym, ◌∙◌, arith}
use Rattle.model.specs.Totals.{total_amount}
use Rattle.loops.proofs.Loops.{sum-next, sum_end}
use Rattle.layout.specs.Layout.{view, no_token}
use Rattle.shard.proofs.Asked.{held-slots}
use Rattle.shard.proofs.queries.total_amount.Goals as goal

pub loop-place-preserved : goal.loop-place-preserved
loop-place-preserved c =
    let amount = c.from-sum.ensures ∙ c.amount_at.ensures in
    record {
      fits = omega arith;
      sums = sum-next no_token _ c.loop-place.invariant.sums (omega arith) (held-slots c.requires) amount;
    }

pub returns : goal.returns
unfolding view total_amount
returns c =
    (sym (sum_end c.loop-place.invariant.sums (omega arith)), omega (arith, c.loop-place.invariant.sums.within, c.requires.held))
