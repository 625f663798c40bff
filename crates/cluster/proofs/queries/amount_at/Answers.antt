use Rattle.std.proofs.Common.{rules}
use Rattle.model.specs.Totals.{total_amount, held_in}
use Rattle.cluster.proofs.queries.amount_at.Goals as goal

pub returns : goal.returns
unfolding held_in total_amount
returns c = search rules
