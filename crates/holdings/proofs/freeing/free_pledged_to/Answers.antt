use Rattle.std.proofs.Common.{rules}
use Rattle.model.specs.Steps.{is_pledged_to, freeing}
use Rattle.holdings.proofs.freeing.free_pledged_to.Goals as goal

pub returns : goal.returns
unfolding freeing
returns c = c.pledge_where.ensures (is_pledged_to c.args.number) (λ token picked told. search rules)
