-- The shards of the inputs and those of the outputs decide together.
use Rattle.layout.specs.Layout.{slot_known}
use Rattle.registry.proofs.Decisions.{decides}
use Rattle.registry.proofs.deciding.outcome_at.Goals as goal

pub returns : goal.returns
returns c =
    decides (slot_known c.args.s.now c.args.k) c.by_side.ensures c.by_side-2.ensures c.both.ensures
