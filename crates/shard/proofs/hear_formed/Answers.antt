use Rattle.std.proofs.Common.{sym, ap, not}
use Rattle.model.specs.Shard.{is_numbered}
use Rattle.loops.proofs.Positions.{nowhere}
use Rattle.shard.specs.View.{view}
use Rattle.shard.proofs.hear_formed.Goals as goal

-- The search has found none of the number.
pub bring-requires-clause-unknown : goal.bring-requires-clause-unknown
bring-requires-clause-unknown c =
    let number = c.args.vote.now.transaction.number in
    let none = nowhere (is_numbered number) (view c.args.s.now).known (sym c.in-None.ensures.found) in
    ap not none.none
