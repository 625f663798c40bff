-- The comparison tells for which transaction the number is known.
use Rattle.model.specs.Shard.{is_numbered}
use Rattle.loops.proofs.Positions.{stands}
use Rattle.shard.specs.View.{view}
use Rattle.shard.proofs.Tables.{other-is}
use Rattle.shard.proofs.rows.is_other.Goals as goal

pub returns : goal.returns
returns c =
    let at = stands (is_numbered c.args.t.number) (view c.args.s.now).known c.args.place c.requires.there in
    other-is c.requires.sound c.args.t at c.same_at.ensures
