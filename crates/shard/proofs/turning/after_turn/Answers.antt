use Rattle.shard.proofs.Freed.{turned_over}
use Rattle.shard.proofs.turning.after_turn.Goals as goal

pub returns : goal.returns
returns c = turned_over c.args.s.now _ _ c.free_aborted.ensures c.set_turned.ensures
