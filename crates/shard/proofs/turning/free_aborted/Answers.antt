use Rattle.std.proofs.Common.{arith}
use Rattle.shard.proofs.Freed.{free-start, free-room, free-next, free_end}
use Rattle.shard.proofs.turning.free_aborted.Goals as goal

pub loop-place-init : goal.loop-place-init
loop-place-init c = free-start c.args.s.now c.requires.0 c.known_count-place-end.result

-- No more tokens are held than at the start.
pub free_if_aborted-requires : goal.free_if_aborted-requires
free_if_aborted-requires c = (free-room c.args.s.now c.requires.0 c.loop-place.invariant, omega arith)

pub loop-place-preserved : goal.loop-place-preserved
loop-place-preserved c =
    free-next c.args.s.now c.requires.0 c.loop-place.invariant (omega arith) (omega arith) c.free_if_aborted.ensures

pub returns : goal.returns
returns c =
    free_end c.args.s.now c.requires.0 c.known_count-place-end.ensures c.loop-place.invariant c.loop-place-test.false
