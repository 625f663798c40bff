use Rattle.std.proofs.Common.{take}
use Rattle.holdings.specs.Held.{destroying, Room, Changes}
use Rattle.holdings.proofs.committing.destroy.Given as goal

-- The inputs so far have had their turn, and there is room.
abbrev pub invariant-loop-x : goal.invariant-loop-x
invariant-loop-x l = record {
  room : Room l.s;
  turned : Changes (destroying (take l.x-index l.x-items)) l.fn.s l.s;
}
