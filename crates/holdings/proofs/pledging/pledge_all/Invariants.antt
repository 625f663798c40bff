use Rattle.std.proofs.Common.{take}
use Rattle.model.specs.Steps.{pledges}
use Rattle.holdings.specs.Held.{Room, Changes}
use Rattle.holdings.proofs.pledging.pledge_all.Given as goal

-- The inputs so far have had their turn, and there is room.
abbrev pub invariant-loop-x : goal.invariant-loop-x
invariant-loop-x l = record {
  room : Room l.s;
  turned : Changes (pledges l.number (take l.x-index l.x-items)) l.fn.s l.s;
}
