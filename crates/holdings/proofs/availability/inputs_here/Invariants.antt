use Rattle.std.proofs.Common.{◌≡◌, take}
use Rattle.model.specs.Lists.{keep}
use Rattle.model.specs.Steps.{input_here}
use Rattle.holdings.proofs.availability.inputs_here.Given as goal

-- Those of the inputs so far that are at this shard.
abbrev pub invariant-loop-x : goal.invariant-loop-x
invariant-loop-x l = l.here ≡ keep (input_here l.me) (take l.x-index l.x-items)
