use Rattle.std.proofs.Common.{◌≡◌, take}
use Rattle.holdings.proofs.Local.{picked}
use Rattle.holdings.proofs.availability.available_here.Given as goal

-- Those of the inputs so far that were found available.
abbrev pub invariant-loop-i : goal.invariant-loop-i
invariant-loop-i l = l.available ≡ picked (take l.i l.x-items) l.found
