use Rattle.std.proofs.Common.{◌≤◌}
use Rattle.cluster.specs.View.{Sound}
use Rattle.plankeeper.specs.declared.TheConstants.{ROOMY}
use Rattle.plankeeper.proofs.list_all.Given as goal

-- each turn begins with room for a line
abbrev pub invariant-loop : goal.invariant-loop
invariant-loop l = Sound l.cluster × (l.output.used ≤ ROOMY)
