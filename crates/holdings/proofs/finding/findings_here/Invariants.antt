use Rattle.std.proofs.Common.{◌≡◌, map, take}
use Rattle.model.specs.Steps.{finding, keeping}
use Rattle.layout.specs.Layout.{ledger_of}
use Rattle.holdings.proofs.finding.findings_here.Given as goal

-- What is found about the inputs so far, and nothing more.
abbrev pub invariant-loop-i : goal.invariant-loop-i
invariant-loop-i l = l.found ≡ keeping (map (finding (ledger_of l.s).tokens) (take l.i l.x-items))
