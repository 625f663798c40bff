use Rattle.std.proofs.Common.{◌-◌, cond}
use Rattle.plankeeper.specs.declared.TheConstants.{RECORD}
use Rattle.plankeeper.proofs.Input.fill.Given as goal

-- how many of the wanted bytes are still to come
abbrev pub decreases-loop-self : goal.decreases-loop-self
decreases-loop-self l = cond l.self.ended 0 RECORD - (l.self.end - l.self.at)
