use Rattle.std.proofs.Common.{take}
use Rattle.model.specs.Steps.{tokens_from}
use Rattle.holdings.specs.Held.{adding, Changes}
use Rattle.holdings.proofs.committing.make.Given as goal

-- The tokens of the outputs so far are made.
abbrev pub invariant-loop-i : goal.invariant-loop-i
invariant-loop-i l = Changes (adding (tokens_from l.me l.fn.t.number 0 (take l.i l.y-items))) l.fn.s l.s
