use Rattle.std.proofs.Common.{◌≡◌, drop}
use Rattle.transaction.specs.Lists.{any}
use Rattle.transaction.specs.Checks.{names}
use Rattle.transaction.proofs.checks.named_before.Given as goal

-- the earlier inputs from here on decide
abbrev pub invariant-loop-b : goal.invariant-loop-b
invariant-loop-b l = any (names l.a) (drop l.b-index l.earlier) ≡ any (names l.a) l.earlier
