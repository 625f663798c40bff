use Rattle.std.proofs.Common.{◌≡◌, false, take}
use Rattle.transaction.specs.Lists.{repeats}
use Rattle.transaction.specs.Checks.{same_name}
use Rattle.transaction.proofs.checks.named_twice.Given as goal

-- no token is named twice so far
abbrev pub invariant-loop-k : goal.invariant-loop-k
invariant-loop-k l = repeats same_name (take l.k l.x) ≡ false
