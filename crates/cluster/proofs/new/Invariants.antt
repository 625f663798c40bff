use Rattle.cluster.proofs.Shards.{Freshened}
use Rattle.cluster.proofs.new.Given as goal

abbrev pub invariant-loop-number : goal.invariant-loop-number
invariant-loop-number l = Freshened l.c l.number
