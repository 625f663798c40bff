use Rattle.std.proofs.Common.{◌*◌, ◌≤◌}
use Rattle.cluster.proofs.Asked.{held_by}
use Rattle.loops.proofs.Loops.{Summing}
use Rattle.cluster.proofs.queries.total_amount.Given as goal

abbrev pub invariant-loop-s : goal.invariant-loop-s
invariant-loop-s l = record {
  most : l.sum ≤ 549755813888 * l.s-index;
  summed : Summing held_by l.c 8 l.sum l.s-index;
}
