-- The sum of those before i, four each at most.
use Rattle.std.proofs.Common.{◌≡◌, ◌≤◌, ◌*◌}
use Rattle.model.specs.Shard.{reserved_by}
use Rattle.loops.proofs.Loops.{Summing}
use Rattle.layout.specs.Layout.{shard_of, transactions_of}
use Rattle.registry.proofs.reserving.reserved_here.Given as goal

abbrev pub invariant-loop-i : goal.invariant-loop-i
invariant-loop-i l = record {
  counted : l.i-end ≡ (shard_of l.s).known;
  most : l.sum ≤ 4 * l.i;
  summed : Summing (reserved_by l.me) (transactions_of l.s) (shard_of l.s).known l.sum l.i;
}
