-- None of those before i has the number.
use Rattle.std.proofs.Common.{◌≡◌}
use Rattle.model.specs.Shard.{is_numbered}
use Rattle.loops.proofs.Loops.{Finding}
use Rattle.layout.specs.Layout.{shard_of, transactions_of}
use Rattle.registry.proofs.finding.place_of_number.Given as goal

abbrev pub invariant-loop-i : goal.invariant-loop-i
invariant-loop-i l = record {
  counted : l.i-end ≡ (shard_of l.s).known;
  found : Finding (is_numbered l.number) (transactions_of l.s) (shard_of l.s).known l.i;
}
