use Rattle.std.proofs.Common.{◌-◌}
use Rattle.probes.proofs.Sums.{Left}
use Rattle.probes.proofs.votes.probe_read_votes.Given as goal

abbrev pub invariant-loop : goal.invariant-loop
invariant-loop l = record { left : Left l.bytes l.records l.sum l.at (l.records - l.counter) }
