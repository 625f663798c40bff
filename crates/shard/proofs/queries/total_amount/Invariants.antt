use Rattle.std.proofs.Common.{◌≤◌, ◌*◌}
use Rattle.model.specs.Totals.{amount_of}
use Rattle.loops.proofs.Loops.{Summing}
use Rattle.layout.specs.Layout.{held_place, word, tokens_of}
use Rattle.shard.proofs.queries.total_amount.Given as goal

-- The sum is that of the amounts at the places before, each of 32 bits.
abbrev pub invariant-loop-place : goal.invariant-loop-place
invariant-loop-place l = record {
  fits : l.sum ≤ 4294967295 * l.place;
  sums : Summing amount_of (tokens_of l.s) (word l.s held_place) l.sum l.place;
}
