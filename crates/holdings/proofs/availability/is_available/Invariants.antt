use Rattle.std.proofs.Common.{◌≡◌}
use Rattle.model.specs.Steps.{free_for}
use Rattle.loops.proofs.Loops.{Seeking}
use Rattle.layout.specs.Layout.{held_place, word, tokens_of}
use Rattle.holdings.proofs.availability.is_available.Given as goal

-- None of the tokens before k is free for the input.
abbrev pub invariant-loop-k : goal.invariant-loop-k
invariant-loop-k l = record {
  count : l.k-end ≡ word l.s held_place;
  none : Seeking (free_for l.x) (tokens_of l.s) (word l.s held_place) l.k;
}
