use Rattle.std.proofs.Common.{◌≡◌}
use Rattle.model.specs.Demand.{has_spot}
use Rattle.loops.proofs.Loops.{Finding}
use Rattle.layout.specs.Layout.{held_place, word, tokens_of}
use Rattle.holdings.proofs.finding.place_of_token.Given as goal

-- None of the tokens before i has that creator and index.
abbrev pub invariant-loop-i : goal.invariant-loop-i
invariant-loop-i l = record {
  count : l.i-end ≡ word l.s held_place;
  none : Finding (has_spot l.creator l.index) (tokens_of l.s) (word l.s held_place) l.i;
}
