use Rattle.std.proofs.Common.{◌≡◌, [], ◌∷◌}
use Rattle.model.specs.Steps.{stays}
use Rattle.loops.proofs.Places.{Packing}
use Rattle.layout.specs.Layout.{held_place, word, tokens_of, shard_of, with_tokens, Becomes}
use Rattle.holdings.proofs.committing.destroy_named.Given as goal

-- Only tokens change, and those before k that the input does not name stand before count.
abbrev pub invariant-loop-k : goal.invariant-loop-k
invariant-loop-k l = record {
  held : l.n ≡ word l.fn.s held_place;
  same : Becomes (with_tokens (shard_of l.fn.s) (tokens_of l.s)) l.s;
  packed : Packing (stays (l.x ∷ [])) (tokens_of l.fn.s) l.n (tokens_of l.s) l.count l.k;
}
