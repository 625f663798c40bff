use Rattle.std.proofs.Common.{◌≡◌, Bool}
use Rattle.model.specs.declared.Token.{Token}
use Rattle.model.specs.Steps.{pledge_when}
use Rattle.loops.proofs.Places.{Placing}
use Rattle.layout.specs.Layout.{held_place, word, tokens_of, shard_of, with_tokens, Becomes}
use Rattle.holdings.specs.Held.{Tells}
use Rattle.holdings.proofs.pledging.pledge_where.Given as goal

-- Only tokens change, and those before k that the test picks are pledged.
abbrev pub invariant-loop-k : goal.invariant-loop-k
invariant-loop-k g l = record {
  count : l.k-end ≡ word l.fn.s held_place;
  same : Becomes (with_tokens (shard_of l.fn.s) (tokens_of l.s)) l.s;
  pledged : (test : Token → Bool) → Tells (goal.F-post g l.picks) test
      → Placing (pledge_when l.number test) (tokens_of l.fn.s) l.k-end (tokens_of l.s) l.k;
}
