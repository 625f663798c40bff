use Rattle.std.proofs.Common.{sym, ◌∙◌, arith}
use Rattle.loops.proofs.Loops.{find-next}
use Rattle.loops.proofs.Positions.{position-hit, position-past}
use Rattle.layout.specs.Layout.{view, no_token}
use Rattle.layout.proofs.Slots.{length-tokens}
use Rattle.holdings.proofs.finding.place_of_token.Goals as goal

-- The token at i has that creator and index.
pub returns-then-is_token-clause-found : goal.returns-then-is_token-clause-found
unfolding view
returns-then-is_token-clause-found c =
    let slots = length-tokens c.args.s.now in
    position-hit c.loop-i.invariant.none no_token (omega arith) (omega (arith, slots)) (sym c.is_token.ensures ∙ c.if-is_token.true)

pub loop-i-preserved : goal.loop-i-preserved
loop-i-preserved c =
    let slots = length-tokens c.args.s.now in
    let next = find-next no_token c.loop-i.invariant.none (omega arith) (omega (arith, slots)) in
    record {
      count = c.loop-i.invariant.count;
      none = next (sym c.is_token.ensures ∙ c.if-is_token.false);
    }

-- No token held has them.
pub returns-clause-found : goal.returns-clause-found
unfolding view
returns-clause-found c =
    let slots = length-tokens c.args.s.now in
    position-past c.loop-i.invariant.none (omega arith) (omega (arith, slots))
