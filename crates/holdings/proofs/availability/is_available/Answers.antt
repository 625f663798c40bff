use Rattle.std.proofs.Common.{◌≡◌, Bool, sym, ap, ◌∙◌, arith}
use Rattle.transaction.specs.declared.Input.{Input}
use Rattle.model.specs.declared.Token.{Token}
use Rattle.model.specs.Steps.{free_for, available}
use Rattle.loops.proofs.Loops.{seek_hit, seek_next, seek_end}
use Rattle.layout.specs.Layout.{view, no_token}
use Rattle.layout.proofs.Slots.{length-tokens}
use Rattle.holdings.proofs.availability.is_available.Goals as goal

-- What is found of the token read is so of its slot's.
of_slot : (x : Input) {token y : Token} {free : Bool} → token ≡ y → free ≡ free_for x token → free_for x y ≡ free
of_slot x t e = ap (free_for x) (sym t) ∙ sym e

-- The token at k is free for the input.
pub returns-then-is_free_for : goal.returns-then-is_free_for
unfolding view available
returns-then-is_free_for c =
    let slots = length-tokens c.args.s.now in
    let free = of_slot c.args.x c.token_at.ensures c.is_free_for.ensures in
    let hit = seek_hit no_token c.loop-k.invariant.none (omega arith) (omega (arith, slots)) in
    sym (hit (free ∙ c.if-is_free_for.true))

pub loop-k-preserved : goal.loop-k-preserved
loop-k-preserved c =
    let slots = length-tokens c.args.s.now in
    let free = of_slot c.args.x c.token_at.ensures c.is_free_for.ensures in
    let next = seek_next no_token c.loop-k.invariant.none (omega arith) (omega (arith, slots)) in
    record {
      count = c.loop-k.invariant.count;
      none = next (free ∙ c.if-is_free_for.false);
    }

-- No token held is.
pub returns : goal.returns
unfolding view available
returns c = sym (seek_end c.loop-k.invariant.none (omega arith))
