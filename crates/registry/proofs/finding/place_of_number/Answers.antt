-- The known transaction at i has the number, or none before i + 1 has it.
use Rattle.std.proofs.Common.{sym, ◌∙◌, eq-eqb, arith}
use borrow.Author.Tests.{ne_eqb}
use Rattle.loops.proofs.Loops.{find-next}
use Rattle.loops.proofs.Positions.{position-hit, position-past}
use Rattle.layout.specs.Layout.{view, no_known}
use Rattle.layout.proofs.Slots.{length-known}
use Rattle.registry.proofs.finding.place_of_number.Goals as goal

pub returns-then-number_at-number-clause-found : goal.returns-then-number_at-number-clause-found
unfolding view
returns-then-number_at-number-clause-found c =
    let slots = length-known c.args.s.now in
    let hit = eq-eqb _ c.args.number (sym c.number_at.ensures ∙ c.if-number_at-number.true) in
    position-hit c.loop-i.invariant.found no_known (omega arith) (omega arith) hit

pub loop-i-preserved : goal.loop-i-preserved
loop-i-preserved c =
    let slots = length-known c.args.s.now in
    let miss = ne_eqb _ c.args.number (λ e. c.if-number_at-number.false (c.number_at.ensures ∙ e)) in
    record {
      counted = c.loop-i.invariant.counted;
      found = find-next no_known c.loop-i.invariant.found (omega arith) (omega arith) miss;
    }

pub returns-clause-found : goal.returns-clause-found
unfolding view
returns-clause-found c =
    let slots = length-known c.args.s.now in
    position-past c.loop-i.invariant.found (omega arith) (omega arith)
