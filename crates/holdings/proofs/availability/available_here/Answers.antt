use Rattle.std.proofs.Common.{◌<◌, ◌≤◌, length, take, sym, ◌∙◌, arith, rules}
use Rattle.std.proofs.lemmas.List.{length-take}
use Rattle.transaction.specs.Tokens.{zero_input}
use Rattle.layout.specs.Layout.{no_finding}
use Rattle.holdings.proofs.Local.{pick-in, pick-out, picked-few, pick_end}
use Rattle.holdings.proofs.availability.available_here.Goals as goal
use Rattle.holdings.proofs.availability.available_here.Goals.{then-was_available, else-was_available}

-- Fewer than four are read so far.
pub push-requires : goal.push-requires
push-requires c =
    let items = c.as_slice-x-items.result.now in
    let few = picked-few (take c.loop-i.i items) c.args.found in
    let four : length items ≤ 4 = rw c.as_slice-x-items.ensures.are c.as_slice-x-items.ensures.few in
    rw c.loop-i.invariant (omega (arith, few, four, length-take c.loop-i.i items))

-- The input was found available, or it was not.
pub loop-i-preserved : goal.loop-i-preserved
loop-i-preserved c =
    let items = c.as_slice-x-items.result.now in
    let found = c.args.found in
    let i = c.loop-i.i in
    let within : i < length found = search rules in
    let one = pick-in items found i zero_input no_finding c.loop-i-test.true within in
    let none = pick-out items found i zero_input no_finding c.loop-i-test.true within in
    elim c.if-was_available.branch [
      | then-was_available w ↦
          w.available-is ∙ w.push.ensures ∙ rw c.loop-i.invariant (one (sym c.was_available.ensures ∙ w.if-was_available.true))
      | else-was_available w ↦
          w.available-is ∙ c.loop-i.invariant ∙ none (sym c.was_available.ensures ∙ w.if-was_available.false)
    ]

pub returns : goal.returns
returns c me tokens t here found =
    let few : length c.as_slice-x-items.result.now ≤ 4 = rw c.as_slice-x-items.ensures.are c.as_slice-x-items.ensures.few in
    pick_end me tokens t c.as_slice-x-items.result.now c.args.found c.loop-i.i c.loop-i-test.false few
    (c.as_slice-x-items.ensures.are ∙ here) found c.loop-i.invariant
