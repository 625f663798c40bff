use Rattle.std.proofs.Common.{◌≡◌, length, take, eq-eqb, ap, ◌∙◌, arith, rules}
use borrow.Author.Tests.{ne_eqb}
use Rattle.std.proofs.lemmas.List.{take_all, length-take}
use Rattle.transaction.specs.Tokens.{zero_input}
use Rattle.model.specs.Lists.{keep}
use Rattle.model.specs.Steps.{input_here, inputs_here}
use Rattle.loops.proofs.Prefixes.{keep-in, keep-out, keep-few}
use Rattle.holdings.proofs.availability.inputs_here.Goals as goal
use Rattle.holdings.proofs.availability.inputs_here.Goals.{then-x-me, else-x-me}

-- Fewer than four are read so far.
pub push-requires : goal.push-requires
push-requires c =
    let items = c.used_inputs-x-items.result.now in
    let few = keep-few (input_here c.args.me) items c.loop-x.x-index zero_input in
    let used : length items ≡ length (take c.args.t.input_count c.args.t.inputs) = ap length c.used_inputs-x-items.ensures in
    let four = length-take c.args.t.input_count c.args.t.inputs in
    let long : length c.args.t.inputs ≡ 4 = search rules in
    rw c.loop-x.invariant (omega (arith, few, used, four, c.loop-x-test.true))

-- The input is at this shard, or it is elsewhere.
pub loop-x-preserved : goal.loop-x-preserved
loop-x-preserved c =
    let items = c.used_inputs-x-items.result.now in
    let here = input_here c.args.me in
    let i = c.loop-x.x-index in
    elim c.if-x-me.branch [
      | then-x-me w ↦
          w.here-is ∙ w.push.ensures ∙ rw c.loop-x.invariant (keep-in here items i zero_input c.loop-x-test.true (eq-eqb _ _ w.if-x-me.true))
      | else-x-me w ↦
          w.here-is ∙ c.loop-x.invariant ∙ keep-out here items i zero_input c.loop-x-test.true (ne_eqb _ _ w.if-x-me.false)
    ]

-- All used ones are read.
pub returns : goal.returns
unfolding inputs_here
returns c =
    c.loop-x.invariant
    ∙ ap (keep (input_here c.args.me)) (take_all c.loop-x.x-index c.used_inputs-x-items.result.now c.loop-x-test.false ∙ c.used_inputs-x-items.ensures)
