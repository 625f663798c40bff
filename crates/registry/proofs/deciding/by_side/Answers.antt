-- One shard more decides with those before it where its slot is used, and then all used ones do.
use Rattle.std.proofs.Common.{◌+◌, ◌<◌, length, map, take, ap, sym, ◌∙◌, arith}
use Rattle.std.proofs.lemmas.List.{take_all, length-take, get_or-take}
use Rattle.layout.specs.Layout.{slot_known}
use Rattle.registry.specs.Decision.{decision_of}
use Rattle.registry.proofs.Decisions.{decides-next}
use Rattle.registry.proofs.deciding.by_side.Goals as goal
use Rattle.registry.proofs.deciding.by_side.Goals.{then-i-n, else-i-n}

pub loop-i-preserved : goal.loop-i-preserved
loop-i-preserved g c =
    let known = slot_known c.args.s.now c.args.k in
    let slots = g.P.Side.slots known.transaction in
    let n = c.count_at-n.result in
    let i = c.loop-i.i in
    let four = g.met.P.Side.four c.args.s.now c.args.k c.requires in
    let size = length-take n slots in
    elim c.if-i-n.branch [
      | then-i-n w ↦
          let within : i < length (take n slots) = omega (arith, four, size, w.if-i-n.true, c.loop-i-test.true) in
          let place = ap g.P.Side.shard (sym (get_or-take n slots i g.P.Side.zero w.if-i-n.true)) in
          w.decided-is
          ∙ decides-next known.heard g.P.Side.shard (take n slots) i g.P.Side.zero within c.loop-i.invariant
          (rw w.from.ensures at w.shard_at-shard.ensures ∙ place) w.heard_at-said.ensures w.by_vote.ensures w.both-decided.ensures
      | else-i-n w ↦
          let all = take_all i (take n slots) (omega (arith, size, w.if-i-n.false)) in
          let still = take_all (i + 1) (take n slots) (omega (arith, size, w.if-i-n.false)) in
          w.decided-is ∙ c.loop-i.invariant ∙ ap (λ l. decision_of known.heard (map g.P.Side.shard l)) (all ∙ sym still)
    ]

pub returns : goal.returns
returns g c =
    let known = slot_known c.args.s.now c.args.k in
    let slots = g.P.Side.slots known.transaction in
    let n = c.count_at-n.result in
    let four = g.met.P.Side.four c.args.s.now c.args.k c.requires in
    c.loop-i.invariant
    ∙ ap (λ l. decision_of known.heard (map g.P.Side.shard l))
    (take_all c.loop-i.i (take n slots) (omega (arith, four, length-take n slots, c.loop-i-test.false))
    ∙ ap (λ m. take m slots) c.count_at-n.ensures)
