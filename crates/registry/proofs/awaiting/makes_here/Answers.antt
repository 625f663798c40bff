-- The known transaction's outputs by their index, in its four slots.
use Rattle.std.proofs.Common.{◌<◌, ◌≤◌, sym, ◌∙◌, arith}
use borrow.Author.Tests.{ltb-true, ltb-false}
use Rattle.layout.specs.Layout.{slot_known}
use Rattle.layout.specs.Reads.{four-outputs}
use Rattle.registry.proofs.Awaits.{makes_far, makes_unused, makes_there}
use Rattle.registry.proofs.awaiting.makes_here.Goals as goal
use Rattle.registry.proofs.awaiting.makes_here.Goals.{then-at-lt4, else-at-lt4}

-- The slot is used, and its output tells.
pub returns-then-index-count_at : goal.returns-then-index-count_at
returns-then-index-count_at c =
    let t = (slot_known c.args.s.now c.args.k).transaction in
    let four = four-outputs c.args.s.now c.args.k c.requires in
    let used = c.if-index-count_at.true in
    elim c.if-at-lt4.branch [
      | then-at-lt4 w ↦
          let there : c.args.index < t.output_count = omega (arith, w.count_at.ensures, ltb-true c.args.index w.count_at.result (sym w.value-is ∙ used)) in
          let near : c.args.index < 4 = omega (arith, c.from-at.ensures, w.if-at-lt4.true) in
          rw (c.shard_at.ensures, c.from-at.ensures) (makes_there c.args.me t four near there)
      | else-at-lt4 w ↦ absurd (omega (arith, w.if-at-lt4.false, ltb-true c.from-at.result 4 (sym w.value-is ∙ used)))
    ]

-- There is no such slot, or it is not used.
pub returns-else-index-count_at : goal.returns-else-index-count_at
returns-else-index-count_at c =
    let t = (slot_known c.args.s.now c.args.k).transaction in
    let four = four-outputs c.args.s.now c.args.k c.requires in
    let unused = c.if-index-count_at.false in
    elim c.if-at-lt4.branch [
      | then-at-lt4 w ↦
          let past : t.output_count ≤ c.args.index =
          omega (arith, w.count_at.ensures, ltb-false c.args.index w.count_at.result (sym w.value-is ∙ unused)) in
          unused ∙ makes_unused c.args.me t four past
      | else-at-lt4 w ↦
          let far : 4 ≤ c.args.index = omega (arith, c.from-at.ensures, w.if-at-lt4.false) in
          unused ∙ makes_far c.args.me t four far
    ]
