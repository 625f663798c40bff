-- Nothing without outputs here, nothing once decided, else the outputs here.
use Rattle.std.proofs.Common.{◌∙◌, arith}
use Rattle.model.specs.Steps.{outputs_here}
use Rattle.layout.specs.Layout.{slot_known}
use Rattle.registry.proofs.Decisions.{reserves_none, reserves_open, reserves_done}
use Rattle.registry.proofs.reserving.reserved_at.Goals as goal

pub returns-then-n-eq0 : goal.returns-then-n-eq0
unfolding outputs_here
returns-then-n-eq0 c =
    let known = slot_known c.args.s.now c.args.k in
    (reserves_none c.args.me known (c.from-n.ensures ∙ c.here_at.ensures.are) c.if-n-eq0.true, omega arith)

pub returns-then-is_undecided : goal.returns-then-is_undecided
unfolding outputs_here
returns-then-is_undecided c =
    let known = slot_known c.args.s.now c.args.k in
    let count = c.from-n.ensures ∙ c.here_at.ensures.are in
    (reserves_open c.args.me known count c.is_undecided.ensures c.if-is_undecided.true, omega (arith, c.from-n.ensures, c.here_at.ensures.few))

pub returns-else-is_undecided : goal.returns-else-is_undecided
unfolding outputs_here
returns-else-is_undecided c =
    let known = slot_known c.args.s.now c.args.k in
    let count = c.from-n.ensures ∙ c.here_at.ensures.are in
    (reserves_done c.args.me known count c.is_undecided.ensures c.if-is_undecided.false, omega arith)
