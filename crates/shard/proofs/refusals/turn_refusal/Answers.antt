-- The form's refusal stands, or the rest answers behind it.
use Rattle.std.proofs.Common.{◌∙◌}
use Rattle.model.specs.Shard.{turn_form, turn_rest, turn_refusals}
use Rattle.shard.specs.View.{number, view}
use Rattle.shard.proofs.Tables.{stands-first, behind-first, passed_on}
use Rattle.shard.proofs.refusals.turn_refusal.Goals as goal

pub returns-in_err-turn_form : goal.returns-in_err-turn_form
unfolding turn_refusals
returns-in_err-turn_form c =
    let ws = c.args.s.now in
    let formed = rw c.own_number.ensures at c.in_err-turn_form.ensures in
    passed_on c.from_residual.result c.from_residual.ensures.1
    ∙ (stands-first (turn_form (number ws) c.args.receiver) (turn_rest (view ws)) formed).so

pub returns : goal.returns
unfolding turn_refusals
returns c =
    let ws = c.args.s.now in
    let formed = rw c.own_number.ensures at c.in_ok-turn_form.ensures in
    (behind-first (turn_form (number ws) c.args.receiver) (turn_rest (view ws)) formed c.turn_rest.ensures).so
