-- The form's refusal stands, or the rest answers behind it.
use Rattle.std.proofs.Common.{◌∙◌}
use Rattle.model.specs.Steps.{house}
use Rattle.model.specs.Shard.{register_form, register_rest, register_refusals}
use Rattle.shard.specs.View.{number, view}
use Rattle.shard.proofs.Tables.{stands-first, behind-first, passed_on}
use Rattle.shard.proofs.refusals.register_refusal.Goals as goal

pub returns-in_err-register_form : goal.returns-in_err-register_form
unfolding register_refusals
returns-in_err-register_form c =
    let ws = c.args.s.now in
    let form = register_form house (number ws) c.args.receiver c.args.t in
    let rest = register_rest house (number ws) (view ws) c.args.t in
    let formed = rw c.own_number.ensures at c.in_err-register_form.ensures in
    passed_on c.from_residual.result c.from_residual.ensures.1 ∙ (stands-first form rest formed).so

pub returns : goal.returns
unfolding register_refusals
returns c =
    let ws = c.args.s.now in
    let form = register_form house (number ws) c.args.receiver c.args.t in
    let rest = register_rest house (number ws) (view ws) c.args.t in
    let formed = rw c.own_number.ensures at c.in_ok-register_form.ensures in
    (behind-first form rest formed c.register_rest.ensures).so
