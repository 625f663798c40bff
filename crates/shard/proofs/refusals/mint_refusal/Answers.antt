-- The form's refusal stands, or the rest answers behind it.
use Rattle.std.proofs.Common.{◌∙◌}
use Rattle.model.specs.Steps.{house}
use Rattle.model.specs.Shard.{mint_form, mint_rest, mint_refusals}
use Rattle.shard.specs.View.{number, view}
use Rattle.shard.proofs.Tables.{stands-first, behind-first, passed_on}
use Rattle.shard.proofs.refusals.mint_refusal.Goals as goal

pub returns-in_err-mint_form : goal.returns-in_err-mint_form
unfolding mint_refusals
returns-in_err-mint_form c =
    let ws = c.args.s.now in
    let form = mint_form house (number ws) c.args.receiver c.args.index c.args.owner c.args.amount in
    let formed = rw c.own_number.ensures at c.in_err-mint_form.ensures in
    passed_on c.from_residual.result c.from_residual.ensures.1
    ∙ (stands-first form (mint_rest (view ws) c.args.index) formed).so

pub returns : goal.returns
unfolding mint_refusals
returns c =
    let ws = c.args.s.now in
    let form = mint_form house (number ws) c.args.receiver c.args.index c.args.owner c.args.amount in
    let formed = rw c.own_number.ensures at c.in_ok-mint_form.ensures in
    (behind-first form (mint_rest (view ws) c.args.index) formed c.mint_rest.ensures).so
