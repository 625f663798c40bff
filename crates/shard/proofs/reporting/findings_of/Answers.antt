use Rattle.std.proofs.Common.{Err, sym, ap, ◌∙◌}
use Rattle.model.specs.Shard.{is_numbered}
use Rattle.loops.proofs.Positions.{stands, nowhere}
use Rattle.shard.specs.View.{view}
use Rattle.shard.proofs.Reports.{refusal-of, report-formed, report-unknown, report-there}
use Rattle.shard.proofs.Tables.{passed_on}
use Rattle.shard.proofs.reporting.findings_of.Goals as goal

-- Refused by its form.
pub returns-in_err-report_form : goal.returns-in_err-report_form
returns-in_err-report_form c =
    let formed = rw c.own_number.ensures at c.in_err-report_form.ensures in
    passed_on c.from_residual.result c.from_residual.ensures.1 ∙ report-formed c.requires c.args.shard c.args.number formed

-- The number is not known here.
pub returns-in_err-place : goal.returns-in_err-place
returns-in_err-place c =
    let formed = rw c.own_number.ensures at c.in_ok-report_form.ensures in
    let none = c.in_err-place.ensures.ok_part in
    let nowhere = nowhere (is_numbered c.args.number) (view c.args.s.now).known (sym c.place_of_number.ensures.found ∙ none) in
    passed_on c.from_residual-in_err-place.result c.from_residual-in_err-place.ensures.1
    ∙ ap Err (refusal-of c.place_of_number.result c.in_err-place.ensures.value)
    ∙ report-unknown c.requires c.args.shard c.args.number formed nowhere

pub returns : goal.returns
returns c =
    let formed = rw c.own_number.ensures at c.in_ok-report_form.ensures in
    let found = sym c.place_of_number.ensures.found ∙ c.in_ok-place.ensures.ok_part in
    let at = stands (is_numbered c.args.number) (view c.args.s.now).known c.in_ok-place.place found in
    report-there c.requires c.args.shard c.args.number formed at c.told_at.ensures
