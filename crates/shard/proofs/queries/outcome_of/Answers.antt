use Rattle.std.proofs.Common.{Option, Some, sym, ap, ◌∙◌}
use Rattle.std.specs.Prelude.{option_map}
use Rattle.model.specs.declared.Known.{Known}
use Rattle.model.specs.Steps.{outcome_of}
use Rattle.model.specs.Shard.{is_numbered}
use Rattle.loops.proofs.Positions.{stands, nowhere}
use Rattle.shard.specs.View.{view}
use Rattle.shard.proofs.Asked.{known-within, found-at, found-nowhere}
use Rattle.shard.proofs.queries.outcome_of.Goals as goal

pub returns-in_err-place : goal.returns-in_err-place
returns-in_err-place c =
    let known = (view c.args.s.now).known in
    c.from_residual.ensures
    ∙ ap (λ (k : Option Known). option_map outcome_of k)
    (found-nowhere known (nowhere (is_numbered c.args.number) known (sym c.in_err-place.ensures.found)))

pub returns : goal.returns
returns c =
    let known = (view c.args.s.now).known in
    let place = c.in_ok-place.place in
    let at = stands (is_numbered c.args.number) known place (sym c.in_ok-place.ensures.found) in
    ap Some c.outcome_at.ensures
    ∙ ap (λ (k : Option Known). option_map outcome_of k)
    (known-within c.requires place c.in_ok-place.ensures.within ∙ found-at known at)
