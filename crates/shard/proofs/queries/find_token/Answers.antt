use Rattle.std.proofs.Common.{Some, sym, ap, ◌∙◌}
use Rattle.loops.proofs.Positions.{stands, nowhere}
use Rattle.shard.specs.View.{view}
use Rattle.shard.specs.Queries.{has_id}
use Rattle.shard.proofs.Asked.{token-within, found-at, found-nowhere}
use Rattle.shard.proofs.queries.find_token.Goals as goal

pub returns-in_err-place : goal.returns-in_err-place
returns-in_err-place c =
    let tokens = (view c.args.s.now).tokens in
    c.from_residual.ensures
    ∙ found-nowhere tokens (nowhere (has_id c.args.creator c.args.index) tokens (sym c.in_err-place.ensures.found))

pub returns : goal.returns
returns c =
    let tokens = (view c.args.s.now).tokens in
    let place = c.in_ok-place.place in
    let at = stands (has_id c.args.creator c.args.index) tokens place (sym c.in_ok-place.ensures.found) in
    ap Some c.token_at.ensures ∙ token-within c.requires place c.in_ok-place.ensures.within ∙ found-at tokens at
