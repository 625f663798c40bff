-- The transaction is known, so that it stands at the place of its number.
use Rattle.model.specs.Shard.{is_numbered}
use Rattle.loops.proofs.Positions.{stands}
use Rattle.shard.specs.View.{view}
use Rattle.shard.proofs.Tables.{other-there}
use Rattle.shard.proofs.rows.has_other_verdict.Goals as goal

pub returns : goal.returns
returns c =
    let vote = c.args.vote.now in
    let t = vote.transaction in
    let at = stands (is_numbered t.number) (view c.args.s.now).known c.args.place c.requires.there in
    other-there c.requires.sound t at c.requires.known vote.sender c.heard_at-heard.ensures vote.verdict c.is_other_verdict.ensures
