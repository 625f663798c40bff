use Rattle.model.specs.Shard.{is_numbered}
use Rattle.loops.proofs.Positions.{stands}
use Rattle.shard.specs.View.{view}
use Rattle.shard.proofs.Calls.{fresh_ready, fresh-carried, again-carried}
use Rattle.shard.proofs.steps.carry_vote.Goals as goal

-- The sender was not heard before.
pub fresh_vote-requires : goal.fresh_vote-requires
fresh_vote-requires c =
    let vote = c.args.vote.now in
    let t = vote.transaction in
    let at = stands (is_numbered t.number) (view c.args.s.now).known c.args.place c.requires.there in
    fresh_ready c.requires.sound vote.sender vote.verdict t at c.requires.passed c.heard_at.ensures c.in-None.is

pub returns-in-None : goal.returns-in-None
returns-in-None c =
    let vote = c.args.vote.now in
    let t = vote.transaction in
    let at = stands (is_numbered t.number) (view c.args.s.now).known c.args.place c.requires.there in
    fresh-carried c.requires.sound vote.sender vote.verdict t at c.requires.passed c.heard_at.ensures
    c.in-None.is c.fresh_vote.ensures

-- It was heard before.
pub returns-in-Some : goal.returns-in-Some
returns-in-Some c =
    let vote = c.args.vote.now in
    let t = vote.transaction in
    let at = stands (is_numbered t.number) (view c.args.s.now).known c.args.place c.requires.there in
    again-carried c.requires.sound vote.sender vote.verdict t at c.requires.passed c.heard_at.ensures
    c.in-Some.is c.outcome_at.ensures
