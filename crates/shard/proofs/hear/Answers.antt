use Rattle.model.specs.Shard.{is_numbered}
use Rattle.loops.proofs.Positions.{stands}
use Rattle.shard.specs.View.{view}
use Rattle.shard.proofs.Calls.{hear-refused, hear_unrefused}
use Rattle.shard.proofs.Tables.{passed_on}
use Rattle.shard.proofs.hear.Goals as goal

-- Refused for the cause that the rest of the table says.
pub returns-in_err-hear_rest : goal.returns-in_err-hear_rest
returns-in_err-hear_rest c =
    let vote = c.args.vote.now in
    let t = vote.transaction in
    let at = stands (is_numbered t.number) (view c.args.s.now).known c.args.place c.requires.there in
    rw (passed_on c.from_residual.result c.from_residual.ensures.1)
    (hear-refused c.requires.sound vote.sender vote.verdict t c.requires.formed at c.in_err-hear_rest.ensures)

-- Passed: no row of the whole table holds.
pub carry_vote-requires : goal.carry_vote-requires
carry_vote-requires c =
    let vote = c.args.vote.now in
    let t = vote.transaction in
    let at = stands (is_numbered t.number) (view c.args.s.now).known c.args.place c.requires.there in
    record {
      sound = c.requires.sound;
      there = c.requires.there;
      passed = hear_unrefused c.requires.sound vote.sender vote.verdict t c.requires.formed at c.in_ok-hear_rest.ensures;
    }
