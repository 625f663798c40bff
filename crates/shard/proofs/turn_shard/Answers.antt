use Rattle.shard.proofs.Calls.{turn-refused, turn-carried}
use Rattle.shard.proofs.Tables.{passed_on}
use Rattle.shard.proofs.turn_shard.Goals as goal

-- Refused for the cause that the table says.
pub returns-in_err-turn_refusal : goal.returns-in_err-turn_refusal
returns-in_err-turn_refusal c =
    rw (passed_on c.from_residual.result c.from_residual.ensures.1) (turn-refused c.requires c.in_err-turn_refusal.ensures)

pub returns : goal.returns
returns c = turn-carried c.requires c.args.receiver c.in_ok-turn_refusal.ensures c.after_turn.ensures
