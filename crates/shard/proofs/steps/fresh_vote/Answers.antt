use Rattle.shard.proofs.Ledgers.{fresh-decides, fresh-done}
use Rattle.shard.proofs.steps.fresh_vote.Goals as goal

-- With the vote noted the entry can be decided on.
pub decide_at-requires : goal.decide_at-requires
decide_at-requires c = fresh-decides c.requires (rw c.from.ensures at c.put_heard.ensures)

pub returns : goal.returns
returns c = fresh-done c.requires (rw c.from.ensures at c.put_heard.ensures) c.decide_at.ensures
