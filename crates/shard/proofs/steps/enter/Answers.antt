use Rattle.shard.proofs.Ledgers.{enter_decides, entered}
use Rattle.shard.proofs.steps.enter.Goals as goal

-- The new entry can be decided on.
pub decide_at-requires : goal.decide_at-requires
decide_at-requires c =
    let me = c.own_number-me.ensures in
    let behind = c.known_count-place.ensures in
    enter_decides c.requires me behind c.newly_known-k.ensures c.add_known.ensures

pub returns : goal.returns
returns c =
    let me = c.own_number-me.ensures in
    let behind = c.known_count-place.ensures in
    entered c.requires me behind c.newly_known-k.ensures c.add_known.ensures c.decide_at.ensures
