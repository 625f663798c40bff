-- At most four outputs here of each known transaction, or as many as were counted.
use Rattle.shard.proofs.Tables.{not_full, full_is}
use Rattle.shard.proofs.rows.is_too_full.Goals as goal

pub returns-then-n-known_count-le-TOKEN_SLOTS : goal.returns-then-n-known_count-le-TOKEN_SLOTS
returns-then-n-known_count-le-TOKEN_SLOTS c =
    let more = c.count_here-more.ensures.0 in
    let most = c.if-n-known_count-le-TOKEN_SLOTS.true in
    not_full c.requires c.args.t c.own_number-me.ensures c.held-n.ensures more c.known_count.ensures most

pub returns : goal.returns
returns c =
    let more = c.count_here-more.ensures.0 in
    let waiting = c.reserved_here-waiting.ensures.0 in
    full_is c.requires c.args.t c.own_number-me.ensures c.held-n.ensures more waiting
