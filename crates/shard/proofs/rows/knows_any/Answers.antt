use Rattle.shard.proofs.Tables.{any-known}
use Rattle.shard.proofs.rows.knows_any.Goals as goal

pub returns : goal.returns
returns c = any-known c.requires c.known_count.ensures
