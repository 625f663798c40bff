use Rattle.shard.proofs.Tables.{all_known}
use Rattle.shard.proofs.rows.is_full.Goals as goal

pub returns : goal.returns
returns c = all_known c.requires c.known_count.ensures
