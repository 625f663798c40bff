use Rattle.shard.proofs.Ledgers.{fresh}
use Rattle.shard.proofs.new.Goals as goal

pub returns : goal.returns
returns c = fresh c.clear.ensures
