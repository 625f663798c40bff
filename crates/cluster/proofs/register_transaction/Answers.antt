use Rattle.shard.proofs.Tables.{passed_on}
use Rattle.cluster.proofs.Shards.{no-shard, registered}
use Rattle.cluster.proofs.register_transaction.Goals as goal

pub returns-in_err-at : goal.returns-in_err-at
returns-in_err-at c =
    let above = c.in_err-at.ensures.above in
    rw (passed_on c.from_residual.result c.from_residual.ensures.1, above.0) (no-shard c.requires above.1)

pub returns : goal.returns
returns c =
    let within = c.in_ok-at.ensures.within in
    rw within.0 (registered c.requires (rw within.0 at within.1) (rw within.0 at c.register_transaction.ensures))
