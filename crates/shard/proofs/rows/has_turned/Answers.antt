use Rattle.layout.specs.Layout.{view}
use Rattle.shard.proofs.rows.has_turned.Goals as goal

pub returns : goal.returns
unfolding view
returns c = c.is_turned.ensures
