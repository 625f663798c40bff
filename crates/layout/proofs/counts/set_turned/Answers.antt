-- One word is stored, and the shard has turned.
use Rattle.layout.proofs.Stored.{turned-put}
use Rattle.layout.proofs.counts.set_turned.Goals as goal

pub returns : goal.returns
returns c = turned-put c.args.s.now c.told-s
