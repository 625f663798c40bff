-- One word is stored, and the shard has that count.
use Rattle.layout.proofs.Stored.{held-put}
use Rattle.layout.proofs.counts.set_held.Goals as goal

pub returns : goal.returns
returns c =
    let long = c.told-s in
    held-put c.args.s.now long c.args.n
