-- One word is stored, and the shard has that count.
use Rattle.layout.proofs.Stored.{count-put}
use Rattle.layout.proofs.counts.set_known_count.Goals as goal

pub returns : goal.returns
returns c =
    let long = c.told-s in
    count-put c.args.s.now long c.args.n
