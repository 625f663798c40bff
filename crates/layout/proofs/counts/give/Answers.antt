-- One word is stored, and that flag is set.
use Rattle.layout.proofs.Stored.{flag-put}
use Rattle.layout.proofs.counts.give.Goals as goal

pub returns : goal.returns
returns c =
    let within = c.requires in
    let long = c.told-s in
    flag-put c.args.s.now long c.args.index within
