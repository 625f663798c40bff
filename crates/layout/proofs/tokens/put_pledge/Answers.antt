-- One word of the slot is stored, and the token there has that pledge.
use Rattle.layout.proofs.Stored.{pledge_put}
use Rattle.layout.proofs.tokens.put_pledge.Goals as goal

pub returns : goal.returns
returns c =
    let within = c.requires in
    let long = c.told-s in
    pledge_put c.args.s.now c.args.k c.args.number within long
