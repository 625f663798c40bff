-- One word of the slot is stored, and the verdict is noted there.
use Rattle.layout.proofs.Stored.{heard-put}
use Rattle.layout.proofs.stores.put_heard.Goals as goal

pub returns : goal.returns
returns c =
    let within = c.requires.0 in
    let sender = c.requires.1 in
    let long = c.told-s in
    heard-put c.args.s.now c.args.k c.args.sender c.args.said c.said_number.ensures within sender long
