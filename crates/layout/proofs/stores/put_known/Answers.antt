-- The five parts are stored, one behind the other, and each stays where it is.
use Rattle.layout.proofs.Stored.{known-put}
use Rattle.layout.proofs.stores.put_known.Goals as goal

pub returns : goal.returns
returns c =
    let within = c.requires in
    let long = c.told-s in
    known-put c.args.k c.args.s.now _ _ _ _ _ c.args.x within long
    c.put_head.ensures
    c.put_all.ensures
    c.put_all-2.ensures
    c.put_all-3.ensures
    c.put_all-4.ensures
