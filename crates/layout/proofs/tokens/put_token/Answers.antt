-- The five words of the slot are stored, and the token stands there.
use Rattle.layout.proofs.Stored.{token-put}
use Rattle.layout.proofs.tokens.put_token.Goals as goal

pub returns : goal.returns
returns c =
    let within = c.requires in
    let long = c.told-s in
    token-put c.args.s.now c.put.new.s c.args.k c.args.t within long c.put.ensures
