-- A slot of the flags is read at its place.
use Rattle.std.proofs.Common.{sym}
use Rattle.layout.proofs.Slots.{given_get}
use Rattle.layout.proofs.counts.is_given.Goals as goal

pub returns : goal.returns
returns c = sym (given_get c.args.s.now c.args.index c.requires)
