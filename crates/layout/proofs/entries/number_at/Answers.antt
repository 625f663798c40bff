-- The word is the number in the slot.
use Rattle.std.proofs.Common.{sym, ap}
use Rattle.model.specs.declared.Known.{Known}
use Rattle.layout.specs.Reads.{known_get}
use Rattle.layout.proofs.entries.number_at.Goals as goal

pub returns : goal.returns
returns c = sym (ap (λ (k : Known). k.transaction.number) (known_get c.args.s.now c.args.k c.requires))
