-- The word is that of the token in the slot.
use Rattle.std.proofs.Common.{sym, ap}
use Rattle.model.specs.declared.Token.{Token}
use Rattle.layout.proofs.Slots.{token_get}
use Rattle.layout.proofs.tokens.amount_at.Goals as goal

pub returns : goal.returns
returns c = sym (ap (λ (t : Token). t.amount) (token_get c.args.s.now c.args.k c.requires))
