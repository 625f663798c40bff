-- The two words are those of the token in the slot.
use Rattle.std.proofs.Common.{refl}
use Rattle.layout.proofs.Slots.{token_get}
use Rattle.layout.proofs.tokens.is_token.Goals as goal

pub returns : goal.returns
returns c = rw (c.byte.ensures, token_get c.args.s.now c.args.k c.requires) refl
