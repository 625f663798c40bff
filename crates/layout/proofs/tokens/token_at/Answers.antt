-- The words are those of the token in the slot.
use Rattle.std.proofs.Common.{sym, ◌∙◌}
use Rattle.layout.proofs.Slots.{token_get}
use Rattle.layout.proofs.tokens.token_at.Goals as goal

pub returns : goal.returns
returns c = c.read.ensures ∙ sym (token_get c.args.s.now c.args.k c.requires)
