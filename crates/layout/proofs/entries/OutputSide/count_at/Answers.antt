-- The word is that count in the slot.
use Rattle.std.proofs.Common.{sym, ap, ◌∙◌}
use Rattle.model.specs.declared.Known.{Known}
use Rattle.layout.specs.Reads.{known_get}
use Rattle.layout.proofs.entries.OutputSide.count_at.Goals as goal

pub returns : goal.returns
returns c = c.byte.ensures ∙ sym (ap (λ (k : Known). k.transaction.output_count) (known_get c.args.s.now c.args.k c.requires))
