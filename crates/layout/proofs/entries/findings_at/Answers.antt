-- The findings are those of the slot.
use Rattle.std.proofs.Common.{◌+◌, sym, ap, ◌∙◌}
use Rattle.model.specs.declared.Known.{Known}
use Rattle.layout.specs.Reads.{known_get}
use Rattle.layout.specs.Layout.{entry_place, findings_offset}
use Rattle.layout.proofs.Slots.{findings_array}
use Rattle.layout.proofs.entries.findings_at.Goals as goal

pub returns : goal.returns
returns c =
    c.read_all.ensures ∙ findings_array c.args.s.now (entry_place c.args.k + findings_offset)
    ∙ sym (ap (λ (k : Known). k.findings) (known_get c.args.s.now c.args.k c.requires))
