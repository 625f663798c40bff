-- The three parts are those of the slot.
use Rattle.std.proofs.Common.{◌∙◌}
use Rattle.layout.proofs.Slots.{known-parts, heard_array}
use Rattle.layout.proofs.entries.known_at.Goals as goal

pub returns : goal.returns
returns c =
    known-parts c.args.s.now c.args.k c.requires
    c.transaction_at.ensures
    (c.read_all.ensures ∙ heard_array _ _)
    c.findings_at.ensures
