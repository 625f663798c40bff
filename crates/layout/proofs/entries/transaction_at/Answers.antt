-- Its parts are those of the transaction in the slot.
use Rattle.std.proofs.Common.{◌+◌, sym, ap}
use Rattle.model.specs.declared.Known.{Known}
use Rattle.layout.specs.Reads.{known_get}
use Rattle.layout.specs.Layout.{entry_place, inputs_offset, outputs_offset}
use Rattle.layout.proofs.Slots.{inputs_array, outputs_array}
use Rattle.layout.proofs.entries.transaction_at.Goals as goal

pub returns : goal.returns
returns c =
    let slot = known_get c.args.s.now c.args.k c.requires in
    rw (
      c.byte.ensures,
      c.byte-2.ensures,
      c.read_all.ensures,
      c.read_all-2.ensures,
      inputs_array c.args.s.now (entry_place c.args.k + inputs_offset),
      outputs_array c.args.s.now (entry_place c.args.k + outputs_offset),
    )
    (sym (ap (λ (k : Known). k.transaction) slot))
