-- The slot's words stand in the part of the lent words that they were copied to.
use Rattle.std.proofs.Common.{◌∙◌, ap, arith, ◌-◌, ◌+◌}
use Rattle.engine.proofs.Taken.{part-sets}
use Rattle.engine.proofs.slots.take_slot.Goals as goal

pub returns-clause-stored : goal.returns-clause-stored
returns-clause-stored g c =
    let words = c.copy_from_slice.ensures.after ∙ c.to_words.ensures ∙ ap g.S.Slot.in_words c.at-slot.ensures in
    let long = g.met.S.Slot.long (g.S.Taken.read_at c.args.bytes.now c.args.at) in
    part-sets c.args.fields.now c.args.to (c.args.to + g.row.N - c.args.to) c.copy_from_slice.new.self
    (g.S.Slot.in_words (g.S.Taken.read_at c.args.bytes.now c.args.at)) words (omega (arith, long)) (omega (arith, c.fits-fields))
