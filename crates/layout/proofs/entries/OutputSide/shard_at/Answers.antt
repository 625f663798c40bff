-- The word is the shard of that one in the slot.
use Rattle.std.proofs.Common.{sym, ◌∙◌}
use Rattle.layout.proofs.Slots.{output-shard}
use Rattle.layout.proofs.entries.OutputSide.shard_at.Goals as goal

pub returns : goal.returns
returns c = c.byte.ensures ∙ sym (output-shard c.args.s.now c.args.k c.args.i c.requires.0 c.requires.1)
