-- The slots so far fit, and their words stand one behind the other.
use Rattle.std.proofs.Common.{◌≡◌}
use Rattle.std.proofs.lemmas.List.Edits.{sets}
use Rattle.engine.proofs.Taken.{Pass, run}
use Rattle.engine.proofs.slots.take_slots.Given as goal

abbrev pub invariant-loop-k : goal.invariant-loop-k
invariant-loop-k g l = record {
  fit : Pass (g.S.Taken.read_at l.bytes) g.S.Taken.SIZE l.at g.S.Taken.used_fits g.S.Taken.unused_fits l.count l.k;
  stored : l.fields ≡ sets l.initial.fields l.to (run g.S.Slot.in_words g.S.Taken.SIZE (g.S.Taken.read_at l.bytes) l.at l.k);
}
