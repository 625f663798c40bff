-- As many of those so far are here, and no more than there are.
use Rattle.std.proofs.Common.{◌≡◌, ◌≤◌, eqb, length, take}
use Rattle.model.specs.Lists.{keep}
use Rattle.layout.specs.Layout.{slot_known}
use Rattle.registry.proofs.counting.here_at.Given as goal

abbrev pub invariant-loop-i : goal.invariant-loop-i
invariant-loop-i g l = record {
  are : l.here ≡ length (keep (λ x. eqb (g.P.Side.shard x) l.me) (take l.i (g.P.Side.slots (slot_known l.s l.k).transaction)));
  few : l.here ≤ l.i;
}
