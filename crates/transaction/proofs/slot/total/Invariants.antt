use Rattle.std.proofs.Common.{◌≡◌, ◌+◌, ◌*◌, ◌≤◌, drop}
use Rattle.transaction.specs.Lists.{total}
use Rattle.transaction.proofs.slot.total.Given as goal

abbrev pub invariant-loop-x : goal.invariant-loop-x
invariant-loop-x g l = record {
  added : l.sum + total g.S.Part.amount (drop l.x-index l.x-items) ≡ total g.S.Part.amount l.fn.slots;
  small : l.sum ≤ 4294967295 * l.x-index;
}
