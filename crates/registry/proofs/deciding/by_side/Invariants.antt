-- What the shards so far decide.
use Rattle.std.proofs.Common.{◌≡◌, map, take}
use Rattle.layout.specs.Layout.{slot_known}
use Rattle.registry.specs.Decision.{decision_of}
use Rattle.registry.proofs.deciding.by_side.Given as goal

abbrev pub invariant-loop-i : goal.invariant-loop-i
invariant-loop-i g l =
    let known = slot_known l.s l.k in
    l.decided ≡ decision_of known.heard (map g.P.Side.shard (take l.i (take l.n (g.P.Side.slots known.transaction))))
