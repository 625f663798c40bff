use Rattle.std.proofs.Common.{◌≡◌, ◌-◌, drop}
use Rattle.transaction.specs.Lists.{slots_fit}
use Rattle.transaction.proofs.slot.slots_fit.Given as goal

-- the slots from here on decide
abbrev pub invariant-loop-k : goal.invariant-loop-k
invariant-loop-k g l = record {
  same : l.x-items ≡ l.fn.slots;
  left : slots_fit (g.S.Part.fits l.genesis) g.S.Part.is_zero (l.count - l.k) (drop l.k l.x-items)
      ≡ slots_fit (g.S.Part.fits l.genesis) g.S.Part.is_zero l.count l.fn.slots;
}
