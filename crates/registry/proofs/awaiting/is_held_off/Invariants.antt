-- None of the inputs so far is here and awaits.
use Rattle.std.proofs.Common.{◌&&◌, length}
use Rattle.transaction.specs.Lists.{any}
use Rattle.model.specs.Steps.{input_here}
use Rattle.model.specs.Shard.{awaits}
use Rattle.loops.proofs.Loops.{Seeking}
use Rattle.layout.specs.Layout.{ledger_of}
use Rattle.registry.proofs.awaiting.is_held_off.Given as goal

abbrev pub invariant-loop-x : goal.invariant-loop-x
invariant-loop-x l =
    Seeking (λ x. input_here l.me x && any (awaits l.me x) (ledger_of l.s).known) l.x-items (length l.x-items) l.x-index
