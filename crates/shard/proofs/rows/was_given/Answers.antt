-- The given indices are the first ones, and behind them none was given.
use Rattle.std.proofs.Common.{false, sym, arith}
use borrow.Author.Tests.{le-ltb}
use Rattle.std.proofs.Math.ListN.{get_or-eq_default}
use Rattle.layout.specs.Layout.{view, given_of}
use Rattle.layout.proofs.Slots.{length-given}
use Rattle.shard.proofs.rows.was_given.Goals as goal

pub returns-then-at-lt-GENESIS_SLOTS : goal.returns-then-at-lt-GENESIS_SLOTS
unfolding view
returns-then-at-lt-GENESIS_SLOTS c = rw c.from-at.ensures at c.is_given.ensures

pub returns-else-at-lt-GENESIS_SLOTS : goal.returns-else-at-lt-GENESIS_SLOTS
unfolding view
returns-else-at-lt-GENESIS_SLOTS c =
    let ws = c.args.s.now in
    rw (le-ltb c.from-at.result 128 c.if-at-lt-GENESIS_SLOTS.false)
    (sym (get_or-eq_default (given_of ws) false {n = c.args.index} (omega (arith, length-given ws))))
