-- Only the known transaction of the number that the input names can pass: it is found and asked, or there is none.
use Rattle.std.proofs.Common.{sym}
use Rattle.model.specs.Shard.{is_numbered}
use Rattle.loops.proofs.Positions.{stands, nowhere}
use Rattle.layout.specs.Layout.{ledger_of}
use Rattle.registry.proofs.Awaits.{awaits-none, awaits-other, awaits_if}
use Rattle.registry.proofs.awaiting.awaits_any.Goals as goal

pub returns-in_default : goal.returns-in_default
returns-in_default c =
    let x = c.args.x in
    let none = nowhere (is_numbered x.token.creator) (ledger_of c.args.s.now).known (sym c.in_default.ensures.found) in
    awaits-none c.args.s.now c.requires.0 c.requires.1 c.args.me x none

pub returns-then-makes_here : goal.returns-then-makes_here
returns-then-makes_here c =
    let x = c.args.x in
    let at = stands (is_numbered x.token.creator) (ledger_of c.args.s.now).known c.in-Some.place (sym c.in-Some.ensures.found) in
    awaits_if c.args.s.now c.requires.0 c.requires.1 c.args.me x at
    c.makes_here.ensures c.if-makes_here.true c.is_undecided.ensures

pub returns-else-makes_here : goal.returns-else-makes_here
returns-else-makes_here c =
    let x = c.args.x in
    let at = stands (is_numbered x.token.creator) (ledger_of c.args.s.now).known c.in-Some.place (sym c.in-Some.ensures.found) in
    awaits-other c.args.s.now c.requires.0 c.requires.1 c.args.me x at c.makes_here.ensures c.if-makes_here.false
