-- A verdict is heard from each of eight senders, and none from a number above 7.
use Rattle.std.proofs.Common.{◌<◌, ◌≤◌, ap, sym, ◌∙◌, rules}
use Rattle.layout.specs.Layout.{said_from}
use Rattle.layout.proofs.Slots.{heard-at, heard-above}
use Rattle.layout.proofs.entries.heard_at.Goals as goal

pub returns-then-at-lt8 : goal.returns-then-at-lt8
returns-then-at-lt8 c =
    let sender : c.args.sender < 8 = search rules in
    c.said_from.ensures ∙ ap said_from (rw c.from-at.ensures at c.byte.ensures) ∙ sym (heard-at c.args.s.now c.args.k c.args.sender c.requires sender)

pub returns : goal.returns
returns c =
    let above : 8 ≤ c.args.sender = search rules in
    sym (heard-above c.args.s.now c.args.k c.args.sender c.requires above)
