-- Some used input of the four is here and awaits, or none does.
use Rattle.std.proofs.Common.{length, eq-eqb, refl, sym, ◌∙◌, arith}
use Rattle.std.proofs.lemmas.List.{take_all}
use Rattle.transaction.specs.Tokens.{zero_input}
use Rattle.loops.proofs.Loops.{seek_hit, seek_end}
use Rattle.layout.specs.Layout.{ledger_of}
use Rattle.registry.proofs.Awaits.{held_off-by}
use Rattle.registry.proofs.awaiting.is_held_off.Goals as goal

pub returns-then-awaits_any : goal.returns-then-awaits_any
returns-then-awaits_any c =
    let items = c.used_inputs-x-items.result.now in
    let used = take_all (length items) items (omega arith) ∙ c.used_inputs-x-items.ensures in
    held_off-by c.args.me (ledger_of c.args.s.now).known c.args.t used
    (seek_hit zero_input c.loop-x.invariant c.loop-x-test.true (omega arith)
    (rw (eq-eqb _ _ c.if-x-me.true, sym c.awaits_any.ensures ∙ c.if-awaits_any.true) refl))

pub returns : goal.returns
returns c =
    let items = c.used_inputs-x-items.result.now in
    let used = take_all (length items) items (omega arith) ∙ c.used_inputs-x-items.ensures in
    held_off-by c.args.me (ledger_of c.args.s.now).known c.args.t used (seek_end c.loop-x.invariant c.loop-x-test.false)
