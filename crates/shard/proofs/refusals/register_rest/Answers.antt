-- Where the number is not known here 7 and 8 do not fit, and the rows of an entry answer.
use Rattle.std.proofs.Common.{sym}
use Rattle.model.specs.Steps.{house}
use Rattle.model.specs.Shard.{is_numbered, register_rest}
use Rattle.loops.proofs.Positions.{nowhere}
use Rattle.shard.specs.View.{number, view}
use Rattle.shard.proofs.Tables.{Says, says, unknown-passes}
use Rattle.shard.proofs.refusals.register_rest.Goals as goal

pub returns-in-None : goal.returns-in-None
returns-in-None c =
    let ws = c.args.s.now in
    let t = c.args.t in
    let none = nowhere (is_numbered t.number) (view ws).known (sym c.in-None.ensures.found) in
    let said : Says (register_rest house (number ws) (view ws) t) c.entry_refusal.result =
    unknown-passes c.requires t none (says c.entry_refusal.ensures) in
    said.so
