-- What the comparison tells of 7, that another transaction has the number, and of 8, that this one is known.
use Rattle.std.proofs.Common.{Err, ap, not}
use Rattle.transaction.specs.declared.refusal.Refusal.TheVariants.{NumberTaken, KnownAlready}
use Rattle.model.specs.Steps.{house}
use Rattle.model.specs.Shard.{is_numbered, register_rest}
use Rattle.loops.proofs.Positions.{stands}
use Rattle.shard.specs.View.{number, view}
use Rattle.shard.proofs.Tables.{Says, here, past, other-is, for_is}
use Rattle.shard.proofs.refusals.number_cause.Goals as goal

pub returns-then-same_at : goal.returns-then-same_at
returns-then-same_at c =
    let ws = c.args.s.now in
    let sound = c.requires.sound in
    let at = stands (is_numbered c.args.t.number) (view ws).known c.args.place c.requires.there in
    let other = other-is sound c.args.t at c.same_at.ensures in
    let own = for_is sound c.args.t at c.same_at.ensures in
    let said : Says (register_rest house (number ws) (view ws) c.args.t) (Err KnownAlready) =
    past other (ap not c.if-same_at.true) (here own c.if-same_at.true) in
    said.so

pub returns-else-same_at : goal.returns-else-same_at
returns-else-same_at c =
    let ws = c.args.s.now in
    let at = stands (is_numbered c.args.t.number) (view ws).known c.args.place c.requires.there in
    let other = other-is c.requires.sound c.args.t at c.same_at.ensures in
    let said : Says (register_rest house (number ws) (view ws) c.args.t) (Err NumberTaken) = here other (ap not c.if-same_at.false) in
    said.so
