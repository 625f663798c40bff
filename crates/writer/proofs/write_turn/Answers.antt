use Rattle.std.proofs.Common.{length, sym, ◌∙◌}
use Rattle.std.proofs.lemmas.Result.{err_from_is_err_and}
use Rattle.transaction.specs.Checks.{turn_checks}
use Rattle.transaction.proofs.Tables.{table_stands, table_behind}
use Rattle.writer.specs.Writing.{room_checks, turn_cause}
use Rattle.writer.proofs.Stores.{length-turn}
use Rattle.writer.proofs.Writes.{refuses, writes}
use Rattle.writer.proofs.write_turn.Goals as goal

-- a field is refused
pub returns-in_err-turn_cause : goal.returns-in_err-turn_cause
unfolding turn_cause
returns-in_err-turn_cause c =
    let a = c.args in
    let fields = turn_checks a.receiver in
    let room = room_checks 2 (length a.out.now) in
    let was = c.in_err-turn_cause.was in
    let p = err_from_is_err_and c.from_residual.result c.from_residual.ensures.1 in
    rw (p.1, p.2) (refuses _ _ (sym was ∙ table_stands fields room c.turn_cause.ensures was))

-- the fields pass, and there is too little room
pub returns-in_err-room : goal.returns-in_err-room
unfolding turn_cause
returns-in_err-room c =
    let a = c.args in
    let fields = turn_checks a.receiver in
    let room = room_checks 2 (length a.out.now) in
    let behind = table_behind fields room c.turn_cause.ensures c.in_ok-turn_cause.was c.room.ensures in
    let p = err_from_is_err_and c.from_residual-in_err-room.result c.from_residual-in_err-room.ensures.1 in
    rw (p.1, p.2) (refuses _ _ (sym c.in_err-room.was ∙ behind))

-- all checks pass
pub returns : goal.returns
unfolding turn_cause
returns c =
    let a = c.args in
    let fields = turn_checks a.receiver in
    let room = room_checks 2 (length a.out.now) in
    let behind = table_behind fields room c.turn_cause.ensures c.in_ok-turn_cause.was c.room.ensures in
    writes _ _ (sym c.in_ok-room.was ∙ behind) (length-turn a.receiver) c.put_turn.ensures
