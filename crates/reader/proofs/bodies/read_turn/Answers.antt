use Rattle.std.proofs.Common.{arith, sym, ◌∙◌}
use Rattle.std.proofs.lemmas.Result.{err_from_is_err_and}
use Rattle.reader.proofs.Cases.{long_4, cause_4, record_4, answer_fails, answer_passes}
use Rattle.reader.proofs.bodies.read_turn.Goals as goal

-- Both bytes are there.
pub bounds-bytes-1 : goal.bounds-bytes-1
bounds-bytes-1 c = omega (arith, long_4 c.args.bytes.now c.requires.0 c.requires.1)

-- Its one field is what the definition reads, and so is the answer of its check.
pub returns-in_err-turn_cause : goal.returns-in_err-turn_cause
returns-in_err-turn_cause c =
    let l = c.args.bytes.now in
    let head = c.requires.0 in
    let checked = cause_4 l head c.requires.1 ∙ sym c.turn_cause.ensures in
    let p = err_from_is_err_and c.from_residual.result c.from_residual.ensures.1 in
    rw (p.1, p.2) (answer_fails l head (checked ∙ c.in_err-turn_cause.was))

pub returns : goal.returns
returns c =
    let l = c.args.bytes.now in
    let head = c.requires.0 in
    let checked = cause_4 l head c.requires.1 ∙ sym c.turn_cause.ensures in
    answer_passes l head (checked ∙ c.in_ok-turn_cause.was) (sym (record_4 l head c.requires.1))
