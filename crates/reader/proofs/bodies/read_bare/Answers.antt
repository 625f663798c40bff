use Rattle.std.proofs.Common.{◌≡◌}
use Rattle.transaction.specs.Refusals.{answer_of}
use Rattle.reader.specs.Reading.{read_cause, record_at}
use Rattle.reader.proofs.Cases.{last-kind, bare-transaction, reading_bare}
use Rattle.reader.proofs.bodies.read_bare.Goals as goal
use Rattle.reader.proofs.bodies.read_bare.Goals.{then-bytes-eq3, else-bytes-eq3}

-- a kind above 2 that is not 3
pub read_turn-answer-requires : goal.read_turn-answer-requires
read_turn-answer-requires c =
    let head = c.requires.0 in
    (head, last-kind c.args.bytes.now head c.requires.1 c.if-bytes-eq3.false)

-- either kind gives the answer of its checks
pub returns : goal.returns
returns c =
    let l = c.args.bytes.now in
    let answered : c.if-bytes-eq3.answer ≡ answer_of (read_cause l) (record_at l) =
    elim c.if-bytes-eq3.branch [ then-bytes-eq3 w ↦ cc | else-bytes-eq3 w ↦ cc ] in
    let blank = bare-transaction l c.requires.0 c.requires.1 in
    rw (answered, c.blank.ensures) (reading_bare l c.requires.0 blank c.requires.2)
