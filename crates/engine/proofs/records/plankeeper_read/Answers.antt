-- Behind a head that passes there is a first byte, the kind; where it is not above 2, it is 1 or 2.
use Rattle.std.proofs.Common.{◌≡◌, Ok, Result, is_err, sym, ap, ◌∙◌, arith}
use Rattle.transaction.specs.declared.refusal.Refusal.{Refusal}
use Rattle.reader.specs.Reading.{head_cause}
use Rattle.reader.proofs.Cases.{whole, first_kinds}
use Rattle.engine.proofs.Taken.{fills-taken, fills-refused, no-error}
use Rattle.engine.proofs.records.plankeeper_read.Goals as goal
use Rattle.engine.proofs.records.plankeeper_read.Goals.{Else-is_err, then-is_err-2, else-is_err-2}

-- a whole record stands at the front
head : (c : Else-is_err) → head_cause c.args.bytes.now ≡ Ok tt
head c =
    no-error (head_cause c.args.bytes.now)
    (ap (λ (x : Result Unit Refusal). is_err x) (sym c.head_cause.ensures) ∙ sym c.is_err.ensures.value ∙ c.if-is_err.false)

pub bounds-bytes-0 : goal.bounds-bytes-0
bounds-bytes-0 c =
    let passes = head (goal.at.bounds-bytes-0 c).Else-is_err in
    omega (arith, whole c.args.bytes.now passes)

pub take_record-answer-requires : goal.take_record-answer-requires
take_record-answer-requires c =
    let passes = head (goal.at.take_record-answer-requires c).Else-is_err in
    (passes, first_kinds c.args.bytes.now passes c.if-bytes-gt-VOTE.false)

pub returns : goal.returns
returns c =
    let l = c.args.bytes.now in
    let passes = head (goal.at.returns c).Else-is_err in
    let told = sym c.is_err-2.ensures.value in
    elim c.if-is_err-2.branch [
      | then-is_err-2 w ↦ fills-refused l passes c.take_record-answer.ensures c.number_of.ensures (told ∙ w.if-is_err-2.true) w.fields-is
      | else-is_err-2 w ↦ fills-taken l passes c.take_record-answer.ensures c.number_of.ensures (told ∙ w.if-is_err-2.false) w.fields-is
    ]
