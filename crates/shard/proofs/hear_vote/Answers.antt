use Rattle.std.proofs.Common.{refl}
use Rattle.shard.proofs.Calls.{form-refused, form-own, form-back}
use Rattle.shard.proofs.Tables.{passed_on}
use Rattle.shard.proofs.hear_vote.Goals as goal

-- Refused by its form, for the cause that the table's first part says.
pub returns-in_err-deliver_form : goal.returns-in_err-deliver_form
returns-in_err-deliver_form c =
    let me = c.own_number.ensures in
    let told = c.in_err-deliver_form.ensures in
    rw (passed_on c.from_residual.result c.from_residual.ensures.1)
    (form-refused c.requires c.args.receiver c.args.sender c.args.verdict c.args.t me told refl)

-- Its form passes: the receiver is this shard.
pub hear_formed-requires : goal.hear_formed-requires
hear_formed-requires c =
    let me = c.own_number.ensures in
    let told = c.in_ok-deliver_form.ensures in
    record { sound = c.requires; formed = form-own c.requires c.args.receiver c.args.sender c.args.verdict c.args.t me told refl }

pub returns : goal.returns
returns c =
    let me = c.own_number.ensures in
    let told = c.in_ok-deliver_form.ensures in
    form-back c.requires c.args.receiver c.args.sender c.args.verdict c.args.t me told refl c.hear_formed.ensures
