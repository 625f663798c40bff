use Rattle.std.proofs.Common.{not, ap, arith}
use Rattle.shard.proofs.Tables.{passed_on}
use Rattle.cluster.proofs.Shards.{lent, formed, form-refused, not-given, own-form, heard}
use Rattle.cluster.proofs.deliver_vote.Goals as goal

pub returns-in_err-deliver_form : goal.returns-in_err-deliver_form
returns-in_err-deliver_form c =
    rw (passed_on c.from_residual.result c.from_residual.ensures.1) (form-refused c.requires c.in_err-deliver_form.ensures)

-- It has passed 3 to 6, so that its sender and its receiver are shards.
pub bounds-c-from : goal.bounds-c-from
bounds-c-from c =
    let vote = formed c.in_ok-deliver_form.ensures in
    omega (arith, vote.from)

pub has_given_vote-requires : goal.has_given_vote-requires
has_given_vote-requires c =
    let vote = formed c.in_ok-deliver_form.ensures in
    lent c.requires c.from.result (omega (arith, vote.from))

pub returns-then-not-has_given_vote : goal.returns-then-not-has_given_vote
returns-then-not-has_given_vote c =
    let vote = formed c.in_ok-deliver_form.ensures in
    not-given c.requires vote (rw c.from.ensures at c.has_given_vote.ensures) (ap not c.if-not-has_given_vote.true)

pub bounds-c-from-2 : goal.bounds-c-from-2
bounds-c-from-2 c =
    let vote = formed c.in_ok-deliver_form.ensures in
    omega (arith, vote.to)

pub hear_formed-requires : goal.hear_formed-requires
hear_formed-requires c =
    let vote = formed c.in_ok-deliver_form.ensures in
    record {
      sound = lent c.requires c.from-2.result (omega (arith, vote.to));
      formed = rw c.from-2.ensures (own-form c.requires vote);
    }

pub returns : goal.returns
returns c =
    let vote = formed c.in_ok-deliver_form.ensures in
    rw c.from-2.ensures
    (heard c.requires vote (rw c.from.ensures at c.has_given_vote.ensures) (ap not c.if-not-has_given_vote.false)
    (rw c.from-2.ensures at c.hear_formed.ensures))
