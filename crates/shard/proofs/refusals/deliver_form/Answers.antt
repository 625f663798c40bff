-- The row of the receiver, then the checks of the fields, then the rows of who takes part.
use Rattle.std.proofs.Common.{ℕ, ◌≡◌, ◌∙◌, Ok, Err, ap, not, [], ◌∷◌, ◌++◌}
use Rattle.transaction.specs.declared.Transaction.{Transaction}
use Rattle.transaction.specs.declared.refusal.Refusal.{Refusal}
use Rattle.transaction.specs.declared.refusal.Refusal.TheVariants.{OutOfRange, NotTakingPart}
use Rattle.transaction.specs.Lists.{first_of}
use Rattle.transaction.specs.Tokens.{takes_part}
use Rattle.transaction.specs.Checks.{vote_checks}
use Rattle.model.specs.Steps.{house}
use Rattle.model.specs.Shard.{deliver_form}
use Rattle.shard.proofs.Tables.{
  Table,
  Verdict,
  Says,
  none,
  here-not,
  past-not,
  stands-first,
  behind-first,
  other-shard,
  own-shard,
  passed_on,
}
use Rattle.shard.proofs.refusals.deliver_form.Goals as goal

abbrev parts : ℕ → ℕ → Transaction → Table
parts receiver sender t = (not (takes_part receiver t), NotTakingPart) ∷ (not (takes_part sender t), NotTakingPart) ∷ []

module _ (me receiver sender verdict : ℕ) (t : Transaction) where
  abbrev checks : Table
  checks = vote_checks 128 receiver sender verdict t

  -- It is addressed to another shard.
  other : (receiver ≡ me → ⊥) → Err OutOfRange ≡ first_of (deliver_form house me receiver sender verdict t)
  unfolding deliver_form
  other n = (other-shard receiver me (checks ++ parts receiver sender t) n).so

  module _ (own : receiver ≡ me) where
    -- A check of the fields fails.
    stands : {refusal : Refusal} → Err refusal ≡ first_of checks → Err refusal ≡ first_of (deliver_form house me receiver sender verdict t)
    unfolding deliver_form
    stands checked =
        let rest = parts receiver sender t in
        (own-shard receiver me (checks ++ rest) own (stands-first checks rest checked).so).so

    -- They pass, and the rows of who takes part answer.
    passed : {found : Verdict} → Ok tt ≡ first_of checks → Says (parts receiver sender t) found
        → found ≡ first_of (deliver_form house me receiver sender verdict t)
    unfolding deliver_form
    passed checked said =
        let rest = parts receiver sender t in
        (own-shard receiver me (checks ++ rest) own (behind-first checks rest checked said.so).so).so

pub returns-then-receiver-me : goal.returns-then-receiver-me
returns-then-receiver-me c =
    other c.args.me c.args.receiver
    c.args.vote.now.sender c.args.vote.now.verdict c.args.vote.now.transaction c.if-receiver-me.true

pub returns-in_err-vote_cause : goal.returns-in_err-vote_cause
returns-in_err-vote_cause c =
    passed_on c.from_residual.result c.from_residual.ensures.1
    ∙ stands c.args.me c.args.receiver
    c.args.vote.now.sender c.args.vote.now.verdict c.args.vote.now.transaction c.if-receiver-me.false c.in_err-vote_cause.ensures

pub returns-then-not-takes_part : goal.returns-then-not-takes_part
returns-then-not-takes_part c =
    passed c.args.me c.args.receiver
    c.args.vote.now.sender c.args.vote.now.verdict c.args.vote.now.transaction c.if-receiver-me.false c.in_ok-vote_cause.ensures
    (here-not c.takes_part.ensures (ap not c.if-not-takes_part.true))

pub returns-then-not-takes_part-2 : goal.returns-then-not-takes_part-2
returns-then-not-takes_part-2 c =
    passed c.args.me c.args.receiver
    c.args.vote.now.sender c.args.vote.now.verdict c.args.vote.now.transaction c.if-receiver-me.false c.in_ok-vote_cause.ensures
    (past-not c.takes_part.ensures (ap not c.if-not-takes_part.false)
    (here-not c.takes_part-2.ensures (ap not c.if-not-takes_part-2.true)))

pub returns : goal.returns
returns c =
    passed c.args.me c.args.receiver
    c.args.vote.now.sender c.args.vote.now.verdict c.args.vote.now.transaction c.if-receiver-me.false c.in_ok-vote_cause.ensures
    (past-not c.takes_part.ensures (ap not c.if-not-takes_part.false)
    (past-not c.takes_part-2.ensures (ap not c.if-not-takes_part-2.false) none))
