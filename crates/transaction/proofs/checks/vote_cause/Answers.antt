use Rattle.std.proofs.Common.{arith, ◌≡◌, true, leb, sym, ◌∙◌}
use borrow.Author.Tests.{le-leb}
use Rattle.transaction.specs.Checks.{shard_fits, cause_of}
use Rattle.transaction.proofs.checks.vote_cause.Goals as goal

-- the receiver, the sender and the verdict pass, so that the transaction's checks decide
pub returns : goal.returns
unfolding cause_of
returns c =
    let receives : shard_fits c.args.receiver ≡ true = sym c.shard_fits.ensures ∙ c.if-not-shard_fits.false in
    let sends : shard_fits c.args.sender ≡ true = sym c.shard_fits-2.ensures ∙ c.if-not-shard_fits-2.false in
    let speaks : leb c.args.verdict 1 ≡ true = le-leb c.args.verdict 1 (omega arith) in
    rw (receives, sends, speaks) c.cause.ensures
