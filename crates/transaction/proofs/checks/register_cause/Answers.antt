use Rattle.std.proofs.Common.{◌≡◌, true, sym, ◌∙◌}
use Rattle.transaction.specs.Checks.{shard_fits, cause_of}
use Rattle.transaction.proofs.checks.register_cause.Goals as goal

-- the receiver passes, so that the transaction's checks decide
pub returns : goal.returns
unfolding cause_of
returns c =
    let receives : shard_fits c.args.receiver ≡ true = sym c.shard_fits.ensures ∙ c.if-not-shard_fits.false in
    rw receives c.cause.ensures
