use borrow.Author.Tests.{ne_eqb}
use Rattle.transaction.specs.Checks.{index_fits}
use Rattle.transaction.proofs.fields.index_fits.Goals as goal
use Rattle.transaction.proofs.fields.index_fits.Goals.{then-creator-eq0, else-creator-eq0}

pub returns : goal.returns
unfolding index_fits
returns c =
    elim c.if-creator-eq0.branch [
      | then-creator-eq0 w ↦ rw (w.limit-is, w.if-creator-eq0.true)
      | else-creator-eq0 w ↦ rw (w.limit-is, ne_eqb _ _ w.if-creator-eq0.false)
    ]
