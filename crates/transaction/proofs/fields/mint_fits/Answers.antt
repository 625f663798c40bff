use Rattle.transaction.specs.Checks.{mint_fits}
use Rattle.transaction.proofs.fields.mint_fits.Goals as goal

pub returns : goal.returns
unfolding mint_fits
returns c = cc
