use Rattle.std.proofs.Common.{refl}
use Rattle.transaction.specs.Checks.{value_fits}
use Rattle.transaction.proofs.fields.value_fits.Goals as goal

pub returns : goal.returns
unfolding value_fits
returns c = refl
