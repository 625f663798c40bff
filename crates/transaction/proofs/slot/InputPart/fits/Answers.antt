use Rattle.transaction.specs.Checks.{input_fits}
use Rattle.transaction.proofs.slot.InputPart.fits.Goals as goal

pub returns : goal.returns
unfolding input_fits
returns c = cc
