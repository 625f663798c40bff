use Rattle.transaction.specs.Checks.{output_fits}
use Rattle.transaction.proofs.slot.OutputPart.fits.Goals as goal

pub returns : goal.returns
unfolding output_fits
returns c = cc
