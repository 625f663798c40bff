use Rattle.reader.specs.Layout.{inputs_at, outputs_at, transaction_at}
use Rattle.reader.proofs.layout.transaction_at.Goals as goal

-- each part is what the definition reads at its place
pub returns : goal.returns
unfolding transaction_at inputs_at outputs_at
returns c = cc
