use Rattle.reader.specs.Layout.{output_at}
use Rattle.reader.proofs.layout.OutputInBytes.from_bytes.Goals as goal

-- each part is what the definition reads at its place
pub returns : goal.returns
unfolding output_at
returns c = cc
