use Rattle.reader.specs.Layout.{input_at}
use Rattle.reader.proofs.layout.InputInBytes.from_bytes.Goals as goal

-- each part is what the definition reads at its place
pub returns : goal.returns
unfolding input_at
returns c = cc
