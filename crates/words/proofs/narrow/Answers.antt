-- A word above 255 stands for 255, and any other for itself.
use Rattle.std.proofs.Common.{arith}
use Rattle.std.proofs.lemmas.Grind.{common_steps}
use Rattle.words.specs.Words.{byte_of}
use Rattle.words.proofs.narrow.Goals as goal

pub returns : goal.returns
unfolding byte_of
returns c = grind (arith, common_steps)
