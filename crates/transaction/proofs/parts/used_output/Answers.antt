use Rattle.std.proofs.Common.{arith}
use Rattle.std.proofs.lemmas.Grind.{common_steps}
use Rattle.std.proofs.lemmas.Option.{gets}
use Rattle.transaction.specs.Tokens.{used_output}
use Rattle.transaction.proofs.parts.used_output.Goals as goal

pub returns : goal.returns
unfolding used_output
returns c = grind (arith, common_steps, gets)
