use Rattle.std.proofs.Common.{arith}
use Rattle.std.proofs.lemmas.Grind.{common_steps}
use Rattle.std.proofs.lemmas.Option.{gets}
use Rattle.transaction.specs.Tokens.{used_input}
use Rattle.transaction.proofs.parts.used_input.Goals as goal

pub returns : goal.returns
unfolding used_input
returns c = grind (arith, common_steps, gets)
