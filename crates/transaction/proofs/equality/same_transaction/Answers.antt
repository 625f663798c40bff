use Rattle.std.proofs.Common.{◌∙◌}
use Rattle.std.proofs.Math.Bool.{and_assoc}
use Rattle.transaction.specs.Tokens.{same_token, same_input, same_output}
use Rattle.transaction.proofs.Same.{derived}
use Rattle.transaction.proofs.equality.same_transaction.Goals as goal

pub returns : goal.returns
unfolding same_token same_input same_output
returns c = c.eq.ensures ∙ derived _ _ (λ x y. simp and_assoc) (λ x y. simp and_assoc) c.args.a c.args.b
