-- All used ones are counted.
use Rattle.std.proofs.Common.{◌≡◌, length, ◌∙◌, arith, rules, tests}
use Rattle.std.specs.Prelude.{count_by}
use Rattle.std.proofs.lemmas.List.{length-take}
use Rattle.transaction.specs.Tokens.{used_outputs}
use Rattle.model.specs.Steps.{output_here, outputs_here}
use Rattle.model.proofs.Basics.{keep-length}
use Rattle.registry.proofs.Counts.{counts-kept}
use Rattle.registry.proofs.reserving.count_here.Goals as goal

pub returns : goal.returns
unfolding outputs_here
returns c =
    let t = c.args.t in
    let here = output_here c.args.me in
    let counted : c.count.result ≡ count_by here (used_outputs t) = search (rules, tests) in
    let are = counted ∙ counts-kept here (used_outputs t) in
    let long : length t.outputs ≡ 4 = search rules in
    (are, omega (arith, are, keep-length here (used_outputs t), length-take t.output_count t.outputs))
