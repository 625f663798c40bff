-- The counts, the inputs and the outputs are those of the definition.
use Rattle.std.proofs.Common.{rules, refl}
use Rattle.transaction.specs.Tokens.{zero_input, zero_output}
use Rattle.words.specs.Words.{transaction_from, input_from, output_from}
use Rattle.words.proofs.Fours.{by_four}
use Rattle.words.proofs.transaction_from.Goals as goal

pub returns : goal.returns
unfolding transaction_from
returns c =
    let l = c.args.words.now in
    let ins = by_four zero_input c.from_fn.result (input_from l) c.from_fn.ensures.items.long
    (search rules) (search rules) (search rules) (search rules) in
    let outs = by_four zero_output c.from_fn-2.result (output_from l) c.from_fn-2.ensures.items.long
    (search rules) (search rules) (search rules) (search rules) in
    rw (c.narrow.ensures, c.narrow-2.ensures, ins, outs) refl
