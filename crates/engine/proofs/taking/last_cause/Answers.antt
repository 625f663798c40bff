-- The slots read one by one are those in the bytes, so that what is found of them is what checks 4 and 5 say.
use Rattle.std.proofs.Common.{ℕ, ◌+◌, ◌*◌, ◌≡◌, Bool, List, length, get_or, take, refl, ap, ◌∙◌, add-zero, rules}
use Rattle.transaction.specs.declared.Input.{Input}
use Rattle.transaction.specs.declared.Output.{Output}
use Rattle.transaction.specs.Lists.{repeats, total}
use Rattle.transaction.specs.Tokens.{zero_input, zero_output}
use Rattle.transaction.specs.Checks.{same_name, input_amount, output_amount}
use Rattle.reader.specs.Layout.{input_at, inputs_at, output_at, outputs_at}
use Rattle.words.proofs.Fours.{by_four}
use Rattle.engine.proofs.Taken.{last_4, last_5, last_0}
use Rattle.engine.proofs.taking.last_cause.Goals as goal

-- the four inputs read, and the four outputs
module _ (l : List ℕ) (at : ℕ) where
  ins : (x : List Input) → length x ≡ 4
      → get_or x 0 zero_input ≡ input_at l (at + 0) → get_or x 1 zero_input ≡ input_at l (at + 14)
      → get_or x 2 zero_input ≡ input_at l (at + 28) → get_or x 3 zero_input ≡ input_at l (at + 42) → x ≡ inputs_at l at
  unfolding inputs_at
  ins x long p q r s = by_four zero_input x (λ (k : ℕ). input_at l (at + k * 14)) long p q r s ∙ rw add-zero refl

  outs : (y : List Output) → length y ≡ 4
      → get_or y 0 zero_output ≡ output_at l (at + 0) → get_or y 1 zero_output ≡ output_at l (at + 9)
      → get_or y 2 zero_output ≡ output_at l (at + 18) → get_or y 3 zero_output ≡ output_at l (at + 27) → y ≡ outputs_at l at
  unfolding outputs_at
  outs y long p q r s = by_four zero_output y (λ (k : ℕ). output_at l (at + k * 9)) long p q r s ∙ rw add-zero refl

-- whether a token is named twice among so many of the inputs
abbrev twice : ℕ → List Input → Bool
twice count x = repeats same_name (take count x)

pub returns-then-named_twice : goal.returns-then-named_twice
returns-then-named_twice c =
    let taken =
    ins c.args.bytes.now c.args.inputs c.from_fn-x.result c.from_fn-x.ensures.items.long
    (search rules) (search rules) (search rules) (search rules) in
    last_4 (c.named_twice.ensures ∙ ap (twice c.args.count) taken) c.if-named_twice.true

pub returns-then-total : goal.returns-then-total
returns-then-total c =
    let taken =
    ins c.args.bytes.now c.args.inputs c.from_fn-x.result c.from_fn-x.ensures.items.long
    (search rules) (search rules) (search rules) (search rules) in
    let made =
    outs c.args.bytes.now c.args.outputs c.from_fn-y.result c.from_fn-y.ensures.items.long
    (search rules) (search rules) (search rules) (search rules) in
    last_5 (c.named_twice.ensures ∙ ap (twice c.args.count) taken) c.if-named_twice.false
    (c.total.ensures ∙ ap (total input_amount) taken) (c.total-2.ensures ∙ ap (total output_amount) made)
    c.if-total.true

pub returns : goal.returns
returns c =
    let taken =
    ins c.args.bytes.now c.args.inputs c.from_fn-x.result c.from_fn-x.ensures.items.long
    (search rules) (search rules) (search rules) (search rules) in
    let made =
    outs c.args.bytes.now c.args.outputs c.from_fn-y.result c.from_fn-y.ensures.items.long
    (search rules) (search rules) (search rules) (search rules) in
    last_0 (c.named_twice.ensures ∙ ap (twice c.args.count) taken) c.if-named_twice.false
    (c.total.ensures ∙ ap (total input_amount) taken) (c.total-2.ensures ∙ ap (total output_amount) made)
    c.if-total.false
