-- The words are those of the definition, one for one.
use Rattle.std.proofs.Common.{rules, ℕ, List, [], get_or, ap, ◌∙◌, refl}
use Rattle.std.specs.List.{flat_map}
use Rattle.transaction.specs.Tokens.{zero_input, zero_output}
use Rattle.words.specs.Words.{words_of, input_words, output_words}
use Rattle.words.proofs.Fours.{by_four}
use Rattle.words.proofs.words_of.Goals as goal

abbrev joined : List (List ℕ) → List ℕ
joined = flat_map (λ l. l)

pub returns : goal.returns
unfolding words_of
returns c =
    let input = λ (k : ℕ). input_words (get_or c.args.t.inputs k zero_input) in
    let output = λ (k : ℕ). output_words (get_or c.args.t.outputs k zero_output) in
    let ins = by_four [] c.map.result input c.map.ensures.items.long (search rules) (search rules) (search rules) (search rules) in
    let outs = by_four [] c.map-2.result output c.map-2.ensures.items.long (search rules) (search rules) (search rules) (search rules) in
    rw (
      c.copy_from_slice.ensures.after ∙ c.as_flattened.ensures.value ∙ ap joined ins,
      c.copy_from_slice-2.ensures.after ∙ c.as_flattened-2.ensures.value ∙ ap joined outs,
      c.from.ensures,
      c.from-2.ensures,
    )
    refl
