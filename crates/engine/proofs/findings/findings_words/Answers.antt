-- The words of the four places, one behind the other.
use Rattle.std.proofs.Common.{rules, ◌∙◌, refl, [], ◌∷◌}
use Rattle.engine.proofs.Tells.{words-by}
use Rattle.engine.proofs.findings.findings_words.Goals as goal

pub returns : goal.returns
returns c =
    let pairs = c.pair_at.result ∷ c.pair_at-2.result ∷ c.pair_at-3.result ∷ c.pair_at-4.result ∷ [] in
    let words = words-by c.args.count c.args.found (search rules) pairs refl
    c.pair_at.ensures c.pair_at-2.ensures c.pair_at-3.ensures c.pair_at-4.ensures in
    c.copy_from_slice.ensures.after ∙ c.as_flattened.ensures.value ∙ words
