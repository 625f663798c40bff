use Rattle.std.proofs.Common.{rules, arith, ◌≡◌, ◌<◌, None, length, get_or, map, sym, ◌∙◌}
use Rattle.std.proofs.lemmas.List.{same_lists, length-map, get_or-map}
use Rattle.model.specs.Said.{said_number}
use Rattle.engine.specs.Queries.{known_words}
use Rattle.engine.proofs.ledgers.known_words.Goals as goal

-- the words of the transaction, and behind them the verdicts, each as a word
pub returns-in-Some : goal.returns-in-Some
unfolding known_words
returns-in-Some c =
    let heard = c.in-Some.k.heard in
    let eight : length heard ≡ 8 = search rules in
    let long : length c.map.result ≡ length (map said_number heard)
    = c.map.ensures.items.long ∙ sym eight ∙ sym (length-map heard said_number) in
    let same = same_lists c.map.result (map said_number heard) long
    (λ k d h.
    let within : k < 8 = omega (arith, c.map.ensures.items.long, h) in
    let each : get_or c.map.result k d ≡ said_number (get_or heard k None) = let a = c.map.ensures.items.at k None d within in search rules in
    each ∙ sym (get_or-map said_number heard k None d (omega (arith, eight, within)))) in
    rw (c.in-Some.is, ← c.words_of.ensures, ← same) c.joined.ensures
