use Rattle.std.proofs.Common.{◌≡◌, arith, sym, ◌∙◌}
use Rattle.std.proofs.lemmas.Result.{err_from_is_err_and}
use Rattle.reader.specs.Reading.{read_cause}
use Rattle.reader.proofs.Cases.{long_3, cause_3, record_3, answer_fails, answer_passes}
use Rattle.reader.proofs.bodies.read_mint.Goals as goal

-- All eleven bytes are there.
pub bounds-bytes-1 : goal.bounds-bytes-1
bounds-bytes-1 c = omega (arith, long_3 c.args.bytes.now c.requires.0 c.requires.1)

pub bounds-bytes-2 : goal.bounds-bytes-2
bounds-bytes-2 c = omega (arith, long_3 c.args.bytes.now c.requires.0 c.requires.1)

pub word_at-owner-requires : goal.word_at-owner-requires
word_at-owner-requires c = omega (arith, long_3 c.args.bytes.now c.requires.0 c.requires.1)

pub word_at-amount-requires : goal.word_at-amount-requires
word_at-amount-requires c = omega (arith, long_3 c.args.bytes.now c.requires.0 c.requires.1)

-- Each field is what the definition reads, and so is the answer of the checks.
pub returns-in_err-mint_cause : goal.returns-in_err-mint_cause
returns-in_err-mint_cause c =
    let l = c.args.bytes.now in
    let head = c.requires.0 in
    let checked : c.mint_cause.result ≡ read_cause l =
    c.mint_cause.ensures ∙ rw (c.word_at-owner.ensures, c.word_at-amount.ensures) (sym (cause_3 l head c.requires.1)) in
    let p = err_from_is_err_and c.from_residual.result c.from_residual.ensures.1 in
    rw (p.1, p.2) (answer_fails l head (sym checked ∙ c.in_err-mint_cause.was))

pub returns : goal.returns
returns c =
    let l = c.args.bytes.now in
    let head = c.requires.0 in
    let checked : c.mint_cause.result ≡ read_cause l =
    c.mint_cause.ensures ∙ rw (c.word_at-owner.ensures, c.word_at-amount.ensures) (sym (cause_3 l head c.requires.1)) in
    answer_passes l head (sym checked ∙ c.in_ok-mint_cause.was)
    (rw (c.word_at-owner.ensures, c.word_at-amount.ensures) (sym (record_3 l head c.requires.1)))
