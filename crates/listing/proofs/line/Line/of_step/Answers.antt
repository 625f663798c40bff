use Rattle.listing.specs.Lines.{place_text}
use Rattle.listing.proofs.Text.{step-line}
use Rattle.listing.proofs.line.Line.of_step.Goals as goal

-- Each word is put right behind the one before it.
pub returns-clause-text : goal.returns-clause-text
returns-clause-text c =
    let a = c.args in
    step-line c.new-line.ensures a.number (place_text a.place) a.answer
    c.number.ensures.text c.place.ensures.text c.answer.ensures.text c.text.ensures
