use Rattle.listing.proofs.Text.{total-line}
use Rattle.listing.proofs.line.Line.of_total.Goals as goal

-- Each word is put right behind the one before it.
pub returns-clause-text : goal.returns-clause-text
returns-clause-text c =
    total-line c.new-line.ensures c.args.amount c.text.ensures c.number.ensures.text c.text-2.ensures
