use Rattle.std.proofs.Common.{ap, ◌∙◌, ◌++◌}
use Rattle.listing.proofs.Digits.{spelled}
use Rattle.listing.proofs.line.Line.number.Goals as goal

-- The digits are the number's, as few as hold it.
pub returns-clause-text : goal.returns-clause-text
returns-clause-text c =
    let digits = c.decimal-count.ensures in
    c.text.ensures ∙ ap (λ z. c.args.self.now ++ z) (digits.digits ∙ spelled c.decimal-count.result c.args.n digits.len)
