use Rattle.std.proofs.Common.{arith}
use Rattle.listing.proofs.Text.{small-within}
use Rattle.listing.proofs.line.Line.small.Goals as goal

-- A number of 8 bits has three digits at most.
pub returns-clause-within : goal.returns-clause-within
returns-clause-within c = small-within c.args.self.now c.from.result (omega (arith, c.from.ensures)) c.text.ensures c.number.ensures.text
