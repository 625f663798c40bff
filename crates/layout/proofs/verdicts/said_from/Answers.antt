-- 1 is no and 2 is yes, and any other number is that of one who is not heard.
use Rattle.std.proofs.Common.{arith}
use Rattle.std.proofs.lemmas.Bool.{ne_eqb}
use Rattle.layout.specs.Layout.{said_from}
use Rattle.layout.proofs.verdicts.said_from.Goals as goal

pub returns-in-1 : goal.returns-in-1
unfolding said_from
returns-in-1 c = rw c.in-1.is

pub returns-in-2 : goal.returns-in-2
unfolding said_from
returns-in-2 c = rw c.in-2.is

pub returns-in_default : goal.returns-in_default
unfolding said_from
returns-in_default c =
    let n = c.args.number in
    simp (ne_eqb n 1 (omega arith), ne_eqb n 2 (omega arith))
