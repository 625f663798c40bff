-- A number from 2 to 5 names its finding, and any other is that of an available input.
use Rattle.std.proofs.Common.{arith}
use Rattle.std.proofs.lemmas.Bool.{ne_eqb}
use Rattle.layout.specs.Layout.{finding_from}
use Rattle.layout.proofs.findings.finding_from.Goals as goal

pub returns-in-2 : goal.returns-in-2
unfolding finding_from
returns-in-2 c = rw c.in-2.is

pub returns-in-3 : goal.returns-in-3
unfolding finding_from
returns-in-3 c = rw c.in-3.is

pub returns-in-4 : goal.returns-in-4
unfolding finding_from
returns-in-4 c = rw c.in-4.is

pub returns-in-5 : goal.returns-in-5
unfolding finding_from
returns-in-5 c = rw c.in-5.is

pub returns-in_default : goal.returns-in_default
unfolding finding_from
returns-in_default c =
    let n = c.args.number in
    simp (ne_eqb n 2 (omega arith), ne_eqb n 3 (omega arith), ne_eqb n 4 (omega arith), ne_eqb n 5 (omega arith))
