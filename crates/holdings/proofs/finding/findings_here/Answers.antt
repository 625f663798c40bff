use Rattle.std.proofs.Common.{◌≤◌, length, ◌∙◌}
use Rattle.transaction.specs.Tokens.{zero_input}
use Rattle.layout.specs.Layout.{ledger_of}
use Rattle.holdings.proofs.Local.{find-next, find_end}
use Rattle.holdings.proofs.finding.findings_here.Goals as goal

-- What is found about one input more is kept.
pub loop-i-preserved : goal.loop-i-preserved
loop-i-preserved c =
    let items = c.as_slice-x-items.result.now in
    let few : length items ≤ 4 = rw c.as_slice-x-items.ensures.are c.as_slice-x-items.ensures.few in
    find-next (ledger_of c.args.s.now).tokens items c.loop-i.i zero_input c.loop-i-test.true few c.loop-i.invariant
    c.finding_of.ensures

pub returns : goal.returns
returns c me t here =
    find_end me (ledger_of c.args.s.now).tokens t c.as_slice-x-items.result.now c.loop-i.i c.loop-i-test.false
    (c.as_slice-x-items.ensures.are ∙ here) c.loop-i.invariant
