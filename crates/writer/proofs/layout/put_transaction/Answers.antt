use Rattle.std.proofs.Common.{rules, ◌≡◌, length}
use Rattle.writer.proofs.Stores.{inputs-put, outputs-put, transaction-run}
use Rattle.writer.proofs.layout.put_transaction.Goals as goal

-- Each part is stored right behind the one before it.
pub returns : goal.returns
returns c =
    let t = c.args.t in
    let inputs : length t.inputs ≡ 4 = search rules in
    let outputs : length t.outputs ≡ 4 = search rules in
    transaction-run _ _ _
    c.put.ensures c.put-2.ensures c.put-3.ensures (inputs-put _ _ t.inputs inputs c.put_four.ensures) (outputs-put _ _ t.outputs outputs c.put_four-2.ensures)
