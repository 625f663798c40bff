use Rattle.std.proofs.Common.{ℕ, ◌+◌, ap}
use Rattle.engine.proofs.Tells.{tells_refused, tells_found}
use Rattle.engine.proofs.findings.tell.Goals as goal

-- the refusal's own number, and the words stay as they were
pub returns-in-Err : goal.returns-in-Err
returns-in-Err c = tells_refused c.args.report c.args.words.now c.in-Err.is c.refusal_number.ensures

-- 700 and the count, and the words of the findings
pub returns-in-Ok : goal.returns-in-Ok
returns-in-Ok c =
    let code = ap (λ (n : ℕ). 700 + n) c.from.ensures in
    tells_found c.args.report c.args.words.now c.in-Ok.is code c.findings_words.ensures
