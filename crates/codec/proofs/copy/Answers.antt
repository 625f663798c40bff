use Rattle.std.proofs.lemmas.Result.{err_from_is_err_and}
use Rattle.codec.proofs.WriteBack.{copies, copies-refused}
use Rattle.codec.proofs.copy.Goals as goal

pub returns-in_err-fields : goal.returns-in_err-fields
returns-in_err-fields c =
    let a = c.args in
    let p = err_from_is_err_and c.from_residual.result c.from_residual.ensures.1 in
    rw (p.1, p.2) (copies-refused a.bytes.now a.out.now c.read-reading.ensures.whole c.in_err-fields.was)

pub returns : goal.returns
returns c =
    let a = c.args in
    copies a.bytes.now a.out.now c.read-reading.ensures.whole (λ i. (c.type_inv.bytes i).fits) c.in_ok-fields.was c.write.ensures
