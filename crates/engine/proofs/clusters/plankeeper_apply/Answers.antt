use Rattle.engine.proofs.Promises.{cluster_does, does_read, does_refused}
use Rattle.engine.proofs.clusters.plankeeper_apply.Goals as goal

-- a record was read, and its call is carried out
pub returns-in-Ok : goal.returns-in-Ok
returns-in-Ok c =
    let does = cluster_does c.answer_code.ensures c.call.ensures in
    does_read c.args.c.now c.read-reading.ensures c.in-Ok.is does

-- the record is refused, and the cluster stays as it was
pub returns-in-Err : goal.returns-in-Err
returns-in-Err c =
    does_refused c.args.c.now c.read-reading.ensures c.requires c.in-Err.is c.refusal_number.ensures
