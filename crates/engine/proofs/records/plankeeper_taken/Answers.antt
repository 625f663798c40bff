-- What is left is what is behind the record, so that the difference is what the record takes.
use Rattle.std.proofs.Common.{arith}
use Rattle.engine.proofs.Promises.{rest-length}
use Rattle.engine.proofs.records.plankeeper_taken.Goals as goal

pub overflow_sub-result : goal.overflow_sub-result
overflow_sub-result c = omega (arith, rest-length c.args.bytes.now c.rest-rest.ensures)

pub returns : goal.returns
returns c = omega (arith, rest-length c.args.bytes.now c.rest-rest.ensures)
