use Rattle.shard.proofs.Calls.{register-refused, register-own, register-back}
use Rattle.shard.proofs.Tables.{passed_on}
use Rattle.shard.proofs.register_transaction.Goals as goal

-- Refused for the cause that the table says.
pub returns-in_err-register_refusal : goal.returns-in_err-register_refusal
returns-in_err-register_refusal c =
    rw (passed_on c.from_residual.result c.from_residual.ensures.1) (register-refused c.requires c.in_err-register_refusal.ensures)

-- Passed: the receiver is this shard.
pub carry_registration-requires : goal.carry_registration-requires
carry_registration-requires c = record {
  sound = c.requires;
  passed = register-own c.args.s.now c.args.receiver c.args.t c.in_ok-register_refusal.ensures;
}

pub returns : goal.returns
returns c =
    register-back c.args.s.now c.args.receiver c.args.t c.in_ok-register_refusal.ensures c.carry_registration.ensures
