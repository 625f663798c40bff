use Rattle.shard.proofs.Calls.{entering, register-carried}
use Rattle.shard.proofs.steps.carry_registration.Goals as goal

-- After the local step the transaction can be entered.
pub enter-decided-requires : goal.enter-decided-requires
enter-decided-requires c = entering c.requires.sound c.args.t c.requires.passed c.local_step-own.ensures

pub returns : goal.returns
returns c = register-carried c.requires.sound c.args.t c.requires.passed c.local_step-own.ensures c.enter-decided.ensures
