use Rattle.std.proofs.Common.{arith}
use Rattle.holdings.proofs.Tokens.{pushed}
use Rattle.holdings.proofs.committing.push_token.Goals as goal

pub returns : goal.returns
returns c = pushed c.args.s.now c.args.token _ _ _ c.held-n.ensures (omega arith) c.put_token.ensures c.set_held.ensures
