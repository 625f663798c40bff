use Rattle.shard.proofs.Ledgers.{minted}
use Rattle.shard.proofs.steps.after_mint.Goals as goal

pub returns : goal.returns
returns c = minted c.args.index c.args.owner c.args.amount c.from.ensures c.push_token.ensures c.give.ensures
