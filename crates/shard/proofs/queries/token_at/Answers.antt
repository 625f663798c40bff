use Rattle.std.proofs.Common.{ap, ◌∙◌, Some, arith}
use Rattle.shard.proofs.Asked.{token-within, token-behind}
use Rattle.shard.proofs.queries.token_at.Goals as goal

pub returns-then-place-held : goal.returns-then-place-held
returns-then-place-held c = ap Some c.token_at.ensures ∙ token-within c.requires c.args.place (omega arith)

pub returns : goal.returns
returns c = token-behind c.requires c.args.place (omega arith)
