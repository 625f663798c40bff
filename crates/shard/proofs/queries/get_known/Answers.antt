use Rattle.std.proofs.Common.{ap, ◌∙◌, Some, arith}
use Rattle.shard.proofs.Asked.{known-within, known-behind}
use Rattle.shard.proofs.queries.get_known.Goals as goal

pub returns-then-place-known_count : goal.returns-then-place-known_count
returns-then-place-known_count c = ap Some c.known_at.ensures ∙ known-within c.requires c.args.place (omega arith)

pub returns : goal.returns
returns c = known-behind c.requires c.args.place (omega arith)
