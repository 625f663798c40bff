use Rattle.std.proofs.Common.{rules}
use Rattle.std.proofs.lemmas.Option.{unwrap_or-slice_get}
use Rattle.shard.specs.View.{view}
use Rattle.shard.specs.Queries.{blank_known}
use Rattle.shard.proofs.queries.known_at.Goals as goal

pub returns : goal.returns
returns c = let read = unwrap_or-slice_get (view c.args.s.now).known c.args.place blank_known in search (rules, read)
