use Rattle.std.proofs.Common.{sym, ◌∙◌}
use Rattle.layout.proofs.Ledgers.{known-length}
use Rattle.shard.proofs.queries.known_count.Goals as goal

pub returns : goal.returns
returns c = c.known_count.ensures ∙ sym (known-length c.args.s.now c.requires.known)
