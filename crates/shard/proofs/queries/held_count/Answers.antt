use Rattle.std.proofs.Common.{sym, ◌∙◌}
use Rattle.layout.proofs.Ledgers.{held-length}
use Rattle.shard.proofs.queries.held_count.Goals as goal

pub returns : goal.returns
returns c = c.held.ensures ∙ sym (held-length c.args.s.now c.requires.held)
