-- The number is known, and not for another transaction.
use Rattle.std.proofs.Common.{sym, ◌∙◌}
use Rattle.model.specs.Shard.{is_numbered}
use Rattle.model.proofs.Entries.{whole-known}
use Rattle.loops.proofs.Positions.{stands}
use Rattle.shard.specs.View.{view}
use Rattle.shard.proofs.refusals.hear_rest.Goals as goal

pub has_other_verdict-requires : goal.has_other_verdict-requires
has_other_verdict-requires c =
    let among = (view c.args.s.now).known in
    let t = c.args.vote.now.transaction in
    let at = stands (is_numbered t.number) among c.args.place c.requires.there in
    record {
      sound = c.requires.sound;
      there = c.requires.there;
      known = whole-known t among at.some (sym c.is_other.ensures ∙ c.if-is_other.false);
    }
