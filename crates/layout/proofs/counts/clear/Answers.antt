-- All words are 0, and then the number is stored.
use Rattle.std.proofs.Common.{refl, ◌<◌, rules}
use Rattle.layout.proofs.Stored.{all_cleared}
use Rattle.layout.specs.Layout.{shard_words}
use Rattle.layout.proofs.counts.clear.Goals as goal

pub returns : goal.returns
returns c =
    let byte : c.args.number < 256 = search rules in
    rw c.from.ensures (all_cleared shard_words c.args.number refl byte)
