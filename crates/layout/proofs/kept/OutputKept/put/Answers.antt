-- The words are stored, and it stands there.
use Rattle.std.proofs.Common.{◌+◌, ◌<◌, ◌≤◌, length, arith, rules}
use Rattle.layout.proofs.Stored.{output-put}
use Rattle.layout.proofs.kept.OutputKept.put.Goals as goal

pub returns : goal.returns
returns c =
    let room : c.args.b + 3 ≤ length c.args.s.now = omega arith in
    let shard : c.args.self.shard < 256 = search rules in
    rw c.from.ensures (output-put c.args.s.now c.args.b c.args.self room shard)
