-- The words are stored, and it stands there.
use Rattle.std.proofs.Common.{◌+◌, ◌<◌, ◌≤◌, length, arith, rules}
use Rattle.layout.proofs.Stored.{input-put}
use Rattle.layout.proofs.kept.InputKept.put.Goals as goal

pub returns : goal.returns
returns c =
    let room : c.args.b + 5 ≤ length c.args.s.now = omega arith in
    let shard : c.args.self.token.shard < 256 = search rules in
    let index : c.args.self.token.index < 256 = search rules in
    rw (c.from.ensures, c.from-2.ensures) (input-put c.args.s.now c.args.b c.args.self room shard index)
