-- The words are stored, and it stands there.
use Rattle.std.proofs.Common.{◌+◌, ◌<◌, ◌≤◌, length, arith, rules}
use Rattle.layout.proofs.Stored.{five-put}
use Rattle.layout.proofs.kept.TokenKept.put.Goals as goal

pub returns : goal.returns
returns c =
    let room : c.args.b + 5 ≤ length c.args.s.now = omega arith in
    let index : c.args.self.index < 256 = search rules in
    rw c.from.ensures (five-put c.args.s.now c.args.b c.args.self room index)
