-- One word is stored, and it stands there.
use Rattle.std.proofs.Common.{◌+◌, ◌≤◌, length, arith}
use Rattle.layout.proofs.Stored.{said-put}
use Rattle.layout.proofs.kept.OptionBoolKept.put.Goals as goal

pub returns : goal.returns
returns c =
    let room : c.args.b + 1 ≤ length c.args.s.now = omega arith in
    said-put c.args.s.now c.args.b c.args.self room c.said_number.ensures
