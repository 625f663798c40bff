-- Two words are stored, and the finding stands there.
use Rattle.std.proofs.Common.{◌+◌, ◌≤◌, length, arith}
use Rattle.layout.proofs.Stored.{found-put}
use Rattle.layout.proofs.kept.FindingKept.put.Goals as goal

pub returns : goal.returns
returns c =
    let room : c.args.b + 2 ≤ length c.args.s.now = omega arith in
    found-put c.args.s.now c.args.b c.args.self room c.finding_number.ensures c.pledging_number.ensures
