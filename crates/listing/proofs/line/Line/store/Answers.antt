use Rattle.std.proofs.Common.{◌≡◌, length, sym, ap, ◌∙◌, rules, arith}
use Rattle.std.proofs.Math.Seq.{length-take-le}
use Rattle.listing.proofs.Stores.{copied}
use Rattle.listing.proofs.line.Line.store.Goals as goal

-- The bytes of the line are copied, and are 64 at most.
pub returns : goal.returns
returns c =
    let here = c.self.inside in
    let long : length here.bytes ≡ 64 = search rules in
    let size = sym (length-take-le here.len here.bytes (omega (arith, long, c.self.invariant))) ∙ ap length c.self.view_is in
    copied c.args.out.now c.args.at here.len c.args.self.now (c.copy_from_slice.ensures.after ∙ c.self.view_is) size
    c.self.invariant c.requires.room
