use Rattle.std.proofs.Common.{sym, ◌∙◌}
use Rattle.holdings.proofs.Tokens.{abort_frees, abort_leaves}
use Rattle.holdings.proofs.freeing.abort_at.Goals as goal

pub returns-then-is_turned : goal.returns-then-is_turned
returns-then-is_turned c =
    let turned = sym c.is_turned.ensures ∙ c.if-is_turned.true in
    abort_frees c.args.place c.args.s.now c.number_at-number.ensures turned c.free_pledged_to.ensures

pub returns-else-is_turned : goal.returns-else-is_turned
returns-else-is_turned c =
    let unturned = sym c.is_turned.ensures ∙ c.if-is_turned.false in
    abort_leaves c.args.place c.args.s.now unturned c.requires.room
