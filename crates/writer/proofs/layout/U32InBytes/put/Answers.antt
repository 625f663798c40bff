use Rattle.std.proofs.Common.{rules, ◌∙◌}
use Rattle.writer.proofs.Stores.{word-put}
use Rattle.writer.proofs.layout.U32InBytes.put.Goals as goal

-- its four bytes, high byte first
pub returns : goal.returns
returns c =
    word-put c.args.out.now c.args.at c.args.self (search rules)
    (c.copy_from_slice.ensures.after ∙ c.to_be_bytes.ensures) c.requires
