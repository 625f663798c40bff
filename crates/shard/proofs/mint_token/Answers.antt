use Rattle.shard.proofs.Calls.{mint-refused, mint-room, mint-index, mint-carried}
use Rattle.shard.proofs.Tables.{passed_on}
use Rattle.shard.proofs.mint_token.Goals as goal

-- Refused for the cause that the table says.
pub returns-in_err-mint_refusal : goal.returns-in_err-mint_refusal
returns-in_err-mint_refusal c =
    rw (passed_on c.from_residual.result c.from_residual.ensures.1) (mint-refused c.requires c.in_err-mint_refusal.ensures)

-- Passed: there is a slot for one more token, and the index is one of the genesis indexes.
pub after_mint-requires : goal.after_mint-requires
after_mint-requires c =
    let passed = c.in_ok-mint_refusal.ensures in
    let room = mint-room c.requires c.args.receiver c.args.index c.args.owner c.args.amount passed in
    let index = mint-index c.requires c.args.receiver c.args.index c.args.owner c.args.amount passed in
    (c.requires.long, (room, index))

pub returns : goal.returns
returns c =
    mint-carried c.requires c.args.receiver c.args.index c.args.owner c.args.amount c.in_ok-mint_refusal.ensures c.after_mint.ensures
