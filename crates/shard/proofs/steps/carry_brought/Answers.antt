use Rattle.shard.proofs.Calls.{bring_enters, bring_ready, bring-carried}
use Rattle.shard.proofs.steps.carry_brought.Goals as goal

-- After the local step the transaction can be entered.
pub enter-requires : goal.enter-requires
enter-requires c =
    let vote = c.args.vote.now in
    bring_enters c.requires.sound vote.sender vote.verdict vote.transaction c.requires.unknown c.requires.passed c.local_step-own.ensures

-- It stands behind those that were known, and the sender was not heard on it before.
pub fresh_vote-decided-requires : goal.fresh_vote-decided-requires
fresh_vote-decided-requires c =
    let vote = c.args.vote.now in
    let stepped = c.local_step-own.ensures in
    let entered = c.enter.ensures in
    let behind = c.known_count-place.ensures in
    bring_ready c.requires.sound vote.sender vote.verdict vote.transaction c.requires.unknown c.requires.passed stepped entered behind

pub returns : goal.returns
returns c =
    let vote = c.args.vote.now in
    let stepped = c.local_step-own.ensures in
    let entered = c.enter.ensures in
    let behind = c.known_count-place.ensures in
    bring-carried c.requires.sound vote.sender vote.verdict vote.transaction c.requires.unknown c.requires.passed stepped entered behind
    c.fresh_vote-decided.ensures
