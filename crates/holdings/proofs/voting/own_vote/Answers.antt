use Rattle.model.proofs.Local.{vote-counts}
use Rattle.holdings.proofs.voting.own_vote.Goals as goal

-- As many are available as are here: the vote.
pub returns : goal.returns
returns c me tokens t here found =
    rw (c.len.ensures, c.len-2.ensures, here, found) (vote-counts me tokens t)
