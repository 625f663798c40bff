use Rattle.shard.proofs.Ledgers.{stepped-here}
use Rattle.shard.proofs.local.local_step.Goals as goal

-- Stays, though the check finds both alone: a wrong version (pledges_before_judging) is tried against these answers.
-- The findings are read off the words as they were before the pledges.
pub findings_here-findings-requires : goal.findings_here-findings-requires
findings_here-findings-requires c = c.requires.held

-- The inputs here, what is found about each, the available ones, the pledges, and the vote.
pub returns : goal.returns
returns c =
    let inputs = c.inputs_here-here.ensures in
    let finds = c.findings_here-findings.ensures in
    let available = c.available_here-found.ensures in
    let votes = c.own_vote-verdict.ensures in
    stepped-here c.args.s.now c.args.t c.own_number-me.ensures inputs finds available c.pledge_all.ensures votes
