use Rattle.shard.proofs.Calls.{bring-refused, bring_unrefused}
use Rattle.shard.proofs.Tables.{passed_on}
use Rattle.shard.proofs.bring.Goals as goal

-- Refused for the cause that the rest of the table says.
pub returns-in_err-bring_rest : goal.returns-in_err-bring_rest
returns-in_err-bring_rest c =
    let vote = c.args.vote.now in
    rw (passed_on c.from_residual.result c.from_residual.ensures.1)
    (bring-refused c.requires.sound vote.sender vote.verdict vote.transaction c.requires.formed c.requires.unknown c.in_err-bring_rest.ensures)

-- Passed: no row of the whole table holds.
pub carry_brought-requires : goal.carry_brought-requires
carry_brought-requires c =
    let vote = c.args.vote.now in
    let told = c.in_ok-bring_rest.ensures in
    record {
      sound = c.requires.sound;
      unknown = c.requires.unknown;
      passed = bring_unrefused c.requires.sound vote.sender vote.verdict vote.transaction c.requires.formed c.requires.unknown told;
    }
