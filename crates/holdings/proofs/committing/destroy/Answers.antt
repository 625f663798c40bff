use Rattle.holdings.proofs.Tokens.{destroying_in_turn, turn-room, turn-start, turn-next, turn_end}
use Rattle.holdings.proofs.committing.destroy.Goals as goal

pub loop-x-init : goal.loop-x-init
loop-x-init c = record { room = c.requires; turned = turn-start destroying_in_turn c.args.s.now c.requires }

-- One input more has had its turn.
pub loop-x-preserved : goal.loop-x-preserved
loop-x-preserved c =
    let turn = destroying_in_turn in
    let items = c.as_slice-x-items.result.now in
    let now = c.loop-x in
    record {
      room = turn-room turn now.s c.destroy_named.new.s now.invariant.room c.destroy_named.ensures;
      turned =
          turn-next turn items now.x-index _ c.loop-x-test.true c.args.s.now now.s c.destroy_named.new.s
          now.invariant.turned c.destroy_named.ensures;
    }

-- All have had their turn.
pub returns : goal.returns
returns c =
    turn_end destroying_in_turn c.as_slice-x-items.result.now c.args.inputs.now c.loop-x.x-index c.loop-x-test.false
    c.as_slice-x-items.ensures.are c.args.s.now c.loop-x.s c.loop-x.invariant.turned
