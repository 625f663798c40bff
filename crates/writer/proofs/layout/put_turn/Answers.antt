use Rattle.writer.proofs.Stores.{turn-run}
use Rattle.writer.proofs.layout.put_turn.Goals as goal

-- Each part is stored right behind the one before it.
pub returns : goal.returns
returns c =
    turn-run c.args.out.now _ c.requires
    c.put.ensures c.put-2.ensures
