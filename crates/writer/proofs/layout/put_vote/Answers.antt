use Rattle.writer.proofs.Stores.{vote-run}
use Rattle.writer.proofs.layout.put_vote.Goals as goal

-- Each part is stored right behind the one before it.
pub returns : goal.returns
returns c =
    vote-run c.args.out.now _ _ _ _ c.requires
    c.put.ensures c.put-2.ensures c.put-3.ensures c.put-4.ensures c.put_transaction.ensures
