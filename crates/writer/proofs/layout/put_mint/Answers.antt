use Rattle.writer.proofs.Stores.{mint-run}
use Rattle.writer.proofs.layout.put_mint.Goals as goal

-- Each part is stored right behind the one before it.
pub returns : goal.returns
returns c =
    mint-run c.args.out.now _ _ _ _ c.requires
    c.put.ensures c.put-2.ensures c.put-3.ensures c.put-4.ensures c.put-5.ensures
