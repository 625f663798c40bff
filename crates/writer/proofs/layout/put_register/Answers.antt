use Rattle.writer.proofs.Stores.{register-run}
use Rattle.writer.proofs.layout.put_register.Goals as goal

-- Each part is stored right behind the one before it.
pub returns : goal.returns
returns c =
    register-run c.args.out.now _ _ c.requires
    c.put.ensures c.put-2.ensures c.put_transaction.ensures
