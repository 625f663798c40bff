use Rattle.writer.proofs.Stores.{input-run}
use Rattle.writer.proofs.layout.InputInBytes.put.Goals as goal

-- Each part is stored right behind the one before it.
pub returns : goal.returns
returns c =
    input-run _ _ _
    c.put.ensures c.put-2.ensures c.put-3.ensures c.put-4.ensures c.put-5.ensures
