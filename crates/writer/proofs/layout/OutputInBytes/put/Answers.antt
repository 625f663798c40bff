use Rattle.writer.proofs.Stores.{output-run}
use Rattle.writer.proofs.layout.OutputInBytes.put.Goals as goal

-- Each part is stored right behind the one before it.
pub returns : goal.returns
returns c =
    output-run _ _ _
    c.put.ensures c.put-2.ensures c.put-3.ensures
