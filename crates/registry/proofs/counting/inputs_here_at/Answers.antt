-- The inputs here are those whose shard is this one.
use Rattle.model.specs.Steps.{inputs_here}
use Rattle.registry.proofs.counting.inputs_here_at.Goals as goal

pub returns : goal.returns
unfolding inputs_here
returns c = c.here_at.ensures.are
