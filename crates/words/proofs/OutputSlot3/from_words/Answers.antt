-- The fields are those of the definition: one is a byte, two are whole words.
use Rattle.words.specs.Words.{output_at}
use Rattle.words.proofs.OutputSlot3.from_words.Goals as goal

pub returns : goal.returns
unfolding output_at
returns c = rw c.narrow.ensures
