-- The fields are those of the definition: two are bytes, three are whole words.
use Rattle.words.specs.Words.{input_at}
use Rattle.words.proofs.InputSlot5.from_words.Goals as goal

pub returns : goal.returns
unfolding input_at
returns c = rw (c.narrow.ensures, c.narrow-2.ensures)
