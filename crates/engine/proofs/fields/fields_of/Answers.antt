-- The words in front and those of the transaction, one behind the other, are those of the reading.
use Rattle.engine.specs.Fields.{reading_words}
use Rattle.engine.proofs.fields.fields_of.Goals as goal

pub returns : goal.returns
unfolding reading_words
returns c = rw (← c.answer_words.ensures, ← c.words_of.ensures) c.joined.ensures
