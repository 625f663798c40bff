-- What is heard is that of its word.
use Rattle.std.proofs.Common.{ap, ◌∙◌}
use Rattle.layout.specs.Layout.{said_from, said_in}
use Rattle.layout.proofs.kept.OptionBoolKept.read.Goals as goal

pub returns : goal.returns
unfolding said_in
returns c = c.said_from.ensures ∙ ap said_from c.byte.ensures
