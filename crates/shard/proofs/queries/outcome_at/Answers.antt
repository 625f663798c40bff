use Rattle.std.proofs.Common.{ap, ◌∙◌, Some, Option, arith}
use Rattle.std.specs.Prelude.{option_map}
use Rattle.model.specs.declared.Known.{Known}
use Rattle.model.specs.Steps.{outcome_of}
use Rattle.shard.proofs.Asked.{known-within, known-behind}
use Rattle.shard.proofs.queries.outcome_at.Goals as goal

pub returns-then-place-known_count : goal.returns-then-place-known_count
returns-then-place-known_count c =
    ap Some c.outcome_at.ensures
    ∙ ap (λ (k : Option Known). option_map outcome_of k) (known-within c.requires c.args.place (omega arith))

pub returns : goal.returns
returns c = ap (λ (k : Option Known). option_map outcome_of k) (known-behind c.requires c.args.place (omega arith))
