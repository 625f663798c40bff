use Rattle.std.proofs.Common.{◌≡◌, refl, rules, tests, eqb, map}
use Rattle.std.proofs.lemmas.Iterator.{YieldsList-from_slice}
use Rattle.std.proofs.lemmas.Iterator.Search.{any_from_yields_List}
use Rattle.transaction.specs.Lists.{any}
use Rattle.transaction.specs.Tokens.{takes_part, input_shard, output_shard, used_inputs, used_outputs}
use Rattle.transaction.proofs.Slots.{any-of, any_append}
use Rattle.transaction.proofs.parts.takes_part.Goals as goal

-- one of the inputs is at the shard
pub returns-then-any : goal.returns-then-any
unfolding takes_part
returns-then-any c =
    let shard = c.args.shard in
    let t = c.args.t in
    let inputs : c.any.result ≡ any (eqb shard) (map input_shard (used_inputs t)) =
    any-of input_shard shard (used_inputs t)
    (any_from_yields_List _ _ _ c.any.result c.any.ensures.ran (YieldsList-from_slice (used_inputs t) cc)
    (λ x b q k. search (rules, tests))) in
    let both = any_append (eqb shard) (map input_shard (used_inputs t)) (map output_shard (used_outputs t)) in
    rw (both, ← inputs, c.if-any.true) refl

-- none of them is: the outputs decide
pub returns-else-any : goal.returns-else-any
unfolding takes_part
returns-else-any c =
    let shard = c.args.shard in
    let t = c.args.t in
    let inputs : c.any.result ≡ any (eqb shard) (map input_shard (used_inputs t)) =
    any-of input_shard shard (used_inputs t)
    (any_from_yields_List _ _ _ c.any.result c.any.ensures.ran (YieldsList-from_slice (used_inputs t) cc)
    (λ x b q k. search (rules, tests))) in
    let outputs : c.any-else-any.result ≡ any (eqb shard) (map output_shard (used_outputs t)) =
    any-of output_shard shard (used_outputs t)
    (any_from_yields_List _ _ _ c.any-else-any.result c.any-else-any.ensures.ran
    (YieldsList-from_slice (used_outputs t) cc) (λ x b q k. search (rules, tests))) in
    let both = any_append (eqb shard) (map input_shard (used_inputs t)) (map output_shard (used_outputs t)) in
    rw (both, ← inputs, c.if-any.false, outputs) refl
