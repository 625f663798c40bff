use Rattle.std.proofs.Common.{◌≡◌, ◌+◌, false, true, take, get_or, rules, refl, sym, ◌∙◌}
use Rattle.transaction.specs.Lists.{any, repeats}
use Rattle.transaction.specs.Tokens.{zero_input}
use Rattle.transaction.specs.Checks.{same_name, names}
use Rattle.transaction.proofs.Walks.{repeats-more, repeats-within}
use Rattle.transaction.proofs.checks.named_twice.Goals as goal

-- an earlier input names the token of this one
pub returns-then-named_before : goal.returns-then-named_before
returns-then-named_before c =
    let x = c.args.x in
    let k = c.loop-k.k in
    let named : any (names (get_or x k zero_input)) (take k x) ≡ true = sym c.named_before.ensures ∙ c.if-named_before.true in
    let more : repeats same_name (take (k + 1) x) ≡ true =
    repeats-more same_name x k zero_input (search rules) ∙ rw (c.loop-k.invariant, named) refl in
    sym (repeats-within same_name x (k + 1) c.args.count (search rules) more)

-- none does, so that no token is named twice so far
pub loop-k-preserved : goal.loop-k-preserved
loop-k-preserved c =
    let x = c.args.x in
    let k = c.loop-k.k in
    let none : any (names (get_or x k zero_input)) (take k x) ≡ false = sym c.named_before.ensures ∙ c.if-named_before.false in
    repeats-more same_name x k zero_input (search rules) ∙ rw (c.loop-k.invariant, none) refl
