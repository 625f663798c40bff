use Rattle.std.proofs.Common.{◌≡◌, [], ◌∷◌, sym, ◌∙◌, rules}
use Rattle.model.specs.Steps.{names, named_in, pledges}
use Rattle.holdings.proofs.Tokens.{one-named}
use Rattle.holdings.proofs.pledging.pledge_named.Goals as goal

-- Of one input's names, the test is whether the input names the token.
pub returns : goal.returns
unfolding pledges
returns c =
    let x = c.args.x in
    c.pledge_where.ensures (named_in (x ∷ []))
    (λ token picked told. let named : picked ≡ names x token = search rules in named ∙ sym (one-named x token))
