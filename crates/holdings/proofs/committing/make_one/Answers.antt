use Rattle.std.proofs.Common.{◌≡◌, Bool, true, length, eq-eqb, arith}
use borrow.Author.Tests.{ne_eqb}
use Rattle.model.specs.declared.Token.{Token}
use Rattle.model.specs.Steps.{output_here, token_of}
use Rattle.loops.specs.Lists.{one_if}
use Rattle.holdings.proofs.Tokens.{one-made, none_made, one-room}
use Rattle.holdings.proofs.committing.make_one.Goals as goal

-- There is room for the output's token.
pub push_token-requires : goal.push_token-requires
push_token-requires c =
    let wanted : Bool = output_here c.args.me c.args.y in
    let token : Token = token_of c.args.number c.args.index c.args.y in
    let here : wanted ≡ true = eq-eqb _ _ c.if-y-me.true in
    let one : length (one_if wanted token) ≡ 1 = one-room wanted token here in
    (c.requires.0, omega (arith, one, c.requires.1))

-- The output's token stands behind those that were held.
pub returns-then-y-me : goal.returns-then-y-me
returns-then-y-me c =
    let wanted : Bool = output_here c.args.me c.args.y in
    let token : Token = token_of c.args.number c.args.index c.args.y in
    one-made c.args.s.now wanted token (eq-eqb _ _ c.if-y-me.true) c.push_token.ensures

-- No token is wanted.
pub returns-else-y-me : goal.returns-else-y-me
returns-else-y-me c =
    let wanted : Bool = output_here c.args.me c.args.y in
    let token : Token = token_of c.args.number c.args.index c.args.y in
    none_made c.args.s.now wanted token (ne_eqb _ _ c.if-y-me.false) c.requires.0
