use Rattle.std.proofs.Common.{ℕ, ◌≡◌, false, List, get_or, sym, ap, ◌∙◌, arith}
use Rattle.std.proofs.Math.Option.{some}
use Rattle.model.specs.declared.Token.{Token}
use Rattle.model.specs.Steps.{names, available, obstacle}
use Rattle.model.proofs.Reported.{finding-free, finding-named, finding-none}
use Rattle.loops.proofs.Positions.{stands, nowhere}
use Rattle.layout.specs.Layout.{ledger_of, no_token}
use Rattle.layout.proofs.Ledgers.{held-entry}
use Rattle.holdings.proofs.finding.finding_of.Goals as goal

pub returns-then-is_available : goal.returns-then-is_available
returns-then-is_available c =
    let tokens : List Token = (ledger_of c.args.s.now).tokens in
    sym (finding-free tokens _ (sym c.is_available.ensures ∙ c.if-is_available.true))

-- The token of the input's name is held, but not available.
pub returns-in-Some : goal.returns-in-Some
returns-in-Some c =
    let x = c.args.x in
    let ws = c.args.s.now in
    let tokens : List Token = (ledger_of ws).tokens in
    let taken : available tokens x ≡ false = sym c.is_available.ensures ∙ c.if-is_available.false in
    let place = c.in-Some.place in
    let at = stands (names x) tokens place (sym c.in-Some.ensures.found) in
    let token =
    c.token_at.ensures ∙ held-entry ws place c.in-Some.ensures.within c.requires no_token
    ∙ ap (λ (k : ℕ). get_or tokens k no_token) (sym at.first) in
    c.obstacle_of.ensures
    ∙ ap (λ (u : Token). obstacle x (some u)) token
    ∙ sym (finding-named tokens x taken no_token (rw at.first at.below))

-- No token held has the input's name.
pub returns-in-None : goal.returns-in-None
returns-in-None c =
    let x = c.args.x in
    let tokens : List Token = (ledger_of c.args.s.now).tokens in
    let taken : available tokens x ≡ false = sym c.is_available.ensures ∙ c.if-is_available.false in
    let none = nowhere (names x) tokens (sym c.in-None.ensures.found) in
    sym (finding-none tokens x taken (omega (arith, none.past)))
