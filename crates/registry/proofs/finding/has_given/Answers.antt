-- Only the known transaction of that number can pass: it is found and asked, or there is none.
use Rattle.std.proofs.Common.{sym, ◌∙◌}
use Rattle.model.specs.Shard.{is_numbered}
use Rattle.loops.proofs.Positions.{stands, nowhere}
use Rattle.layout.specs.Layout.{ledger_of}
use Rattle.registry.proofs.Finds.{given-none, given_if, given-other}
use Rattle.registry.proofs.finding.has_given.Goals as goal

pub returns-in_default : goal.returns-in_default
returns-in_default c =
    let none = nowhere (is_numbered c.args.t.number) (ledger_of c.args.s.now).known (sym c.in_default.ensures.found) in
    given-none c.args.s.now c.requires.0 c.requires.1 c.args.sender c.args.verdict c.args.t none

pub returns-then-says : goal.returns-then-says
returns-then-says c =
    let at = stands (is_numbered c.args.t.number) (ledger_of c.args.s.now).known c.in-Some.place (sym c.in-Some.ensures.found) in
    given_if c.args.s.now c.requires.0 c.requires.1 c.args.sender c.args.verdict c.args.t at
    c.heard_at.ensures c.says.ensures c.if-says.true c.same_at.ensures

pub returns-else-says : goal.returns-else-says
returns-else-says c =
    let at = stands (is_numbered c.args.t.number) (ledger_of c.args.s.now).known c.in-Some.place (sym c.in-Some.ensures.found) in
    c.if-says.false ∙ given-other c.args.s.now c.requires.0 c.requires.1 c.args.sender c.args.verdict c.args.t at
    c.heard_at.ensures c.says.ensures c.if-says.false
