use Rattle.std.proofs.Common.{◌≡◌, true, false, sym, ◌∙◌}
use Rattle.transaction.specs.Checks.{fields_fit, named_twice}
use Rattle.transaction.proofs.Causes.{cause_0, cause_3, cause_4, cause_5}
use Rattle.transaction.proofs.checks.cause.Goals as goal

-- check 3 does not pass
pub returns-then-not-fields_fit : goal.returns-then-not-fields_fit
returns-then-not-fields_fit c =
    cause_3 c.args.genesis c.args.t (sym c.if-not-fields_fit.true ∙ c.fields_fit.ensures)

-- check 3 passes, and check 4 does not
pub returns-then-named_twice : goal.returns-then-named_twice
unfolding named_twice
returns-then-named_twice c =
    let g = c.args.genesis in
    let t = c.args.t in
    let fit : true ≡ fields_fit g t = sym c.if-not-fields_fit.false ∙ c.fields_fit.ensures in
    let twice : true ≡ named_twice t = sym c.if-named_twice.true ∙ c.named_twice.ensures in
    cause_4 g t fit twice

-- checks 3 and 4 pass, and the sums differ
pub returns-then-total : goal.returns-then-total
unfolding named_twice
returns-then-total c =
    let g = c.args.genesis in
    let t = c.args.t in
    let fit : true ≡ fields_fit g t = sym c.if-not-fields_fit.false ∙ c.fields_fit.ensures in
    let once : false ≡ named_twice t = sym c.if-named_twice.false ∙ c.named_twice.ensures in
    cause_5 g t fit once c.total.ensures c.total-2.ensures c.if-total.true

-- all three checks pass
pub returns : goal.returns
unfolding named_twice
returns c =
    let g = c.args.genesis in
    let t = c.args.t in
    let fit : true ≡ fields_fit g t = sym c.if-not-fields_fit.false ∙ c.fields_fit.ensures in
    let once : false ≡ named_twice t = sym c.if-named_twice.false ∙ c.named_twice.ensures in
    cause_0 g t fit once c.total.ensures c.total-2.ensures c.if-total.false
