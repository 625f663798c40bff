use Rattle.std.proofs.Common.{sym, ◌∙◌}
use Rattle.transaction.specs.Checks.{counts_fit}
use Rattle.transaction.proofs.Causes.{fit-counts, fit-inputs, fit-outputs}
use Rattle.transaction.proofs.fields.fields_fit.Goals as goal

-- the number and the counts do not pass
pub returns-then-not-counts_fit : goal.returns-then-not-counts_fit
unfolding counts_fit
returns-then-not-counts_fit c =
    fit-counts c.args.genesis c.args.t (sym c.if-not-counts_fit.true ∙ c.counts_fit.ensures)

-- all inputs pass, so that the outputs decide
pub returns-then-slots_fit : goal.returns-then-slots_fit
unfolding counts_fit
returns-then-slots_fit c =
    fit-outputs c.args.genesis c.args.t (sym c.if-not-counts_fit.false ∙ c.counts_fit.ensures)
    (sym c.if-slots_fit.true ∙ c.slots_fit.ensures) c.slots_fit-then-slots_fit.ensures

-- an input does not pass
pub returns-else-slots_fit : goal.returns-else-slots_fit
unfolding counts_fit
returns-else-slots_fit c =
    c.if-slots_fit.false
    ∙ fit-inputs c.args.genesis c.args.t (sym c.if-not-counts_fit.false ∙ c.counts_fit.ensures)
    (sym c.if-slots_fit.false ∙ c.slots_fit.ensures)
