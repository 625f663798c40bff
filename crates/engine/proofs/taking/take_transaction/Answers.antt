-- What is found of the number and the counts, of the inputs and of the outputs is what the parts of check 3 say of the
-- transaction there. Where all of it passes, its words are stored part by part, and the last two checks decide.
use Rattle.std.proofs.Common.{◌≡◌, ◌+◌, [], ◌∷◌, refl, sym, ◌∙◌, arith}
use Rattle.transaction.specs.Checks.{house_genesis, fields_fit}
use Rattle.transaction.proofs.Causes.{fit-counts, fit-inputs, cause_3}
use Rattle.reader.specs.Layout.{byte_at, transaction_at}
use Rattle.shard.proofs.Tables.{passed_on}
use Rattle.engine.proofs.Taken.{part-sets, refuses, counts_of, inputs-of, outputs-of, transaction-run}
use Rattle.engine.proofs.taking.take_transaction.Goals as goal
use Rattle.engine.proofs.taking.take_transaction.Goals.{After-take_slots-2}

-- the counts and the inputs pass, so that the outputs decide check 3
fields : (c : After-take_slots-2)
    → c.take_slots-2.result ≡ fields_fit house_genesis (transaction_at c.args.bytes.now c.args.at)
fields c =
    let l = c.args.bytes.now in
    let at = c.args.at in
    let within = sym c.in_ok-in_range.ensures ∙ counts_of l at c.word_at-number.ensures c.counts_fit.ensures in
    let ins = sym c.in_ok-in_range-2.ensures ∙ inputs-of l at c.take_slots.ensures.answered in
    outputs-of l at within ins c.take_slots-2.ensures.answered

pub returns-in_err-in_range : goal.returns-in_err-in_range
returns-in_err-in_range c =
    let l = c.args.bytes.now in
    let at = c.args.at in
    let t = transaction_at l at in
    let fails = sym c.in_err-in_range.ensures.0 ∙ counts_of l at c.word_at-number.ensures c.counts_fit.ensures in
    rw (passed_on c.from_residual.result c.from_residual.ensures.1, c.in_err-in_range.ensures.1)
    (refuses l at c.args.fields.now (cause_3 house_genesis t (fit-counts house_genesis t fails)))

pub returns-in_err-in_range-2 : goal.returns-in_err-in_range-2
returns-in_err-in_range-2 c =
    let l = c.args.bytes.now in
    let at = c.args.at in
    let t = transaction_at l at in
    let within = sym c.in_ok-in_range.ensures ∙ counts_of l at c.word_at-number.ensures c.counts_fit.ensures in
    let fails = sym c.in_err-in_range-2.ensures.0 ∙ inputs-of l at c.take_slots.ensures.answered in
    rw (passed_on c.from_residual-in_err-in_range-2.result c.from_residual-in_err-in_range-2.ensures.1, c.in_err-in_range-2.ensures.1)
    (refuses l at c.args.fields.now (cause_3 house_genesis t (fit-inputs house_genesis t within fails)))

pub returns-in_err-in_range-3 : goal.returns-in_err-in_range-3
returns-in_err-in_range-3 c =
    let l = c.args.bytes.now in
    let at = c.args.at in
    let outs = (goal.at.returns-in_err-in_range-3 c).After-take_slots-2 in
    let three = cause_3 house_genesis (transaction_at l at) (sym c.in_err-in_range-3.ensures.0 ∙ fields outs) in
    rw (passed_on c.from_residual-in_err-in_range-3.result c.from_residual-in_err-in_range-3.ensures.1, c.in_err-in_range-3.ensures.1)
    (refuses l at c.args.fields.now three)

pub returns : goal.returns
unfolding transaction_at
returns c =
    let l = c.args.bytes.now in
    let at = c.args.at in
    let outs = (goal.at.returns c).After-take_slots-2 in
    let fit = sym c.in_ok-in_range-3.ensures ∙ fields outs in
    let words = c.copy_from_slice.ensures.after ∙ rw (c.from.ensures, c.from-2.ensures) refl in
    let head = part-sets c.args.fields.now 7 3 c.copy_from_slice.new.self (c.word_at-number.result ∷ byte_at l (at + 4) ∷ byte_at l (at + 5) ∷ [])
    words refl (omega (arith, c.told-fields)) in
    record {
      answered = c.last_cause.ensures.answered (transaction_at l at) refl refl refl fit;
      stored = λ _.
          transaction-run l at c.args.fields.now c.word_at-number.ensures head
          (c.take_slots.ensures.stored c.in_ok-in_range-2.ensures)
          (c.take_slots-2.ensures.stored c.in_ok-in_range-3.ensures);
    }
