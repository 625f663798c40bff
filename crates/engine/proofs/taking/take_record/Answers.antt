-- The front of a record and a transaction behind it are there; the front is checked, stored, and the transaction taken behind it.
use Rattle.std.proofs.Common.{sym, ◌∙◌, arith}
use Rattle.reader.specs.declared.Record.TheVariants.{Register, Vote}
use Rattle.reader.specs.Layout.{byte_at}
use Rattle.reader.proofs.Cases.{front_long, long_2, second-kind, record_1, record_2, transaction_1, transaction_2, front_fails}
use Rattle.shard.proofs.Tables.{passed_on}
use Rattle.engine.specs.Fields.{record_words}
use Rattle.engine.proofs.Taken.{part-sets, length_front, takes_record}
use Rattle.engine.proofs.taking.take_record.Goals as goal

pub returns-in_err-in_range : goal.returns-in_err-in_range
returns-in_err-in_range c =
    let three = front_fails c.args.bytes.now c.requires.0 c.requires.1 c.front_fits.ensures c.in_err-in_range.ensures.0 in
    rw (passed_on c.from_residual.result c.from_residual.ensures.1, c.in_err-in_range.ensures.1)
    (record { answered = sym three; stored = λ none. absurd cc })

pub bounds-bytes-1 : goal.bounds-bytes-1
bounds-bytes-1 c = omega (arith, front_long c.args.bytes.now c.requires.0 c.requires.1)

pub take_transaction-requires : goal.take_transaction-requires
take_transaction-requires c = omega (arith, front_long c.args.bytes.now c.requires.0 c.requires.1)

pub returns-then-bytes-eq-REGISTER : goal.returns-then-bytes-eq-REGISTER
returns-then-bytes-eq-REGISTER c =
    let l = c.args.bytes.now in
    let h = c.requires.0 in
    let one = c.if-bytes-eq-REGISTER.true in
    let front = part-sets c.args.fields.now 0 7 c.copy_from_slice.new.self (record_words (Register (byte_at l 1)))
    (c.copy_from_slice.ensures.after ∙ c.record_words.ensures) (length_front (Register (byte_at l 1))) (omega (arith, c.told-fields)) in
    takes_record l h c.requires.1 c.front_fits.ensures c.in_ok-in_range.ensures
    c.args.fields.now c.told-fields 2 (Register (byte_at l 1))
    (sym (transaction_1 l h one)) (sym (record_1 l h one))
    front c.take_transaction.ensures

pub bounds-bytes-1-2 : goal.bounds-bytes-1-2
bounds-bytes-1-2 c = omega (arith, front_long c.args.bytes.now c.requires.0 c.requires.1)

pub bounds-bytes-2 : goal.bounds-bytes-2
bounds-bytes-2 c = omega (arith, front_long c.args.bytes.now c.requires.0 c.requires.1)

pub bounds-bytes-3 : goal.bounds-bytes-3
bounds-bytes-3 c = omega (arith, front_long c.args.bytes.now c.requires.0 c.requires.1)

-- a kind that is not 1 is 2
pub take_transaction-requires-2 : goal.take_transaction-requires-2
take_transaction-requires-2 c =
    let l = c.args.bytes.now in
    let h = c.requires.0 in
    omega (arith, long_2 l h (second-kind l h c.requires.1 c.if-bytes-eq-REGISTER.false))

pub returns : goal.returns
returns c =
    let l = c.args.bytes.now in
    let h = c.requires.0 in
    let two = second-kind l h c.requires.1 c.if-bytes-eq-REGISTER.false in
    let vote = Vote (byte_at l 1) (byte_at l 2) (byte_at l 3) in
    let front = part-sets c.args.fields.now 0 7 c.copy_from_slice-2.new.self (record_words vote)
    (c.copy_from_slice-2.ensures.after ∙ c.record_words-2.ensures) (length_front vote) (omega (arith, c.told-fields)) in
    takes_record l h c.requires.1 c.front_fits.ensures c.in_ok-in_range.ensures
    c.args.fields.now c.told-fields 4 (Vote (byte_at l 1) (byte_at l 2) (byte_at l 3))
    (sym (transaction_2 l h two)) (sym (record_2 l h two))
    front c.take_transaction-2.ensures
