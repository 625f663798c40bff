use Rattle.std.proofs.Common.{ℕ, ◌≡◌, ◌-◌, arith, ap, ◌∙◌}
use Rattle.reader.specs.Layout.{transaction_at}
use Rattle.reader.specs.Reading.{transaction_in}
use Rattle.reader.proofs.Cases.{
  whole,
  first_kinds,
  size-within,
  transaction-last,
  taken-within,
  front_fails,
  front-passes,
  reading_none,
  reading_good,
  reading_bad,
  reads,
}
use Rattle.reader.proofs.read.Goals as goal

-- no whole record stands at the front
pub returns-in-Err : goal.returns-in-Err
returns-in-Err c = reads c.args.bytes.now (c.refused.ensures ∙ reading_none c.args.bytes.now c.in-Err.ensures)

-- a whole record stands at the front: its first byte is there
pub bounds-bytes-0 : goal.bounds-bytes-0
bounds-bytes-0 c = omega (arith, whole c.args.bytes.now c.in-Ok.ensures.0)

-- kind 3 or 4
pub returns-then-bytes-gt2 : goal.returns-then-bytes-gt2
returns-then-bytes-gt2 c = reads c.args.bytes.now c.read_bare.ensures

-- kind 1 or 2
pub front_fits-requires : goal.front_fits-requires
front_fits-requires c =
    let head = c.in-Ok.ensures.0 in
    (head, first_kinds c.args.bytes.now head c.if-bytes-gt2.false)

-- one of the fields in front is out of range
pub returns-then-not-front_fits : goal.returns-then-not-front_fits
returns-then-not-front_fits c =
    let l = c.args.bytes.now in
    let head = c.in-Ok.ensures.0 in
    let kinds = first_kinds l head c.if-bytes-gt2.false in
    let front = front_fails l head kinds c.front_fits.ensures c.if-not-front_fits.true in
    reads l (c.refused-then-not-front_fits.ensures ∙ reading_bad l head front c.in-Ok.ensures.1)

-- the record is long enough for a transaction
pub overflow_sub-size : goal.overflow_sub-size
overflow_sub-size c =
    let l = c.args.bytes.now in
    let head = c.in-Ok.ensures.0 in
    omega (arith, size-within l head (first_kinds l head c.if-bytes-gt2.false), c.in-Ok.ensures.1)

pub transaction_at-transaction-requires : goal.transaction_at-transaction-requires
transaction_at-transaction-requires c =
    let l = c.args.bytes.now in
    let head = c.in-Ok.ensures.0 in
    omega (arith, size-within l head (first_kinds l head c.if-bytes-gt2.false), taken-within l, c.in-Ok.ensures.1)

-- the fields in front pass, and one of the transaction's checks does not
pub returns-in-Err-cause : goal.returns-in-Err-cause
returns-in-Err-cause c =
    let l = c.args.bytes.now in
    let head = c.in-Ok.ensures.0 in
    let kinds = first_kinds l head c.if-bytes-gt2.false in
    let place = ap (λ (n : ℕ). transaction_at l (n - 98)) c.in-Ok.ensures.1 in
    let there : c.transaction_at-transaction.result ≡ transaction_in l =
    c.transaction_at-transaction.ensures ∙ place ∙ transaction-last l head kinds in
    let checked = front-passes l head kinds c.front_fits.ensures c.if-not-front_fits.false there c.cause.ensures in
    reads l (c.refused-in-Err-cause.ensures ∙ reading_bad l head (checked ∙ c.in-Err-cause.is) c.in-Ok.ensures.1)

-- kind 1 or 2
pub front_fields-requires : goal.front_fields-requires
front_fields-requires c =
    let head = c.in-Ok.ensures.0 in
    (head, first_kinds c.args.bytes.now head c.if-bytes-gt2.false)

-- all checks pass
pub returns : goal.returns
returns c =
    let l = c.args.bytes.now in
    let head = c.in-Ok.ensures.0 in
    let kinds = first_kinds l head c.if-bytes-gt2.false in
    let place = ap (λ (n : ℕ). transaction_at l (n - 98)) c.in-Ok.ensures.1 in
    let there : c.transaction_at-transaction.result ≡ transaction_in l =
    c.transaction_at-transaction.ensures ∙ place ∙ transaction-last l head kinds in
    let checked = front-passes l head kinds c.front_fits.ensures c.if-not-front_fits.false there c.cause.ensures in
    reads l (reading_good l head (checked ∙ c.in_default.is) c.front_fields.ensures there c.in-Ok.ensures.1)
