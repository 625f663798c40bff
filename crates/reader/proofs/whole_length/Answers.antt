use Rattle.std.proofs.Common.{sym, ◌∙◌}
use borrow.Author.Tests.{eqb-true, eqb-false}
use Rattle.reader.proofs.Cases.{head-empty, head-unknown, head-short, head-whole, taken_found}
use Rattle.reader.proofs.whole_length.Goals as goal

-- there are no bytes
pub returns-then-is_empty : goal.returns-then-is_empty
returns-then-is_empty c = sym (head-empty c.args.bytes.now (eqb-true _ _ (sym c.is_empty.ensures ∙ c.if-is_empty.true)))

-- the kind has no body
pub returns-in_default : goal.returns-in_default
returns-in_default c =
    let some = eqb-false _ _ (sym c.is_empty.ensures ∙ c.if-is_empty.false) in
    sym (head-unknown c.args.bytes.now some (sym c.in_default.is ∙ c.body_length.ensures))

-- there are fewer bytes than the kind's length
pub returns-then-bytes-body : goal.returns-then-bytes-body
returns-then-bytes-body c =
    let some = eqb-false _ _ (sym c.is_empty.ensures ∙ c.if-is_empty.false) in
    sym (head-short c.args.bytes.now some (sym c.in-Some.is ∙ c.body_length.ensures) c.if-bytes-body.true)

-- a whole record stands at the front
pub returns : goal.returns
returns c =
    let some = eqb-false _ _ (sym c.is_empty.ensures ∙ c.if-is_empty.false) in
    let body = sym c.in-Some.is ∙ c.body_length.ensures in
    let head = sym (head-whole c.args.bytes.now some body c.if-bytes-body.false) in
    (head, taken_found c.args.bytes.now head body)
