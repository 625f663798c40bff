use Rattle.std.proofs.Common.{refl, arith}
use Rattle.listing.proofs.Running.{reached_end, reached_next, taken-part, taken-one}
use Rattle.listing.proofs.list_records.Goals as goal

-- A record takes some of the bytes that are left, and one at least.
pub loop-c-smaller : goal.loop-c-smaller
loop-c-smaller c =
    let here = c.loop-c.invariant in
    let some = taken-part here c.goes_on.ensures c.loop-c-test.true c.step-line.ensures in
    let one = taken-one here c.goes_on.ensures c.loop-c-test.true c.step-line.ensures in
    omega (arith, some, one)

-- A turn goes one record further.
pub loop-c-preserved : goal.loop-c-preserved
loop-c-preserved c = reached_next c.loop-c.invariant c.goes_on.ensures c.loop-c-test.true c.step-line.ensures

-- Where the test fails, the whole run stops too.
pub returns : goal.returns
returns c = reached_end c.loop-c.invariant c.goes_on.ensures c.args.c.now c.args.number refl c.loop-c-test.false
