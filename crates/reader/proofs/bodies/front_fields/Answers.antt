use Rattle.std.proofs.Common.{arith, sym}
use Rattle.reader.proofs.Cases.{front_long, second-kind, record_1, record_2}
use Rattle.reader.proofs.bodies.front_fields.Goals as goal

-- The fields in front are there, and a transaction behind them.
pub bounds-bytes-1 : goal.bounds-bytes-1
bounds-bytes-1 c = omega (arith, front_long c.args.bytes.now c.requires.0 c.requires.1)

pub bounds-bytes-2 : goal.bounds-bytes-2
bounds-bytes-2 c = omega (arith, front_long c.args.bytes.now c.requires.0 c.requires.1)

pub bounds-bytes-3 : goal.bounds-bytes-3
bounds-bytes-3 c = omega (arith, front_long c.args.bytes.now c.requires.0 c.requires.1)

-- kind 1
pub returns-then-bytes-eq1 : goal.returns-then-bytes-eq1
returns-then-bytes-eq1 c = sym (record_1 c.args.bytes.now c.requires.0 c.if-bytes-eq1.true)

-- kind 2, since it is not kind 1
pub returns : goal.returns
returns c =
    let l = c.args.bytes.now in
    let second = second-kind l c.requires.0 c.requires.1 c.if-bytes-eq1.false in
    sym (record_2 l c.requires.0 second)
