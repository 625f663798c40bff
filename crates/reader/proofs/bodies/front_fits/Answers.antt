use Rattle.std.proofs.Common.{arith}
use Rattle.reader.proofs.Cases.{front_long}
use Rattle.reader.proofs.bodies.front_fits.Goals as goal

-- The fields in front are there, and a transaction behind them.
pub bounds-bytes-1 : goal.bounds-bytes-1
bounds-bytes-1 c = omega (arith, front_long c.args.bytes.now c.requires.0 c.requires.1)

pub bounds-bytes-2 : goal.bounds-bytes-2
bounds-bytes-2 c = omega (arith, front_long c.args.bytes.now c.requires.0 c.requires.1)

pub bounds-bytes-3 : goal.bounds-bytes-3
bounds-bytes-3 c = omega (arith, front_long c.args.bytes.now c.requires.0 c.requires.1)
