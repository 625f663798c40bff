use Rattle.std.proofs.Common.{◌-◌, length, drop, arith, length-drop}
use lib.Seq.{take_all}
use Rattle.reader.specs.Reading.{taken_of, rest_of}
use Rattle.reader.proofs.Cases.{taken-within}
use Rattle.reader.proofs.rest.Goals as goal

-- what the record takes is within the bytes
pub slice_bounds-result-count : goal.slice_bounds-result-count
slice_bounds-result-count c = omega (arith, taken-within c.args.bytes.now)

pub slice_bounds-result-start : goal.slice_bounds-result-start
slice_bounds-result-start c = omega (arith, taken-within c.args.bytes.now)

-- the part from the taken bytes to the end is all that is behind them
pub returns : goal.returns
unfolding rest_of
returns c =
    let l = c.args.bytes.now in
    let taken = taken_of l in
    let behind = take_all (length l - taken) (drop taken l) (rw (length-drop taken l) (omega arith)) in
    rw c.taken.ensures behind
