use Rattle.std.proofs.Common.{refl}
use Rattle.probes.proofs.Sums.{within, start, turn, done}
use Rattle.probes.proofs.votes.probe_read_votes.Goals as goal

pub loop-init : goal.loop-init
loop-init c = record { left = start c.args.bytes.now c.args.records }

-- The record just read ends within the bytes.
pub next_place-at-requires : goal.next_place-at-requires
next_place-at-requires c = within c.args.bytes.now c.loop.at c.loop.invariant.left.place c.read-reading.ensures

pub loop-preserved : goal.loop-preserved
loop-preserved c =
    let loop = c.loop in
    record {
      left =
          turn c.args.bytes.now c.args.records loop.sum loop.at loop.counter loop.invariant.left c.loop-test.true
          c.read-reading.ensures c.worth-sum.ensures refl c.next_place-at.ensures;
    }

pub returns : goal.returns
returns c =
    let loop = c.loop in
    done c.args.bytes.now c.args.records loop.sum loop.at loop.counter loop.invariant.left c.loop-test.false
