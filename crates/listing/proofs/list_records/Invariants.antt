use Rattle.std.proofs.Common.{◌-◌, length}
use Rattle.cluster.specs.View.{view}
use Rattle.listing.specs.Buffers.{run_of}
use Rattle.listing.proofs.Running.{Reached}
use Rattle.listing.proofs.list_records.Given as goal

-- running on from here gives what the whole run gives
abbrev pub invariant-loop-c : goal.invariant-loop-c
invariant-loop-c l =
    let whole = run_of (view l.fn.c) l.number l.bytes l.wanted (length l.fn.out) in
    Reached l.bytes l.fn.out l.wanted whole l.c l.out l.so_far.number l.so_far.taken l.so_far.used l.so_far.ends

abbrev pub decreases-loop-c : goal.decreases-loop-c
decreases-loop-c l = length l.bytes - l.so_far.taken
