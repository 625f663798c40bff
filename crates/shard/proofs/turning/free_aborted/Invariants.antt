use Rattle.shard.proofs.Freed.{Freeing}
use Rattle.shard.proofs.turning.free_aborted.Given as goal

-- What is pledged to the aborted ones of the first known transactions is free.
abbrev pub invariant-loop-place : goal.invariant-loop-place
invariant-loop-place l = Freeing l.fn.s l.place-end l.place l.s
