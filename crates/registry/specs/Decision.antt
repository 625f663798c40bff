-- What the votes of some of a transaction's shards decide.
use Rattle.std.specs.Prelude.{ℕ, true, false, cond, Some, None, List}
use Rattle.transaction.specs.Lists.{any, all}
use Rattle.model.specs.declared.Outcome.{Outcome}
use Rattle.model.specs.declared.Outcome.TheVariants.{Wait, Commit, Abort}
use Rattle.model.specs.Said.{Said}
use Rattle.model.specs.Steps.{is_yes, is_no}

-- the decision of one shard, by what is heard from it
abbrev pub by_said : Said → Outcome
by_said None = Wait
by_said (Some true) = Commit
by_said (Some false) = Abort

-- the decision if these were all its shards
abbrev pub decision_of : List Said → List ℕ → Outcome
decision_of heard shards = cond (any (is_no heard) shards) Abort (cond (all (is_yes heard) shards) Commit Wait)

-- what two lots of shards decide together: abort if one does, commit if both do
abbrev pub together : Outcome → Outcome → Outcome
together Abort b = Abort
together Commit b = b
together Wait Abort = Abort
together Wait Commit = Wait
together Wait Wait = Wait
