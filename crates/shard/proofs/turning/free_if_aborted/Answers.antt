use Rattle.std.proofs.Common.{◌≡◌, false, refl}
use Rattle.model.specs.declared.Outcome.{Outcome}
use Rattle.model.specs.declared.Outcome.TheVariants.{Wait, Commit, Abort}
use Rattle.model.specs.Steps.{is_aborted}
use Rattle.shard.proofs.Freed.{lives_frees}
use Rattle.shard.proofs.turning.free_if_aborted.Goals as goal
use Rattle.shard.proofs.turning.free_if_aborted.Goals.{in-Abort, in_default}

-- What is not aborted frees nothing.
lives : (decided : Outcome) → (decided ≡ Abort → ⊥) → is_aborted decided ≡ false
lives Abort n = absurd (n refl)
lives Wait n = refl
lives Commit n = refl

pub returns-else-matches : goal.returns-else-matches
returns-else-matches c =
    elim c.match-matches.branch [
      | in-Abort w ↦ absurd (cc)
      | in_default w ↦
          lives_frees c.args.s.now c.args.place c.outcome_at.ensures (lives c.outcome_at.result w.in_default.not-Abort) c.requires.0
    ]
