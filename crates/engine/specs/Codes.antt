-- An answer as one number.
use Rattle.std.specs.Prelude.{ℕ, ◌+◌, ◌*◌, Bool, Ok, Err}
use Rattle.words.specs.Words.{yes}
use Rattle.model.specs.declared.Outcome.{Outcome}
use Rattle.model.specs.declared.Outcome.TheVariants.{Wait, Commit, Abort}
use Rattle.model.specs.declared.Done.TheVariants.{Minted, Registered, Heard, Again, Turned, Brought}
use Rattle.model.specs.Answers.{Answer, Report}
use Rattle.transaction.specs.Refusals.{refusal_number}

-- what is decided here so far
unfoldable pub outcome_code : Outcome → ℕ
outcome_code Wait = 0
outcome_code Commit = 1
outcome_code Abort = 2

-- the shard's own verdict and what is decided here so far
abbrev pub voted_code : Bool → Outcome → ℕ
voted_code verdict outcome = 10 * yes verdict + outcome_code outcome

-- A refusal's own number (all of them are below 100); a genesis token given (an opening); a registration with
-- the shard's own verdict; a fresh vote; a repeat; a turn; a vote that brought its transaction, with the shard's own verdict.
unfoldable pub answer_code : Answer → ℕ
answer_code (Err refusal) = refusal_number refusal
answer_code (Ok Minted) = 100
answer_code (Ok (Registered verdict outcome)) = 200 + voted_code verdict outcome
answer_code (Ok (Heard outcome)) = 300 + outcome_code outcome
answer_code (Ok (Again outcome)) = 400 + outcome_code outcome
answer_code (Ok Turned) = 500
answer_code (Ok (Brought verdict outcome)) = 600 + voted_code verdict outcome

-- The answer to the call for the findings: a refusal's own number; 700, and how many findings there are.
unfoldable pub told_code : Report → ℕ
told_code (Err refusal) = refusal_number refusal
told_code (Ok found) = 700 + found.count
