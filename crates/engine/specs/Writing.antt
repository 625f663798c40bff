-- A writer's answer as one number, and the lent bytes afterwards.
use Rattle.std.specs.Prelude.{ℕ, ◌*◌, ◌≡◌, Result, Ok, Err, List, length}
use Rattle.transaction.specs.declared.refusal.Refusal.{Refusal}
use Rattle.transaction.specs.Refusals.{refusal_number, answer_of}
use Rattle.writer.specs.Writing.{lent_after}

-- the number of bytes written, or 1000 times the refusal's number
unfoldable pub code_of : Result ℕ Refusal → ℕ
code_of (Ok size) = size
code_of (Err refusal) = 1000 * refusal_number refusal

-- what an exported writer promises, by the first check that fits (ok for none) and the record's bytes
pub record Encodes (cause : Result Unit Refusal) (bytes before : List ℕ) (answer : ℕ) (after : List ℕ) : Type 0 where
  pub answered : answer ≡ code_of (answer_of cause (length bytes))
  pub lent : after ≡ lent_after cause bytes before
