use Rattle.std.proofs.Common.{◌≡◌, Result, Ok, Err, MatchResult, ℕ, List, length, sym, ◌∙◌}
use Rattle.std.specs.Result.{result_unwrap_or}
use Rattle.transaction.specs.declared.refusal.Refusal.{Refusal}
use Rattle.reader.specs.Reading.{head_cause, taken_of}
use Rattle.reader.proofs.Cases.{taken-all}
use Rattle.reader.proofs.taken.Goals as goal

-- a whole record's length, and all of the bytes where there is none
taken-either : (l : List ℕ) (found : Result ℕ Refusal)
    → MatchResult found (λ size. (head_cause l ≡ Ok tt) × (size ≡ taken_of l)) (λ cause. head_cause l ≡ Err cause)
    → result_unwrap_or found (length l) ≡ taken_of l
taken-either l (Ok size) h = h.1
taken-either l (Err cause) h = sym (taken-all l h)

pub returns : goal.returns
returns c = c.unwrap_or.ensures ∙ taken-either c.args.bytes.now _ c.whole_length.ensures
