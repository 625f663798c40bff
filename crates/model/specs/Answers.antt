-- For each answer that is an enum, document 01's number and words for every case of it. Words are bytes in capitals.
use Rattle.std.specs.Prelude.{ℕ, Result, Ok, Err, Bool, true, false, cond, List, [], ◌∷◌}
use Rattle.model.specs.declared.Outcome.{Outcome}
use Rattle.model.specs.declared.Outcome.TheVariants.{Wait, Commit, Abort}
use Rattle.model.specs.declared.Finding.{Finding}
use Rattle.model.specs.declared.Finding.TheVariants.{Available, NotHeld, OtherOwner, OtherAmount, Pledged}
use Rattle.model.specs.declared.Findings.{Findings}
use Rattle.model.specs.declared.Done.{Done}
use Rattle.model.specs.declared.Done.TheVariants.{Minted, Registered, Heard, Again, Turned, Brought}
use Rattle.transaction.specs.declared.refusal.Refusal.{Refusal}
use Rattle.transaction.specs.Refusals.{refusal_number}

-- what a call answers: what it did, or why it is refused
abbrev pub Answer : Type 0
Answer = Result Done Refusal

-- the table's number, 0 where the call was carried out
abbrev pub number_of : Answer → ℕ
number_of (Err refusal) = refusal_number refusal
number_of (Ok done) = 0

-- was the call carried out
abbrev pub carried_out : Answer → Bool
carried_out (Err refusal) = false
carried_out (Ok done) = true

-- was a transaction registered, by a registration or by a vote that brought it (document 02, 6)
abbrev pub registers : Answer → Bool
registers (Err refusal) = false
registers (Ok Minted) = false
registers (Ok (Registered verdict outcome)) = true
registers (Ok (Heard outcome)) = false
registers (Ok (Again outcome)) = false
registers (Ok Turned) = false
registers (Ok (Brought verdict outcome)) = true

-- WAIT, COMMIT, ABORT
abbrev pub outcome_word : Outcome → List ℕ
outcome_word Wait = 87 ∷ 65 ∷ 73 ∷ 84 ∷ []
outcome_word Commit = 67 ∷ 79 ∷ 77 ∷ 77 ∷ 73 ∷ 84 ∷ []
outcome_word Abort = 65 ∷ 66 ∷ 79 ∷ 82 ∷ 84 ∷ []

-- YES, NO
abbrev pub verdict_word : Bool → List ℕ
verdict_word verdict = cond verdict (89 ∷ 69 ∷ 83 ∷ []) (78 ∷ 79 ∷ [])

-- REFUSED (its number follows); OPENED; YES or NO and then an outcome, for a registration and for a vote that brought its transaction;
-- HEARD (fresh) or AGAIN (repeat) and then an outcome; TURNED
abbrev pub answer_words : Answer → List (List ℕ)
answer_words (Err refusal) = (82 ∷ 69 ∷ 70 ∷ 85 ∷ 83 ∷ 69 ∷ 68 ∷ []) ∷ []
answer_words (Ok Minted) = (79 ∷ 80 ∷ 69 ∷ 78 ∷ 69 ∷ 68 ∷ []) ∷ []
answer_words (Ok (Registered verdict outcome)) = verdict_word verdict ∷ outcome_word outcome ∷ []
answer_words (Ok (Heard outcome)) = (72 ∷ 69 ∷ 65 ∷ 82 ∷ 68 ∷ []) ∷ outcome_word outcome ∷ []
answer_words (Ok (Again outcome)) = (65 ∷ 71 ∷ 65 ∷ 73 ∷ 78 ∷ []) ∷ outcome_word outcome ∷ []
answer_words (Ok Turned) = (84 ∷ 85 ∷ 82 ∷ 78 ∷ 69 ∷ 68 ∷ []) ∷ []
answer_words (Ok (Brought verdict outcome)) = verdict_word verdict ∷ outcome_word outcome ∷ []

-- ---- Findings (document 02, 2)

-- a finding's number
abbrev pub finding_number : Finding → ℕ
finding_number Available = 1
finding_number NotHeld = 2
finding_number OtherOwner = 3
finding_number OtherAmount = 4
finding_number (Pledged number) = 5

-- the number of the pledging transaction, 0 where the finding is another
abbrev pub pledging_number : Finding → ℕ
pledging_number Available = 0
pledging_number NotHeld = 0
pledging_number OtherOwner = 0
pledging_number OtherAmount = 0
pledging_number (Pledged number) = number

-- its words, one by one: available; not held; other household; other portions; pledged
abbrev pub finding_words : Finding → List (List ℕ)
finding_words Available = (97 ∷ 118 ∷ 97 ∷ 105 ∷ 108 ∷ 97 ∷ 98 ∷ 108 ∷ 101 ∷ []) ∷ []
finding_words NotHeld = (110 ∷ 111 ∷ 116 ∷ []) ∷ (104 ∷ 101 ∷ 108 ∷ 100 ∷ []) ∷ []
finding_words OtherOwner = (111 ∷ 116 ∷ 104 ∷ 101 ∷ 114 ∷ []) ∷ (104 ∷ 111 ∷ 117 ∷ 115 ∷ 101 ∷ 104 ∷ 111 ∷ 108 ∷ 100 ∷ []) ∷ []
finding_words OtherAmount = (111 ∷ 116 ∷ 104 ∷ 101 ∷ 114 ∷ []) ∷ (112 ∷ 111 ∷ 114 ∷ 116 ∷ 105 ∷ 111 ∷ 110 ∷ 115 ∷ []) ∷ []
finding_words (Pledged number) = (112 ∷ 108 ∷ 101 ∷ 100 ∷ 103 ∷ 101 ∷ 100 ∷ []) ∷ []

-- is it 'available'
abbrev pub is_available : Finding → Bool
is_available Available = true
is_available NotHeld = false
is_available OtherOwner = false
is_available OtherAmount = false
is_available (Pledged number) = false

-- what the call for the findings answers: the findings, or why it is refused
abbrev pub Report : Type 0
Report = Result Findings Refusal

-- its refusal's number, and how many findings there are
abbrev pub told_number : Report → ℕ
told_number (Err refusal) = refusal_number refusal
told_number (Ok found) = 0

abbrev pub told_count : Report → ℕ
told_count (Err refusal) = 0
told_count (Ok found) = found.count
