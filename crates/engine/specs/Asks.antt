-- A list of calls on one cluster as a planner makes them, with any words and any bytes: which calls of the reference
-- model they stand for, and the numbers that answer them. The theorem `planner_demand_3` (proofs/Demand.antt) speaks of
-- these.
use Rattle.std.specs.Prelude.{ℕ, Result, Ok, Err, List, [], ◌∷◌}
use Rattle.transaction.specs.declared.Transaction.{Transaction}
use Rattle.transaction.specs.declared.refusal.Refusal.{Refusal}
use Rattle.transaction.specs.Refusals.{refusal_number}
use Rattle.reader.specs.declared.Record.{Record}
use Rattle.reader.specs.Reading.{reading_of}
use Rattle.model.specs.Answers.{Answer}
use Rattle.model.specs.Shard.{Call, mint, register, deliver, turn}
use Rattle.calls.specs.Calls.{call_of}
use Rattle.words.specs.Words.{byte_of, transaction_from}
use Rattle.engine.specs.Codes.{answer_code}

-- plankeeper_mint (an opening), _register, _deliver (a vote), _turn, each with its words in order, and _apply with its bytes
pub data Ask : Type 0 where
  mints : (receiver index owner amount : ℕ) → Ask
  registers : (receiver : ℕ) (transaction : List ℕ) → Ask
  delivers : (receiver sender verdict : ℕ) (transaction : List ℕ) → Ask
  turns : (receiver : ℕ) → Ask
  applies : (bytes : List ℕ) → Ask

-- what is asked for: a call; or none, because the record at the front of the bytes is refused with 1 to 5
pub data Meant : Type 0 where
  refusal : (cause : Refusal) → Meant
  asked : (call : Call) → Meant

unfoldable pub record_means : Result Record Refusal → Transaction → Meant
record_means (Ok fields) t = asked (call_of fields t)
record_means (Err cause) t = refusal cause

unfoldable pub means : Ask → Meant
means (mints receiver index owner amount) = asked (mint (byte_of receiver) (byte_of index) owner amount)
means (registers receiver words) = asked (register (byte_of receiver) (transaction_from words))
means (delivers receiver sender verdict words) =
    asked (deliver (byte_of receiver) (byte_of sender) (byte_of verdict) (transaction_from words))
means (turns receiver) = asked (turn (byte_of receiver))
means (applies bytes) = record_means (reading_of bytes).answer (reading_of bytes).transaction

-- all that is asked for, and the calls among it, in order
abbrev pub meant_by : List Ask → List Meant
meant_by [] = []
meant_by (ask ∷ asks) = means ask ∷ meant_by asks

abbrev pub calls_of : List Meant → List Call
calls_of [] = []
calls_of (refusal cause ∷ rest) = calls_of rest
calls_of (asked call ∷ rest) = call ∷ calls_of rest

-- the numbers returned: a refused record's own, and for a call the code of the next of the answers, of which there are
-- as many as calls
abbrev pub codes_of : List Meant → List Answer → List ℕ
codes_of [] answers = []
codes_of (refusal cause ∷ rest) answers = refusal_number cause ∷ codes_of rest answers
codes_of (asked call ∷ rest) [] = []
codes_of (asked call ∷ rest) (answer ∷ answers) = answer_code answer ∷ codes_of rest answers
