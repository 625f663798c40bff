-- Document 01, 'The listing program', beside 'Any list of calls': which calls the bytes hold, and the lines that the
-- model's answers to them give. The theorem `listing_plays` (proofs/Play.antt) says that the whole text is made of
-- these.
use Rattle.std.specs.Prelude.{ℕ, zero, suc, ◌+◌, Result, Ok, Err, Bool, false, cond, List, [], ◌∷◌, ◌++◌, eqb, leb, length}
use Rattle.transaction.specs.declared.Transaction.{Transaction}
use Rattle.transaction.specs.declared.refusal.Refusal.{Refusal}
use Rattle.transaction.specs.Refusals.{refusal_number}
use Rattle.reader.specs.declared.Record.{Record}
use Rattle.reader.specs.Reading.{reading_of, rest_of}
use Rattle.model.specs.Answers.{Answer}
use Rattle.model.specs.Shard.{Call}
use Rattle.calls.specs.Calls.{call_of}
use Rattle.listing.specs.Lines.{line_of}
use Rattle.listing.specs.Listing.{receiver_of, answer_line}

-- what the reader makes of the bytes at a place: a refusal, or a receiving shard (pantry) and a call
pub data Item : Type 0 where
  refusal : Refusal → Item
  asked : ℕ → Call → Item

abbrev pub item_of : Result Record Refusal → Transaction → Item
item_of (Ok fields) t = asked (receiver_of fields) (call_of fields t)
item_of (Err cause) t = refusal cause

-- reading ends after 1 or 2
abbrev pub ends_reading : Item → Bool
ends_reading (refusal cause) = leb (refusal_number cause) 2
ends_reading (asked receiver call) = false

-- the item at the front of the bytes
unfoldable pub item_at : List ℕ → Item
item_at bytes = item_of (reading_of bytes).answer (reading_of bytes).transaction

-- the items of the bytes, each from the place where the one before it ended; each takes at least one byte, so that as
-- many turns as bytes are enough
unfoldable pub items_within : ℕ → List ℕ → List Item
items_within zero bytes = []
items_within (suc enough) bytes =
    cond (eqb (length bytes) 0)
    []
    (item_at bytes ∷ cond (ends_reading (item_at bytes)) [] (items_within enough (rest_of bytes)))

unfoldable pub items_of : List ℕ → List Item
items_of bytes = items_within (length bytes) bytes

-- the calls among them, in order
abbrev pub calls_of : List Item → List Call
calls_of [] = []
calls_of (refusal cause ∷ items) = calls_of items
calls_of (asked receiver call ∷ items) = call ∷ calls_of items

-- A line for each item, from a step on: a refusal's with "-", and a call's with the next of the answers, of which there
-- are as many as calls.
abbrev pub lines_of : ℕ → List Item → List Answer → List ℕ
lines_of step [] answers = []
lines_of step (refusal cause ∷ items) answers =
    line_of step (45 ∷ []) (Err cause) ++ lines_of (step + 1) items answers
lines_of step (asked receiver call ∷ items) [] = []
lines_of step (asked receiver call ∷ items) (answer ∷ answers) =
    answer_line step receiver answer ++ lines_of (step + 1) items answers
