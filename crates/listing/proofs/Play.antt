-- THE LISTING IS THE MODEL'S PLAY. For any bytes, the whole text is a line for each item that the reader makes of the
-- bytes, and then the TOTAL line: the lines' answers are the model's answers to the calls among the items, played from
-- the empty model, with the refused lines between them, and the total is what the eight shards hold after that play. So
-- whatever demand 3 says of `play` and `play_answers`, it says of the listing.
use Prim.Native.Nat.{ℕ, zero, suc, ◌+◌}
use mathlib.Core.Path.{◌≡◌, refl, sym}
use mathlib.Core.Bool.{Bool, true, false}
use mathlib.Core.List.{List, [], ◌∷◌, ◌++◌, append_assoc}
use lib.Dec.{eqb, leb}
use lib.ListN.{length}
use Rattle.std.specs.Prelude.{Result, Ok, Err}
use Rattle.transaction.specs.declared.refusal.Refusal.{Refusal}
use Rattle.transaction.specs.Refusals.{refusal_number}
use Rattle.reader.specs.declared.Record.{Record}
use Rattle.reader.specs.Reading.{reading_of, rest_of}
use Rattle.model.specs.Steps.{house}
use Rattle.model.specs.Shard.{Call}
use Rattle.model.specs.Model as model
use Rattle.model.specs.Model.{Model, empty_model, play, play_answers}
use Rattle.model.specs.Totals.{total_held}
use Rattle.calls.specs.Calls.{call_of}
use Rattle.listing.specs.Lines.{line_of, total_line}
use Rattle.listing.specs.Listing.{receiver_of, answer_line, shown_as, step_of, listing_within, listing_of}
use Rattle.listing.specs.Play.{Item, refusal, asked, item_at, items_within, items_of, calls_of, lines_of}

-- the text of items from a model, a place in the list of calls and a step on
unfoldable played : ℕ → Model → ℕ → List Item → List ℕ
played place before step items =
    lines_of step items (model.answers house place before (calls_of items))
    ++ total_line (total_held (model.after house place before (calls_of items)).shards)

module _ (place : ℕ) (before : Model) (step : ℕ) (items : List Item) where
  played-refusal : (cause : Refusal)
      → played place before step (refusal cause ∷ items)
      ≡ line_of step (45 ∷ []) (Err cause) ++ played place before (step + 1) items
  unfolding played
  played-refusal cause = append_assoc (line_of step (45 ∷ []) (Err cause)) _ _

  played-call : (receiver : ℕ) (call : Call)
      → played place before step (asked receiver call ∷ items)
      ≡ answer_line step receiver (model.step house place before call).1
      ++ played (suc place) (model.step house place before call).0 (step + 1) items
  unfolding played model.answers model.after
  played-call receiver call = append_assoc (answer_line step receiver (model.step house place before call).1) _ _

-- the listing from a model's ledgers is the text of the items
abbrev Same : ℕ → ℕ → Model → ℕ → List ℕ → Type 0
Same enough place before step bytes =
    listing_within enough before.shards step bytes ≡ played place before step (items_within enough bytes)

-- some bytes are left, and the listing behind the first record is the text of its items
module _ (enough place : ℕ) (before : Model) (step : ℕ) (bytes : List ℕ) (some : eqb (length bytes) 0 ≡ false)
    (further : (place : ℕ) (before : Model) → Same enough place before (step + 1) (rest_of bytes)) where
  by-refusal : (cause : Refusal) (b : Bool) → leb (refusal_number cause) 2 ≡ b → (reading_of bytes).answer ≡ Err cause
      → Same (suc enough) place before step bytes
  unfolding listing_within step_of shown_as items_within item_at played model.after
  by-refusal cause true e a = rw (some, a, e) (sym (played-refusal place before step [] cause))
  by-refusal cause false e a =
      rw (some, a, e, further place before)
      (sym (played-refusal place before step (items_within enough (rest_of bytes)) cause))

  by_answer : (a : Result Record Refusal) → (reading_of bytes).answer ≡ a → Same (suc enough) place before step bytes
  unfolding listing_within step_of shown_as items_within item_at model.step
  by_answer (Ok fields) a =
      let call = call_of fields (reading_of bytes).transaction in
      rw (some, a, further (suc place) (model.step house place before call).0)
      (sym (played-call place before step (items_within enough (rest_of bytes)) (receiver_of fields) call))
  by_answer (Err cause) a = by-refusal cause (leb (refusal_number cause) 2) refl a

-- from any model
from : (enough place : ℕ) (before : Model) (step : ℕ) (bytes : List ℕ) → Same enough place before step bytes
unfolding listing_within items_within played model.answers model.after
from zero place before step bytes = refl
from (suc enough) place before step bytes =
    go (eqb (length bytes) 0) refl (λ place before. from enough place before (step + 1) (rest_of bytes))
  where
    go : (b : Bool) → eqb (length bytes) 0 ≡ b
        → ((place : ℕ) (before : Model) → Same enough place before (step + 1) (rest_of bytes))
        → Same (suc enough) place before step bytes
    go true e further = rw e refl
    go false e further = by_answer enough place before step bytes e further (reading_of bytes).answer refl

-- THEOREM
pub listing_plays : (bytes : List ℕ)
    → listing_of bytes
    ≡ lines_of 1 (items_of bytes) (play_answers house (calls_of (items_of bytes)))
    ++ total_line (total_held (play house (calls_of (items_of bytes))).shards)
unfolding listing_of items_of play play_answers played
listing_plays bytes = from (length bytes) 1 (empty_model house) 1 bytes
