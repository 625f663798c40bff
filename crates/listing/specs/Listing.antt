-- Document 01, 'The listing program': the whole text, by definition.
use Rattle.std.specs.Prelude.{ℕ, zero, suc, ◌+◌, ◌≤◌, ◌≡◌, Result, Ok, Err, Bool, false, cond, List, [], ◌∷◌, ◌++◌, eqb, leb, length}
use Rattle.transaction.specs.declared.Transaction.{Transaction}
use Rattle.transaction.specs.declared.refusal.Refusal.{Refusal}
use Rattle.transaction.specs.Refusals.{refusal_number}
use Rattle.reader.specs.declared.Record.{Record}
use Rattle.reader.specs.declared.Record.TheVariants.{Register, Vote, Mint, Turn}
use Rattle.reader.specs.Reading.{reading_of, taken_of, rest_of}
use Rattle.model.specs.Answers.{Answer}
use Rattle.model.specs.Steps.{Ledger, house}
use Rattle.model.specs.Cluster.{empty_shards, cluster_step}
use Rattle.calls.specs.Calls.{call_of}
use Rattle.cluster.specs.View.{view, Sound}
use Rattle.model.specs.Totals.{total_held}
use Rattle.listing.specs.declared.Listed.{Listed}
use Rattle.listing.specs.Lines.{unplaced, place_word, line_of, total_line}
use Rattle.listing.specs.Parts.{Puts}

-- a record's receiving shard (pantry)
abbrev pub receiver_of : Record → ℕ
receiver_of (Register receiver) = receiver
receiver_of (Vote receiver sender verdict) = receiver
receiver_of (Mint receiver index owner amount) = receiver
receiver_of (Turn receiver) = receiver

-- what one step shows: its line, the ledgers after it, and whether reading ends
pub record Shown : Type 0 where
  pub line : List ℕ
  pub shards : List Ledger
  pub ends : Bool

-- the line of an answer, with the receiving shard where it is shown
abbrev pub answer_line : ℕ → ℕ → Answer → List ℕ
answer_line step receiver answer = line_of step (place_word (unplaced answer) receiver) answer

-- a record that was read: the call at the cluster (round)
abbrev pub shown_call : ℕ → ℕ → List Ledger × Answer → Shown
shown_call step receiver done = record { line = answer_line step receiver done.1; shards = done.0; ends = false }

-- one that was refused costs its line, with "-"; after 1 or 2 nothing more is read
unfoldable pub shown_as : List Ledger → ℕ → Result Record Refusal → Transaction → Shown
shown_as shards step (Ok fields) t =
    shown_call step (receiver_of fields) (cluster_step house shards (call_of fields t))
shown_as shards step (Err refusal) t =
    record { line = line_of step (45 ∷ []) (Err refusal); shards = shards; ends = leb (refusal_number refusal) 2 }

-- the record at the front of the bytes
unfoldable pub step_of : List Ledger → ℕ → List ℕ → Shown
step_of shards step bytes = shown_as shards step (reading_of bytes).answer (reading_of bytes).transaction

-- the lines from a step on, then TOTAL; each record takes at least one byte, so that as many turns as bytes are enough
unfoldable pub listing_within : ℕ → List Ledger → ℕ → List ℕ → List ℕ
listing_within zero shards step bytes = total_line (total_held shards)
listing_within (suc enough) shards step bytes =
    cond (eqb (length bytes) 0)
    (total_line (total_held shards))
    ((step_of shards step bytes).line
    ++ cond (step_of shards step bytes).ends
    (total_line (total_held (step_of shards step bytes).shards))
    (listing_within enough (step_of shards step bytes).shards (step + 1) (rest_of bytes)))

-- the whole output: from eight empty shards and step 1
unfoldable pub listing_of : List ℕ → List ℕ
listing_of bytes = listing_within (length bytes) (empty_shards house) 1 bytes

-- what a step promises: the line, the bytes taken, the ledgers afterwards and whether reading ends are the definition's
pub record Lists (before : List (List ℕ)) (step : ℕ) (bytes lent : List ℕ) (at : ℕ) (r : Listed)
    (after : List (List ℕ)) (out : List ℕ) : Type 0 where
  pub shows : Puts lent at (step_of (view before) step bytes).line 64 out r.at
  pub taken : r.taken ≡ taken_of bytes
  pub part : r.taken ≤ length bytes
  pub ends : r.ends ≡ (step_of (view before) step bytes).ends
  pub ledgers : view after ≡ (step_of (view before) step bytes).shards
  pub sound : Sound after
