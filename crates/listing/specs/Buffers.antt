-- A buffer of records listed in one go: record after record, line behind line.
use Rattle.std.specs.Prelude.{ℕ, zero, suc, ◌+◌, ◌-◌, ◌≤◌, ◌≡◌, Bool, false, cond, not, ◌&&◌, List, [], ◌++◌, leb, ltb, length, drop}
use Rattle.reader.specs.Reading.{rest_of}
use Rattle.model.specs.Steps.{Ledger}
use Rattle.cluster.specs.View.{view, Sound}
use Rattle.listing.specs.Listing.{step_of}
use Rattle.listing.specs.declared.Progress.{Progress}

-- where a listing stands: the ledgers, the number of the next step, the bytes left, the text so far, and whether
-- reading has ended
pub record Standing : Type 0 where
  pub shards : List Ledger
  pub step : ℕ
  pub bytes : List ℕ
  pub text : List ℕ
  pub ends : Bool

-- one record further
unfoldable pub further : Standing → Standing
further p =
    record {
      shards = (step_of p.shards p.step p.bytes).shards;
      step = p.step + 1;
      bytes = rest_of p.bytes;
      text = p.text ++ (step_of p.shards p.step p.bytes).line;
      ends = (step_of p.shards p.step p.bytes).ends;
    }

-- reading has not ended, as many bytes as are wanted are left, and one at least, a line has room, and the step has a
-- number of 64 bits
abbrev pub going : Bool → ℕ → ℕ → ℕ → ℕ → Bool
going ends left wanted room step =
    not ends && ltb 0 left && leb wanted left && leb 64 room && ltb step 18446744073709551615

abbrev pub goes_on : ℕ → ℕ → Standing → Bool
goes_on wanted room p = going p.ends (length p.bytes) wanted (room - length p.text) p.step

-- record after record; each takes at least one byte, so that as many turns as bytes are enough
unfoldable pub run_within : ℕ → ℕ → ℕ → Standing → Standing
run_within zero wanted room p = p
run_within (suc enough) wanted room p = cond (goes_on wanted room p) (run_within enough wanted room (further p)) p

abbrev pub start : List Ledger → ℕ → List ℕ → Standing
start shards step bytes = record { shards = shards; step = step; bytes = bytes; text = []; ends = false }

abbrev pub run_of : List Ledger → ℕ → List ℕ → ℕ → ℕ → Standing
run_of shards step bytes wanted room = run_within (length bytes) wanted room (start shards step bytes)

-- the text stands at the front of the lent bytes, those behind it are as they were, and everything else is where the
-- listing then stands
pub record ListsAll
    (before : List (List ℕ)) (step : ℕ) (bytes : List ℕ) (wanted : ℕ) (lent : List ℕ) (r : Progress)
    (after : List (List ℕ)) (out : List ℕ) : Type 0 where
  pub text : out ≡ (run_of (view before) step bytes wanted (length lent)).text ++ drop r.used lent
  pub used : r.used ≡ length (run_of (view before) step bytes wanted (length lent)).text
  pub room : r.used ≤ length lent
  pub number : r.number ≡ (run_of (view before) step bytes wanted (length lent)).step
  pub rest : drop r.taken bytes ≡ (run_of (view before) step bytes wanted (length lent)).bytes
  pub part : r.taken ≤ length bytes
  pub ends : r.ends ≡ (run_of (view before) step bytes wanted (length lent)).ends
  pub ledgers : view after ≡ (run_of (view before) step bytes wanted (length lent)).shards
  pub sound : Sound after
