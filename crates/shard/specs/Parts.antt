-- What the parts of a step promise each other.
use Rattle.std.specs.Prelude.{ℕ, ◌+◌, ◌≤◌, ◌<◌, ◌≡◌, Bool, List, [], ◌∷◌, ◌++◌, length, set}
use Rattle.transaction.specs.declared.Transaction.{Transaction}
use Rattle.model.specs.declared.Token.{Token}
use Rattle.model.specs.declared.Known.{Known}
use Rattle.model.specs.declared.Outcome.{Outcome}
use Rattle.model.specs.Steps.{
  Ledger,
  holding,
  available_here,
  findings,
  keeping,
  pledges,
  vote,
  known_with,
  hearing,
  outcome_of,
  after_mint,
  concluded,
  is_aborted_for,
  after_turn,
}
use Rattle.layout.specs.Layout.{shard_words, token_slots, known_slots, shard_of, with_known, with_transactions, slot_known, Becomes}
use Rattle.holdings.specs.Held.{Room, Changes}
use Rattle.shard.specs.declared.local.Own.{Own}
use Rattle.shard.specs.View.{number, view}

-- the local step: the tokens of the available inputs here are pledged, and nothing else is changed; the verdict is the vote, and each input here
-- was found as it was before that
pub record Pledges (t : Transaction) (ws : List ℕ) (own : Own) (vs : List ℕ) : Type 0 where
  pub pledged : Changes (pledges t.number (available_here (number ws) (view ws).tokens t)) ws vs
  pub votes : own.verdict ≡ vote (number ws) (view ws).tokens t
  pub finds : own.findings ≡ keeping (findings (number ws) (view ws).tokens t)

-- what a step leaves: this ledger, in words whose counts are known
pub record Leaves (ws : List ℕ) (ledger : Ledger) (count : ℕ) (vs : List ℕ) : Type 0 where
  pub long : length vs ≡ shard_words
  pub seen : view vs ≡ ledger
  pub numbered : number vs ≡ number ws
  pub holds : (shard_of vs).held ≡ length ledger.tokens
  pub knows : (shard_of vs).known ≡ count

-- a genesis token more
abbrev pub Minted : List ℕ → ℕ → ℕ → ℕ → List ℕ → Type 0
Minted ws index owner amount vs = Leaves ws (after_mint (view ws) index owner amount) (shard_of ws).known vs

-- a turn
abbrev pub TurnedOver : List ℕ → List ℕ → Type 0
TurnedOver ws vs = Leaves ws (after_turn (view ws)) (shard_of ws).known vs

-- the token is pledged to this known transaction, and that is aborted
abbrev pub is_bound_to : Known → Token → Bool
is_bound_to k token = is_aborted_for token k

-- one known transaction more in the slots
pub record Grows (ws : List ℕ) (k : Known) (vs : List ℕ) : Type 0 where
  pub is : Becomes (with_known (with_transactions (shard_of ws) (set (shard_of ws).transactions (shard_of ws).known k)) ((shard_of ws).known + 1)) vs

-- the ledger with the known transactions changed, and the tokens after the decision on one of them
abbrev pub decided_on : ℕ → Ledger → Known → List Known → Ledger
decided_on me ledger k known = holding ledger (concluded ledger.turned (outcome_of k) me k.transaction ledger.tokens) known

-- the transaction as it is entered, and the ledger after it
abbrev pub entry_for : Own → Transaction → List ℕ → Known
entry_for own t ws = known_with (number ws) own.findings own.verdict t

abbrev pub entered_ledger : Own → Transaction → List ℕ → Ledger
entered_ledger own t ws = decided_on (number ws) (view ws) (entry_for own t ws) ((view ws).known ++ (entry_for own t ws ∷ []))

-- a transaction can be entered: a slot is free, and the tokens after the decision fit
pub record Entering (own : Own) (t : Transaction) (ws : List ℕ) : Type 0 where
  pub room : Room ws
  pub me : number ws < 8
  pub free : (shard_of ws).known < known_slots
  pub fits : length (entered_ledger own t ws).tokens ≤ token_slots

-- it is entered
pub record Entered (own : Own) (t : Transaction) (ws : List ℕ) (decided : Outcome) (vs : List ℕ) : Type 0 where
  pub decides : decided ≡ outcome_of (entry_for own t ws)
  pub leaves : Leaves ws (entered_ledger own t ws) ((shard_of ws).known + 1) vs

-- the known transaction in a slot with the vote noted, and the ledger after it
abbrev pub heard_in : ℕ → ℕ → ℕ → List ℕ → Known
heard_in place sender verdict ws = hearing sender verdict (slot_known ws place)

abbrev pub heard_ledger : ℕ → ℕ → ℕ → List ℕ → Ledger
heard_ledger place sender verdict ws =
    decided_on (number ws) (view ws) (heard_in place sender verdict ws) (set (view ws).known place (heard_in place sender verdict ws))

-- a fresh vote can be carried out: there is such an entry, and the tokens after the decision fit
pub record FreshVote (place sender verdict : ℕ) (ws : List ℕ) : Type 0 where
  pub room : Room ws
  pub known : (shard_of ws).known ≤ known_slots
  pub entry : place < (shard_of ws).known
  pub from : sender < 8
  pub fits : length (heard_ledger place sender verdict ws).tokens ≤ token_slots

-- it is carried out
pub record FreshDone (place sender verdict : ℕ) (ws : List ℕ) (decided : Outcome) (vs : List ℕ) : Type 0 where
  pub decides : decided ≡ outcome_of (heard_in place sender verdict ws)
  pub leaves : Leaves ws (heard_ledger place sender verdict ws) (shard_of ws).known vs
