-- A turn: what comes free, one known transaction after the other, and the ledger that is left.
use Prim.Native.Nat.{ℕ, ◌+◌, ◌≤◌, ◌<◌}
use mathlib.Core.Path.{◌≡◌, refl, sym, ap, ◌∙◌}
use mathlib.Core.Bool.{Bool, true, false, cond, ◌&&◌, ◌||◌, or-false}
use mathlib.Core.List.{List, [], ◌∷◌, ◌++◌}
use native.Mathlib.Omega.{arith}
use lib.ListN.{get_or, take}
use lib.Seq.{set-get_or}
use Rattle.transaction.proofs.Slots.{any_append}
use Rattle.model.specs.declared.Token.{Token}
use Rattle.model.specs.declared.Known.{Known}
use Rattle.model.specs.declared.Outcome.{Outcome}
use Rattle.model.specs.Steps.{Ledger, outcome_of, pledged_to, pledge_when, is_aborted, is_pledged_to, freeing, is_aborted_for, pledged_to_aborted, after_turn}
use Rattle.model.proofs.Capacity.{freeing-length}
use Rattle.model.proofs.Turned.{freeing-none}
use Rattle.loops.proofs.Loops.{append-one}
use Rattle.layout.specs.Layout as layout
use Rattle.layout.specs.Layout.{known_slots, transactions_of, Shard, shard_of, ledger_of, with_turned, no_known, slot_known, Becomes}
use Rattle.layout.proofs.Slots.{length-known}
use Rattle.layout.proofs.Ledgers.{held-length}
use Rattle.holdings.specs.Held.{Room, Holds, Changes}
use Rattle.holdings.proofs.Tokens.{holds_same, holds-room, holds_then, holds-tokens}
use Rattle.shard.specs.View.{view}
use Rattle.shard.specs.Parts.{is_bound_to, TurnedOver}
use Rattle.shard.proofs.Ledgers.{holds-leaves}

-- ---- One more

-- what is pledged to the aborted ones of a list with one more
freeing-more : (known : List Known) (k : Known) (tokens : List Token)
    → freeing (pledged_to_aborted (known ++ (k ∷ []))) tokens ≡ freeing (is_bound_to k) (freeing (pledged_to_aborted known) tokens)
unfolding freeing
freeing-more known k [] = refl
freeing-more known k (t ∷ tokens) = λ i. token i ∷ freeing-more known k tokens i
  where
    same : (b : Bool) → pledged_to 0 t ≡ cond b (pledged_to 0 t) (pledged_to 0 t)
    same true = refl
    same false = refl

    go : (b : Bool) → cond (b || is_bound_to k t) (pledged_to 0 t) t ≡ pledge_when 0 (is_bound_to k) (cond b (pledged_to 0 t) t)
    go true = same (is_bound_to k (pledged_to 0 t))
    go false = refl

    token : pledge_when 0 (pledged_to_aborted (known ++ (k ∷ []))) t ≡ pledge_when 0 (is_bound_to k) (pledge_when 0 (pledged_to_aborted known) t)
    token = rw (any_append (is_aborted_for t) known (k ∷ []), or-false) (go (pledged_to_aborted known t))

-- ---- The known transaction in a slot

module _ (ws : List ℕ) (place : ℕ) where
  pub lives_frees : {decided : Outcome} → decided ≡ outcome_of (slot_known ws place) → is_aborted decided ≡ false → Room ws
      → Changes (freeing (is_bound_to (slot_known ws place))) ws ws
  lives_frees e n r =
      let none = freeing-none (is_bound_to (slot_known ws place)) (ledger_of ws).tokens
      (λ t m. ap (λ (b : Bool). b && is_pledged_to (slot_known ws place).transaction.number t) (ap is_aborted (sym e) ∙ n)) in
      rw none (holds_same ws r)

-- ---- One known transaction after the other

-- what the first k of the known transactions free
pub record Freeing (ws : List ℕ) (n k : ℕ) (vs : List ℕ) : Type 0 where
  pub within : k ≤ n
  pub left : Changes (freeing (pledged_to_aborted (take k (transactions_of ws)))) ws vs

module _ (ws : List ℕ) (r : Room ws) where
  pub free-start : (n : ℕ) → Freeing ws n 0 ws
  free-start n = record {
    within = omega arith;
    left = rw (freeing-none (pledged_to_aborted []) (ledger_of ws).tokens (λ t m. refl)) (holds_same ws r);
  }

  module _ {n k : ℕ} {vs : List ℕ} (f : Freeing ws n k vs) where
    -- as many tokens as before
    pub free-room : Room vs
    free-room =
        let tokens = (ledger_of ws).tokens in
        holds-room vs f.left
        (omega (arith, freeing-length (pledged_to_aborted (take k (transactions_of ws))) tokens, held-length ws r.held, r.held))

    -- the slots of the known transactions are as they were
    slot_same : slot_known vs k ≡ slot_known ws k
    slot_same = ap (λ (s : Shard). get_or s.transactions k no_known) f.left.kept

    pub free-next : {us : List ℕ} → k < n → n ≤ known_slots → Changes (freeing (is_bound_to (slot_known vs k))) vs us → Freeing ws n (k + 1) us
    free-next {us} h most p =
        let known = transactions_of ws in
        let tokens = (ledger_of ws).tokens in
        let more : take (k + 1) known ≡ take k known ++ (slot_known ws k ∷ []) =
        ap (take (k + 1)) (sym (set-get_or known k no_known)) ∙ append-one known k (slot_known ws k) (omega (arith, length-known ws)) in
        let whole = freeing-more (take k known) (slot_known ws k) tokens in
        let step : Holds (shard_of vs) (freeing (is_bound_to (slot_known ws k)) (freeing (pledged_to_aborted (take k known)) tokens)) us =
        rw (slot_same, holds-tokens vs f.left) at p in
        record { within = omega arith; left = rw (more, whole) (holds_then vs f.left us step) }

  pub free_end : {k : ℕ} {vs : List ℕ} {n : ℕ} → n ≡ (shard_of ws).known → Freeing ws n k vs → n ≤ k
      → Changes (freeing (pledged_to_aborted (view ws).known)) ws vs
  unfolding layout.view
  free_end {k} {vs} {n} e f h =
      let all : k ≡ (shard_of ws).known = omega (arith, f.within, e) in
      rw all at f.left

-- ---- Turned

pub turned_over : (ws vs us : List ℕ) → Changes (freeing (pledged_to_aborted (view ws).known)) ws vs
    → Becomes (with_turned (shard_of vs) true) us → TurnedOver ws us
unfolding layout.view after_turn
turned_over ws vs us p b =
    let l = holds-leaves ws vs p in
    record {
      long = b.long;
      seen = ap layout.view b.is ∙ ap turning l.seen;
      numbered = ap (λ (s : Shard). s.number) b.is ∙ l.numbered;
      holds = ap (λ (s : Shard). s.held) b.is ∙ l.holds;
      knows = ap (λ (s : Shard). s.known) b.is ∙ l.knows;
    }
  where
    turning : Ledger → Ledger
    turning l = record { tokens = l.tokens; given = l.given; known = l.known; turned = true }
