-- A number is known for one transaction only: every call keeps that.
use Prim.Native.Nat.{ℕ, zero, suc, ◌+◌, ◌<◌}
use mathlib.Core.Path.{◌≡◌, refl, sym, ap, ◌∙◌}
use mathlib.Core.Bool.{Bool, true, false, true≢false}
use mathlib.Core.List.{List, [], ◌∷◌, ◌++◌}
use native.Mathlib.Omega.{arith}
use borrow.Author.Tests.{eqb-true, eqb-false, eq-eqb}
use lib.Dec.{eqb}
use lib.ListN.{length, get_or, set, length-set, length-append}
use lib.Seq.{get_or-set_same, get_or-set_other}
use Rattle.transaction.specs.declared.Transaction.{Transaction}
use Rattle.transaction.specs.Lists.{any}
use Rattle.model.specs.declared.Known.{Known}
use Rattle.model.specs.Answers.{Answer}
use Rattle.model.specs.Steps.{
  Limits,
  Ledger,
  nothing_known,
  newly_known,
  is_for,
  place_of,
  entry_of,
  hearing,
  after_mint,
  after_register,
  after_vote,
  after_turn,
}
use Rattle.model.specs.Shard.{Call, has_number, is_other, shard_step}
use Rattle.model.proofs.Entries.{whole-known}
use Rattle.model.proofs.Refusals.{RegisterPasses, brought-registers}
use Rattle.model.proofs.Effects.{
  ShardEffect,
  shard-refused,
  shard-minted,
  shard-registered,
  shard-heard,
  shard-again,
  shard-effect,
  shard-turned,
  shard-brought,
}
use Rattle.registry.specs.Numbers.{number_at, OneEach}
use Rattle.registry.proofs.Finds.{any_here}

-- ---- One more, of another number

behind : {A : Type 0} (l : List A) (x d : A) (i : ℕ) → i < length l → get_or (l ++ (x ∷ [])) i d ≡ get_or l i d
behind [] x d i h = absurd (omega arith)
behind (y ∷ l) x d zero h = refl
behind (y ∷ l) x d (suc i) h = behind l x d i (omega arith)

last : {A : Type 0} (l : List A) (x d : A) → get_or (l ++ (x ∷ [])) (length l) d ≡ x
last [] x d = refl
last (y ∷ l) x d = last l x d

data Spot (i n : ℕ) : Type 0 where
  within : i < n → Spot i n
  behind-all : i ≡ n → Spot i n

spot : (i n : ℕ) → i < n + 1 → Spot i n
spot i n h = go (eqb i n) refl
  where
    less : (i ≡ n → ⊥) → i < n
    less ne = omega arith

    go : (b : Bool) → eqb i n ≡ b → Spot i n
    go true e = behind-all (eqb-true i n e)
    go false e = within (less (eqb-false i n e))

module _ (known : List Known) (one : OneEach known) (k : Known) (new : any (has_number k.transaction) known ≡ false) where
  abbrev more : List Known
  more = known ++ (k ∷ [])

  old : (i : ℕ) → i < length known → number_at more i ≡ number_at known i
  old i h = ap (λ (x : Known). x.transaction.number) (behind known k nothing_known i h)

  newest : number_at more (length known) ≡ k.transaction.number
  newest = ap (λ (x : Known). x.transaction.number) (last known k nothing_known)

  apart : (i : ℕ) → i < length known → number_at known i ≡ k.transaction.number → ⊥
  apart i h e =
      let there = eq-eqb (number_at known i) k.transaction.number e in
      true≢false (sym (any_here (has_number k.transaction) known i nothing_known h there) ∙ new)

  pub once_more : OneEach more
  once_more i j hi hj e =
      let n : length more ≡ length known + 1 = length-append known (k ∷ []) in
      go (spot i (length known) (omega arith)) (spot j (length known) (omega arith))
    where
      go : Spot i (length known) → Spot j (length known) → i ≡ j
      go (within a) (within b) = one i j a b (sym (old i a) ∙ e ∙ old j b)
      go (within a) (behind-all b) = absurd (apart i a (sym (old i a) ∙ e ∙ ap (number_at more) b ∙ newest))
      go (behind-all a) (within b) = absurd (apart j b (sym (old j b) ∙ sym e ∙ ap (number_at more) a ∙ newest))
      go (behind-all a) (behind-all b) = a ∙ sym b

-- ---- One changed, of the same number

module _ (known : List Known) (one : OneEach known) (p : ℕ) (k : Known) (same : k.transaction.number ≡ number_at known p) where
  as_before : (i : ℕ) → i < length known → number_at (set known p k) i ≡ number_at known i
  as_before i h = go (eqb i p) refl
    where
      go : (b : Bool) → eqb i p ≡ b → number_at (set known p k) i ≡ number_at known i
      go true e =
          let at : i ≡ p = eqb-true i p e in
          rw at (ap (λ (x : Known). x.transaction.number) (get_or-set_same known p k nothing_known (rw (← at) h)) ∙ same)
      go false e = ap (λ (x : Known). x.transaction.number) (get_or-set_other known p i k nothing_known (eqb-false i p e))

  pub once_changed : OneEach (set known p k)
  once_changed i j hi hj e =
      let n : length (set known p k) ≡ length known = length-set known p k in
      let a : i < length known = omega arith in
      let b : j < length known = omega arith in
      one i j a b (sym (as_before i a) ∙ e ∙ as_before j b)

-- ---- Every call

unknown-number : (t : Transaction) (known : List Known) → any (is_other t) known ≡ false → any (is_for t) known ≡ false
    → any (has_number t) known ≡ false
unknown-number t known o f = go (any (has_number t) known) refl
  where
    go : (b : Bool) → any (has_number t) known ≡ b → b ≡ false
    go true e = absurd (true≢false (sym (whole-known t known e o) ∙ f))
    go false e = refl

-- a fresh vote
once-heard : (me : ℕ) (ledger : Ledger) → OneEach ledger.known → (sender verdict : ℕ) (t : Transaction)
    → OneEach (after_vote me ledger sender verdict t).known
unfolding after_vote entry_of
once-heard me ledger one sender verdict t =
    once_changed ledger.known one (place_of t ledger.known) (hearing sender verdict (entry_of t ledger.known)) refl

-- a registration
once-registered : (limits : Limits) (me : ℕ) (ledger : Ledger) → OneEach ledger.known → {receiver : ℕ} {t : Transaction}
    → RegisterPasses limits me ledger receiver t → OneEach (after_register me ledger t).known
unfolding after_register newly_known
once-registered limits me ledger one {t = t} p =
    once_more ledger.known one (newly_known me ledger.tokens t) (unknown-number t ledger.known p.no_other p.unknown)

pub once-step : (limits : Limits) (me : ℕ) (ledger : Ledger) → OneEach ledger.known → (call : Call)
    → OneEach (shard_step limits me ledger call).0.known
unfolding after_mint after_turn
once-step limits me ledger one call = go (shard-effect limits me ledger call)
  where
    go : {call : Call} {r : Ledger × Answer} → ShardEffect limits me ledger call r → OneEach r.0.known
    go shard-refused = one
    go (shard-minted p) = one
    go (shard-registered p) = once-registered limits me ledger one p
    go (shard-heard {receiver} {sender} {verdict} {t} p f z) = once-heard me ledger one sender verdict t
    go (shard-again p n) = one
    go (shard-turned p) = one
    go (shard-brought {receiver} {sender} {verdict} {t} p f) =
        once-heard me (after_register me ledger t) (once-registered limits me ledger one (brought-registers p)) sender verdict t
