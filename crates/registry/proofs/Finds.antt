-- One search by number answers every question about a transaction, because a number is known for one transaction only.
use Prim.Native.Nat.{ℕ, zero, suc, ◌≤◌, ◌<◌}
use mathlib.Core.Path.{◌≡◌, refl, sym, ap, ◌∙◌}
use mathlib.Core.Bool.{Bool, true, false, not, ◌||◌, and-true, and-false, true≢false, false≢true}
use mathlib.Core.List.{List, [], ◌∷◌}
use native.Mathlib.Omega.{arith}
use borrow.Author.Tests.{eqb-true}
use lib.ListN.{length, get_or}
use Rattle.transaction.specs.declared.Transaction.{Transaction}
use Rattle.transaction.specs.Lists.{any}
use Rattle.transaction.specs.Tokens.{same_transaction}
use Rattle.transaction.proofs.Slots.{and_left}
use Rattle.model.specs.declared.Known.{Known}
use Rattle.model.specs.Lists.{find}
use Rattle.std.specs.Prelude.{None}
use Rattle.model.specs.Said.{Said, says}
use Rattle.model.specs.Steps.{is_for, nothing_known, heard_from}
use Rattle.model.specs.Shard.{is_numbered, has_number, is_other}
use Rattle.model.specs.Cluster.{has_given, gave}
use Rattle.model.proofs.Basics.{find_at}
use Rattle.model.proofs.Capacity.{find-below}
use Rattle.loops.proofs.Positions.{Stands, Nowhere}
use Rattle.layout.specs.Layout.{known_slots, shard_of, ledger_of, slot_known}
use Rattle.layout.proofs.Ledgers.{known-length, known-entry}
use Rattle.registry.specs.Numbers.{number_at, OneEach}

-- one that passes
pub any_here : {A : Type 0} (f : A → Bool) (l : List A) (i : ℕ) (d : A) → i < length l → f (get_or l i d) ≡ true
    → any f l ≡ true
any_here f [] i d h e = absurd (omega arith)
any_here f (x ∷ l) zero d h e = rw e refl
any_here f (x ∷ l) (suc i) d h e = go (f x) (any_here f l i d (omega arith) e)
  where
    go : (b : Bool) → any f l ≡ true → b || any f l ≡ true
    go true r = refl
    go false r = r

-- a test that only a transaction of the number can pass
abbrev pub AsksNumber : ℕ → (Known → Bool) → Type 0
AsksNumber number f = (k : Known) → f k ≡ true → is_numbered number k ≡ true

module _ (known : List Known) (one : OneEach known) (number : ℕ) where
  -- where the number is not known, none passes
  pub none_passes : Nowhere (is_numbered number) known → (f : Known → Bool) → AsksNumber number f → any f known ≡ false
  none_passes nowhere f asks = go (any f known) refl
    where
      go : (b : Bool) → any f known ≡ b → b ≡ false
      go true e =
          let numbered = asks (get_or known (find f known) nothing_known) (find_at f known nothing_known e).1 in
          let there = any_here (is_numbered number) known (find f known) nothing_known (find-below f known e) numbered in
          absurd (true≢false (sym there ∙ nowhere.none))
      go false e = refl

  -- where it is known, only the one in its place can pass
  module _ {place : ℕ} (at : Stands (is_numbered number) known place) where
    abbrev there : Known
    there = get_or known place nothing_known

    -- it stands nowhere else
    only : (i : ℕ) → i < length known → is_numbered number (get_or known i nothing_known) ≡ true → i ≡ place
    only i h e =
        one i place h at.below
        (eqb-true (number_at known i) number e ∙ sym (eqb-true (number_at known place) number (at.passes nothing_known)))

    pub passes-there : (f : Known → Bool) → AsksNumber number f → any f known ≡ f there
    passes-there f asks = go (any f known) refl (f there) refl
      where
        go : (b : Bool) → any f known ≡ b → (c : Bool) → f there ≡ c → b ≡ c
        go true e true g = refl
        go true e false g =
            let i = find f known in
            let first = (find_at f known nothing_known e).1 in
            let same : i ≡ place = only i (find-below f known e) (asks (get_or known i nothing_known) first) in
            absurd (true≢false (sym first ∙ ap (λ (j : ℕ). f (get_or known j nothing_known)) same ∙ g))
        go false e true g = absurd (true≢false (sym (any_here f known place nothing_known at.below g) ∙ e))
        go false e false g = refl

    pub found-there : (f : Known → Bool) → AsksNumber number f → f there ≡ true → find f known ≡ place
    found-there f asks g =
        let e = any_here f known place nothing_known at.below g in
        only (find f known) (find-below f known e)
        (asks (get_or known (find f known) nothing_known) (find_at f known nothing_known e).1)

-- ---- The tests

other-number : (t : Transaction) (k : Known) → has_number t k ≡ false → is_for t k ≡ false
unfolding same_transaction
other-number t k e = rw e refl

pub asks_for : (t : Transaction) → AsksNumber t.number (is_for t)
asks_for t k e = go (has_number t k) refl
  where
    go : (b : Bool) → has_number t k ≡ b → has_number t k ≡ true
    go true q = q
    go false q = absurd (false≢true (sym (other-number t k q) ∙ e))

pub asks-other : (t : Transaction) → AsksNumber t.number (is_other t)
asks-other t k e = and_left (has_number t k) (not (is_for t k)) e

asks-given : (sender verdict : ℕ) (t : Transaction) → AsksNumber t.number (has_given sender verdict t)
asks-given sender verdict t k e = asks_for t k (and_left (is_for t k) (says (heard_from sender k) verdict) e)

-- has the shard given a vote
module _ (ws : List ℕ) (most : (shard_of ws).known ≤ known_slots) (one : OneEach (ledger_of ws).known)
    (sender verdict : ℕ) (t : Transaction) where
  abbrev given : Known → Bool
  given = has_given sender verdict t

  pub given-none : Nowhere (is_numbered t.number) (ledger_of ws).known → false ≡ gave (ledger_of ws) sender verdict t
  unfolding gave
  given-none nowhere = sym (none_passes (ledger_of ws).known one t.number nowhere given (asks-given sender verdict t))

  module _ {place : ℕ} (at : Stands (is_numbered t.number) (ledger_of ws).known place)
      {heard : Said} (eh : heard ≡ get_or (slot_known ws place).heard sender None) {said : Bool} (es : said ≡ says heard verdict) where
    there-is : gave (ledger_of ws) sender verdict t ≡ given (slot_known ws place)
    unfolding gave
    there-is =
        passes-there (ledger_of ws).known one t.number at given (asks-given sender verdict t)
        ∙ ap given (sym (known-entry ws place (rw (known-length ws most) at at.below) most nothing_known))

    pub given_if : {same : Bool} → said ≡ true → same ≡ is_for t (slot_known ws place)
        → same ≡ gave (ledger_of ws) sender verdict t
    given_if {same} e f = rw (there-is, ← eh, ← es, e, ← f) (sym (and-true same))

    pub given-other : said ≡ false → false ≡ gave (ledger_of ws) sender verdict t
    given-other e = rw (there-is, ← eh, ← es, e) (sym (and-false (is_for t (slot_known ws place))))
