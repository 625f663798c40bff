-- What is left behind a record, and what the definition of the whole text says of it.
use Prim.Native.Nat.{ℕ, zero, suc, ◌+◌, ◌≤◌, ◌<◌}
use native.Mathlib.Omega.{arith}
use mathlib.Core.Path.{◌≡◌, refl, ap}
use mathlib.Core.Bool.{true, false}
use mathlib.Core.List.{List, ◌++◌}
use borrow.Author.Tests.{eq-eqb, ne_eqb}
use lib.ListN.{length, drop, length-drop}
use Rattle.std.specs.Prelude.{Result, Ok, Err}
use Rattle.transaction.specs.declared.refusal.Refusal.{Refusal}
use Rattle.reader.specs.Reading.{head_cause, taken_of, rest_of}
use Rattle.reader.proofs.Cases.{taken-all, taken_record}
use Rattle.model.specs.Steps.{Ledger}
use Rattle.model.specs.Totals.{total_held}
use Rattle.listing.specs.Lines.{total_line}
use Rattle.listing.specs.Listing.{step_of, listing_within}

-- a record takes at least one byte
pub taken-some : (l : List ℕ) → (length l ≡ 0 → ⊥) → 0 < taken_of l
taken-some l n = go (head_cause l) refl
  where
    go : (found : Result Unit Refusal) → head_cause l ≡ found → 0 < taken_of l
    go (Ok tt) e = omega (arith, taken_record l e)
    go (Err cause) e = omega (arith, taken-all l e, n)

pub fewer : (l : List ℕ) (n : ℕ) → (length l ≡ 0 → ⊥) → length l ≤ suc n → length (rest_of l) ≤ n
unfolding rest_of
fewer l n some h = rw (length-drop) (omega (arith, taken-some l some))

pub behind : (bytes : List ℕ) {taken : ℕ} → taken ≡ taken_of bytes → drop taken bytes ≡ rest_of bytes
unfolding rest_of
behind bytes e = ap (λ (n : ℕ). drop n bytes) e

pub nothing_left : (enough : ℕ) (shards : List Ledger) (step : ℕ) (bytes : List ℕ) → length bytes ≡ 0
    → listing_within enough shards step bytes ≡ total_line (total_held shards)
unfolding listing_within
nothing_left zero shards step bytes e = refl
nothing_left (suc enough) shards step bytes e = rw (eq-eqb (length bytes) 0 e) refl

module _ (enough : ℕ) (shards : List Ledger) (step : ℕ) (bytes : List ℕ) (some : length bytes ≡ 0 → ⊥) where
  pub reading_ends : (step_of shards step bytes).ends ≡ true
      → listing_within (suc enough) shards step bytes
      ≡ (step_of shards step bytes).line ++ total_line (total_held (step_of shards step bytes).shards)
  unfolding listing_within
  reading_ends e = rw (ne_eqb (length bytes) 0 some, e) refl

  pub reading_on : (step_of shards step bytes).ends ≡ false
      → listing_within (suc enough) shards step bytes
      ≡ (step_of shards step bytes).line
      ++ listing_within enough (step_of shards step bytes).shards (step + 1) (rest_of bytes)
  unfolding listing_within
  reading_on e = rw (ne_eqb (length bytes) 0 some, e) refl
