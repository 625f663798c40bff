-- Laws that impls of src/ cite: each reading depends on its own words alone, and a known transaction has four slots each.
use Rattle.std.specs.Prelude.{ℕ, zero, suc, ◌+◌, ◌%◌, ◌≡◌, ◌<◌, List, length, get_or}
use Rattle.std.proofs.Common.{refl, ap, arith}
use Rattle.layout.specs.Layout.{
  known_slots,
  input_size,
  output_size,
  found_size,
  token_size,
  said_from,
  said_in,
  tab,
  token_in,
  input_in,
  output_in,
  inputs_in,
  outputs_in,
  found_in,
  known_at,
  transactions_of,
  no_known,
  slot_known,
  Local,
}

pub tab-at : {A : Type 0} (n : ℕ) (f : ℕ → A) (k : ℕ) (d : A) → k < n → get_or (tab n f) k d ≡ f k
tab-at zero f k d h = absurd (omega arith)
tab-at (suc n) f zero d h = refl
tab-at (suc n) f (suc k) d h = tab-at n (λ (i : ℕ). f (suc i)) k d (omega arith)

pub known_get : (ws : List ℕ) (k : ℕ) → k < known_slots → slot_known ws k ≡ known_at ws k
unfolding transactions_of
known_get ws k h = tab-at known_slots (known_at ws) k no_known h

pub four-inputs : (ws : List ℕ) (k : ℕ) → k < known_slots → length (slot_known ws k).transaction.inputs ≡ 4
unfolding inputs_in
four-inputs ws k h = rw (known_get ws k h) refl

pub four-outputs : (ws : List ℕ) (k : ℕ) → k < known_slots → length (slot_known ws k).transaction.outputs ≡ 4
unfolding outputs_in
four-outputs ws k h = rw (known_get ws k h) refl

pub said_local : Local said_in 1
unfolding said_in
said_local ws vs i s = ap (λ (w : ℕ). said_from (w % 256)) (s i (omega arith) (omega arith))

pub token_local : Local token_in token_size
token_local ws vs i s =
    rw (
      s i (omega arith) (omega arith),
      s (i + 1) (omega arith) (omega arith),
      s (i + 2) (omega arith) (omega arith),
      s (i + 3) (omega arith) (omega arith),
      s (i + 4) (omega arith) (omega arith),
    )

pub input_local : Local input_in input_size
unfolding input_in
input_local ws vs i s =
    rw (
      s i (omega arith) (omega arith),
      s (i + 1) (omega arith) (omega arith),
      s (i + 2) (omega arith) (omega arith),
      s (i + 3) (omega arith) (omega arith),
      s (i + 4) (omega arith) (omega arith),
    )

pub output_local : Local output_in output_size
unfolding output_in
output_local ws vs i s =
    rw (s i (omega arith) (omega arith), s (i + 1) (omega arith) (omega arith), s (i + 2) (omega arith) (omega arith))

pub found_local : Local found_in found_size
unfolding found_in
found_local ws vs i s = rw (s i (omega arith) (omega arith), s (i + 1) (omega arith) (omega arith))
