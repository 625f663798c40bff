-- Loops over the first n elements of an array: one law for each shape, over the element type. At index i, `slice i n l` is what is left of the list.
-- Each shape has its invariant, a record, with laws for the start, for a turn, for a turn that ends the search, and for the end.
use Prim.Native.Nat.{ℕ, suc, ◌+◌, ◌≤◌, ◌<◌}
use mathlib.Core.Path.{◌≡◌, refl, ◌∙◌}
use mathlib.Core.List.{List, [], ◌∷◌, ◌++◌}
use mathlib.Core.Bool.{Bool, true, false}
use native.Mathlib.Numerals.{add-one}
use native.Mathlib.Omega.{arith}
use lib.ListN.{length, take, set, get_or}
use lib.Seq.{slice, slice-cons, slice_empty, take-suc-set}
use Rattle.transaction.specs.Lists.{any, total}
use Rattle.model.specs.Lists.{find}

-- what is left begins with the element at i
module _ {A : Type 0} (l : List A) (n i : ℕ) (d : A) (h : i < n) (k : n ≤ length l) where
  pub slice_step : slice i n l ≡ get_or l i d ∷ slice (i + 1) n l
  slice_step = rw (add-one) (slice-cons i n l d h k)

-- ---- Any: does one of the first n pass? None did so far.
pub record Seeking {A : Type 0} (f : A → Bool) (l : List A) (n i : ℕ) : Type 0 where
  pub within : i ≤ n
  pub left : any f (take n l) ≡ any f (slice i n l)

module _ {A : Type 0} {f : A → Bool} {l : List A} {n : ℕ} where
  pub seek_start : Seeking f l n 0
  seek_start = record { within = omega arith; left = refl }

  pub seek_end : {i : ℕ} → Seeking f l n i → n ≤ i → any f (take n l) ≡ false
  seek_end {i} s h = let e : i ≡ n = omega arith in s.left ∙ rw (e, slice_empty)

  module _ {i : ℕ} (d : A) (s : Seeking f l n i) (h : i < n) (k : n ≤ length l) where
    pub seek_hit : f (get_or l i d) ≡ true → any f (take n l) ≡ true
    seek_hit e = s.left ∙ rw (slice_step l n i d h k, e)

    pub seek_next : f (get_or l i d) ≡ false → Seeking f l n (i + 1)
    seek_next e = record { within = omega arith; left = s.left ∙ rw (slice_step l n i d h k, e) }

-- ---- Find: the index of the first of the first n that passes. None did so far.
pub record Finding {A : Type 0} (f : A → Bool) (l : List A) (n i : ℕ) : Type 0 where
  pub within : i ≤ n
  pub left : find f (take n l) ≡ i + find f (slice i n l)

module _ {A : Type 0} {f : A → Bool} {l : List A} {n : ℕ} where
  pub find-start : Finding f l n 0
  find-start = record { within = omega arith; left = omega arith }

  pub find_end : {i : ℕ} → Finding f l n i → n ≤ i → find f (take n l) ≡ i
  find_end {i} s h =
      let e : i ≡ n = omega arith in
      let z : find f (slice i n l) ≡ 0 = rw (e, slice_empty) in
      omega (arith, s.left, z)

  module _ {i : ℕ} (d : A) (s : Finding f l n i) (h : i < n) (k : n ≤ length l) where
    pub find-hit : f (get_or l i d) ≡ true → find f (take n l) ≡ i
    find-hit e = let z : find f (slice i n l) ≡ 0 = rw (slice_step l n i d h k, e) in omega (arith, s.left, z)

    pub find-next : f (get_or l i d) ≡ false → Finding f l n (i + 1)
    find-next e =
        let z : find f (slice i n l) ≡ suc (find f (slice (i + 1) n l)) = rw (slice_step l n i d h k, e) in
        record { within = omega arith; left = omega (arith, s.left, z) }

-- ---- Sum: a number read off each of the first n, `sum` so far.
pub record Summing {A : Type 0} (f : A → ℕ) (l : List A) (n sum i : ℕ) : Type 0 where
  pub within : i ≤ n
  pub left : total f (take n l) ≡ sum + total f (slice i n l)

module _ {A : Type 0} {f : A → ℕ} {l : List A} {n : ℕ} where
  pub sum-start : Summing f l n 0 0
  sum-start = record { within = omega arith; left = omega arith }

  pub sum-next : {sum i : ℕ} (d : A) (y : ℕ) → Summing f l n sum i → i < n → n ≤ length l → y ≡ f (get_or l i d)
      → Summing f l n (sum + y) (i + 1)
  sum-next {sum} {i} d y s h k e = record {
    within = omega arith;
    left =
        let step : total f (slice i n l) ≡ f (get_or l i d) + total f (slice (i + 1) n l) = rw (slice_step l n i d h k) in
        omega (arith, s.left, step, e);
  }

  pub sum_end : {sum i : ℕ} → Summing f l n sum i → n ≤ i → total f (take n l) ≡ sum
  sum_end {sum} {i} s h =
      let e : i ≡ n = omega arith in
      let z : total f (slice i n l) ≡ 0 = rw (e, slice_empty) in
      omega (arith, s.left, z)

-- one element behind the first w
pub append-one : {B : Type 0} (q : List B) (w : ℕ) (y : B) → w < length q → take (w + 1) (set q w y) ≡ take w q ++ (y ∷ [])
append-one q w y h = rw (add-one, take-suc-set q w y h)
