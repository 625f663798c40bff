-- Lists of four slots with a count of the used ones: what the functions of specs/Lists say of them, slot by slot.
use Prim.Native.Nat.{ℕ, zero, suc, ◌+◌, ◌<◌}
use mathlib.Core.Path.{◌≡◌, refl, sym, ap, ◌∙◌}
use mathlib.Core.Bool.{Bool, true, false, cond, ◌&&◌, ◌||◌, and_assoc, and-true, or_assoc, false≢true}
use mathlib.Core.List.{List, [], ◌∷◌, ◌++◌, map}
use native.Mathlib.Omega.{arith}
use borrow.Author.Tests.{lt-ltb}
use lib.Dec.{eqb, ltb}
use Rattle.std.specs.List.{list_any}
use lib.ListN.{length, get_or, take, drop, take-append-drop}
use lib.Seq.{take-nil, drop-nil}
use Rattle.transaction.specs.Lists.{any, all, total, slots_fit}

-- a list of four is its four elements
pub four : {A : Type 0} (d : A) (x : List A) → length x ≡ 4 → get_or x 0 d ∷ get_or x 1 d ∷ get_or x 2 d ∷ get_or x 3 d ∷ [] ≡ x
four d [] h = absurd (omega arith)
four d (a ∷ []) h = absurd (omega arith)
four d (a ∷ b ∷ []) h = absurd (omega arith)
four d (a ∷ b ∷ c ∷ []) h = absurd (omega arith)
four d (a ∷ b ∷ c ∷ e ∷ []) h = refl
four d (a ∷ b ∷ c ∷ e ∷ f ∷ x) h = absurd (omega arith)

-- a count of four or more passes each test of the count
pub above : (n k : ℕ) → k < 4 → ltb k (suc (suc (suc (suc n)))) ≡ true
above n k h = lt-ltb k (suc (suc (suc (suc n)))) (omega arith)

module _ {A : Type 0} (u z : A → Bool) (a b c e : A) where
  slots-of : (n : ℕ)
      → slots_fit u z n (a ∷ b ∷ c ∷ e ∷ [])
      ≡ cond (ltb 0 n) (u a) (z a) && cond (ltb 1 n) (u b) (z b)
      && cond (ltb 2 n) (u c) (z c) && cond (ltb 3 n) (u e) (z e)
  slots-of zero = simp (and_assoc, and-true)
  slots-of (suc zero) = simp (and_assoc, and-true)
  slots-of (suc (suc zero)) = simp (and_assoc, and-true)
  slots-of (suc (suc (suc zero))) = simp (and_assoc, and-true)
  slots-of (suc (suc (suc (suc n)))) =
      rw (above n 0 (omega arith), above n 1 (omega arith), above n 2 (omega arith), above n 3 (omega arith))
      (rw (take-nil {A = A} n, drop-nil {A = A} n) (simp (and_assoc, and-true)))

-- the test of the slot at a place
abbrev pub slot : {A : Type 0} → A → List A → (A → Bool) → (A → Bool) → ℕ → ℕ → Bool
slot d x u z n place = cond (ltb place n) (u (get_or x place d)) (z (get_or x place d))

-- The same of a list x of length 4, from what was found of each of its elements.
module _ {A : Type 0} (d : A) (x : List A) (long : length x ≡ 4) where
  -- used slots pass the one test, unused ones the other
  pub slots-by : (u z : A → Bool) (n : ℕ) {p q r s : Bool} → p ≡ slot d x u z n 0 → q ≡ slot d x u z n 1
      → r ≡ slot d x u z n 2 → s ≡ slot d x u z n 3 → p && q && r && s ≡ slots_fit u z n x
  slots-by u z n ep eq er es =
      rw (ep, eq, er, es)
      (sym (slots-of u z (get_or x 0 d) (get_or x 1 d) (get_or x 2 d) (get_or x 3 d) n) ∙ ap (slots_fit u z n) (four d x long))

  -- slot by slot, up to the first that does not pass
  module _ (u z : A → Bool) (n : ℕ) where
    pub slot_0 : slot d x u z n 0 ≡ false → false ≡ slots_fit u z n x
    slot_0 n0 = rw n0 at (slots-by u z n refl refl refl refl)

    module _ (y0 : slot d x u z n 0 ≡ true) where
      pub slot_1 : slot d x u z n 1 ≡ false → false ≡ slots_fit u z n x
      slot_1 n1 = rw (y0, n1) at (slots-by u z n refl refl refl refl)

      module _ (y1 : slot d x u z n 1 ≡ true) where
        pub slot_2 : slot d x u z n 2 ≡ false → false ≡ slots_fit u z n x
        slot_2 n2 = rw (y0, y1, n2) at (slots-by u z n refl refl refl refl)

        pub slot_3 : slot d x u z n 2 ≡ true → {s : Bool} → s ≡ slot d x u z n 3 → s ≡ slots_fit u z n x
        slot_3 y2 es = rw (y0, y1, y2) at (slots-by u z n refl refl refl es)

-- Sums: unused slots that are zero add nothing.
pub total-append : {A : Type 0} (f : A → ℕ) (x y : List A) → total f (x ++ y) ≡ total f x + total f y
total-append f [] y = omega arith
total-append f (a ∷ x) y = omega (arith, total-append f x y)

pub and_left : (a b : Bool) → a && b ≡ true → a ≡ true
and_left true b h = refl
and_left false b h = h

pub and_right : (a b : Bool) → a && b ≡ true → b ≡ true
and_right true b h = h
and_right false b h = absurd (false≢true h)

total-zero : {A : Type 0} (f : A → ℕ) (z : A → Bool) → ((a : A) → z a ≡ true → f a ≡ 0) → (x : List A)
    → all z x ≡ true → total f x ≡ 0
total-zero f z none [] h = refl
total-zero f z none (a ∷ x) h =
    let first : f a ≡ 0 = none a (and_left (z a) (all z x) h) in
    let others : total f x ≡ 0 = total-zero f z none x (and_right (z a) (all z x) h) in
    omega arith

pub total-used : {A : Type 0} (f : A → ℕ) (u z : A → Bool) → ((a : A) → z a ≡ true → f a ≡ 0)
    → (n : ℕ) (x : List A) → slots_fit u z n x ≡ true → total f (take n x) ≡ total f x
total-used f u z none n x h =
    let zeros = and_right (all u (take n x)) (all z (drop n x)) h in
    let behind : total f (drop n x) ≡ 0 = total-zero f z none (drop n x) zeros in
    let whole : total f x ≡ total f (take n x) + total f (drop n x) =
    ap (total f) (sym (take-append-drop n x)) ∙ total-append f (take n x) (drop n x) in
    omega arith

-- a test over a mapped list, and over two lists one behind the other
pub any-map : {A B : Type 0} (f : B → Bool) (g : A → B) (x : List A) → any f (map g x) ≡ any (λ (a : A). f (g a)) x
any-map f g [] = refl
any-map f g (a ∷ x) = ap (λ (b : Bool). f (g a) || b) (any-map f g x)

pub any_append : {A : Type 0} (f : A → Bool) (x y : List A) → any f (x ++ y) ≡ any f x || any f y
any_append f [] y = refl
any_append f (a ∷ x) y = ap (λ (b : Bool). f a || b) (any_append f x y) ∙ sym (or_assoc (f a) (any f x) (any f y))

-- the library's test of a list
listed : {A : Type 0} (f : A → Bool) (xs : List A) → list_any f xs ≡ any f xs
listed f [] = refl
listed f (x ∷ xs) = rw (listed f xs) refl

-- where a number read off each element is looked for
pub any-of : {A : Type 0} (f : A → ℕ) (n : ℕ) (xs : List A) {found : Bool} → found ≡ list_any (λ x. eqb n (f x)) xs
    → found ≡ any (eqb n) (map f xs)
any-of f n xs e = e ∙ listed (λ x. eqb n (f x)) xs ∙ sym (any-map (eqb n) f xs)
