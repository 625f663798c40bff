-- The elements that pass among the first i, and one element more.
use Rattle.std.proofs.Common.{ℕ, zero, suc, ◌≡◌, ◌+◌, ◌<◌, ◌≤◌, Bool, true, false, cond, ltb, List, [], ◌∷◌, ◌++◌, length, take, get_or, min, refl, sym, ap, ◌∙◌, arith, rules}
use Rattle.std.proofs.lemmas.List.{take_more, take_min, length-take}
use lib.Seq.{take-nil}
use Rattle.transaction.proofs.Slots.{above, four}
use Rattle.model.specs.Lists.{keep}
use Rattle.model.proofs.Basics.{keep-length}
use Rattle.loops.specs.Lists.{one_if}

keep_behind : {A : Type 0} (f : A → Bool) (l : List A) (x : A) → keep f (l ++ (x ∷ [])) ≡ keep f l ++ one_if (f x) x
keep_behind f [] x = refl
keep_behind {A} f (y ∷ l) x = go (f y) (keep_behind f l x)
  where
    go : (b : Bool) → keep f (l ++ (x ∷ [])) ≡ keep f l ++ one_if (f x) x
        → cond b (y ∷ keep f (l ++ (x ∷ []))) (keep f (l ++ (x ∷ []))) ≡ cond b (y ∷ keep f l) (keep f l) ++ one_if (f x) x
    go true e = ap (λ (k : List A). y ∷ k) e
    go false e = e

module _ {A : Type 0} (f : A → Bool) (l : List A) (i : ℕ) (d : A) where
  keep-more : i < length l → keep f (take (i + 1) l) ≡ keep f (take i l) ++ one_if (f (get_or l i d)) (get_or l i d)
  keep-more h = ap (keep f) (take_more l i d h) ∙ keep_behind f (take i l) (get_or l i d)

  pub keep-in : i < length l → f (get_or l i d) ≡ true → keep f (take i l) ++ (get_or l i d ∷ []) ≡ keep f (take (i + 1) l)
  keep-in h e = sym (keep-more h ∙ rw e refl)

  pub keep-out : i < length l → f (get_or l i d) ≡ false → keep f (take i l) ≡ keep f (take (i + 1) l)
  keep-out h e = sym (keep-more h ∙ rw e (search rules))

  pub keep-few : length (keep f (take i l)) ≤ i
  keep-few = omega (arith, keep-length f (take i l), length-take i l)

-- the used ones of four slots
pub used-are : {A : Type 0} (l : List A) → length l ≡ 4 → (count n : ℕ) → n ≡ min count 4 → take n l ≡ take count l
used-are l long count n e = rw e (ap (λ (k : ℕ). take (min count k) l) (sym long) ∙ take_min count l)

-- all of them, where a loop over their numbers ends
pub used-below : {A : Type 0} (l : List A) → length l ≡ 4 → (count n i : ℕ) → n ≡ min count 4 → n ≤ i → i ≤ n → take i l ≡ take count l
used-below l long count n i e h k = let same : i ≡ n = omega arith in
    ap (λ (m : ℕ). take m l) same ∙ used-are l long count n e

-- ---- The used ones of four slots, slot by slot

slots-of : {A : Type 0} (a b c e : A) (n : ℕ)
    → take n (a ∷ b ∷ c ∷ e ∷ []) ≡ one_if (ltb 0 n) a ++ one_if (ltb 1 n) b ++ one_if (ltb 2 n) c ++ one_if (ltb 3 n) e
slots-of a b c e zero = refl
slots-of a b c e (suc zero) = refl
slots-of a b c e (suc (suc zero)) = refl
slots-of a b c e (suc (suc (suc zero))) = refl
slots-of {A} a b c e (suc (suc (suc (suc n)))) =
    rw (above n 0 (omega arith), above n 1 (omega arith), above n 2 (omega arith), above n 3 (omega arith)) (rw (take-nil {A = A} n) refl)

module _ {A : Type 0} (d : A) (x : List A) (long : length x ≡ 4) where
  pub used-slots : (n : ℕ)
      → take n x ≡ one_if (ltb 0 n) (get_or x 0 d) ++ one_if (ltb 1 n) (get_or x 1 d) ++ one_if (ltb 2 n) (get_or x 2 d) ++ one_if (ltb 3 n) (get_or x 3 d)
  used-slots n =
      ap (λ (l : List A). take n l) (sym (four d x long)) ∙ slots-of (get_or x 0 d) (get_or x 1 d) (get_or x 2 d) (get_or x 3 d) n
