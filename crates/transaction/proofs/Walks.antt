-- A loop over inputs: what one more adds to those that were seen.
use Rattle.std.proofs.Common.{ℕ, zero, suc, arith, ◌+◌, ◌≡◌, ◌<◌, ◌≤◌, Bool, true, false, ◌||◌, List, [], ◌∷◌, ◌++◌, length, take, get_or, refl, ap, ◌∙◌}
use Rattle.std.proofs.lemmas.List.{take_more}
use mathlib.Core.Bool.{false≢true}
use Rattle.transaction.specs.Lists.{any, repeats}

shuffle : (p q r s : Bool) → p || q || (r || s) ≡ p || r || (q || s)
shuffle true q r s = refl
shuffle false true true s = refl
shuffle false true false s = refl
shuffle false false r s = refl

any-behind : {A : Type 0} (f : A → Bool) (x : List A) (a : A) → any f (x ++ (a ∷ [])) ≡ any f x || f a
any-behind f [] a = go (f a)
  where
    go : (b : Bool) → b || false ≡ b
    go true = refl
    go false = refl
any-behind f (y ∷ x) a = go (f y) (any f (x ++ (a ∷ []))) (any f x) (any-behind f x a)
  where
    go : (b m n : Bool) → m ≡ n || f a → b || m ≡ b || n || f a
    go true m n e = refl
    go false m n e = e

repeats-behind : {A : Type 0} (f : A → A → Bool) (x : List A) (a : A)
    → repeats f (x ++ (a ∷ [])) ≡ repeats f x || any (λ b. f b a) x
repeats-behind f [] a = refl
repeats-behind f (y ∷ x) a =
    rw (any-behind (f y) x a, repeats-behind f x a) (shuffle (any (f y) x) (f y a) (repeats f x) (any (λ b. f b a) x))

pub repeats-more : {A : Type 0} (f : A → A → Bool) (l : List A) (i : ℕ) (d : A) → i < length l
    → repeats f (take (i + 1) l) ≡ repeats f (take i l) || any (λ b. f b (get_or l i d)) (take i l)
repeats-more f l i d h = ap (repeats f) (take_more l i d h) ∙ repeats-behind f (take i l) (get_or l i d)

-- what is found among the first is found among more
any-within : {A : Type 0} (g : A → Bool) (l : List A) (i n : ℕ) → i ≤ n → any g (take i l) ≡ true → any g (take n l) ≡ true
any-within g l zero n h e = absurd (false≢true e)
any-within g l (suc i) zero h e = absurd (omega arith)
any-within g [] (suc i) (suc n) h e = absurd (false≢true e)
any-within g (a ∷ l) (suc i) (suc n) h e = go (g a) (any-within g l i n (omega arith)) e
  where
    go : (b : Bool) {p q : Bool} → (p ≡ true → q ≡ true) → b || p ≡ true → b || q ≡ true
    go true k e = refl
    go false k e = k e

pub repeats-within : {A : Type 0} (f : A → A → Bool) (l : List A) (i n : ℕ) → i ≤ n → repeats f (take i l) ≡ true
    → repeats f (take n l) ≡ true
repeats-within f l zero n h e = absurd (false≢true e)
repeats-within f l (suc i) zero h e = absurd (omega arith)
repeats-within f [] (suc i) (suc n) h e = absurd (false≢true e)
repeats-within f (a ∷ l) (suc i) (suc n) h e =
    go (any (f a) (take i l)) (any (f a) (take n l)) (any-within (f a) l i n (omega arith)) (repeats-within f l i n (omega arith)) e
  where
    go : (b c : Bool) {p q : Bool} → (b ≡ true → c ≡ true) → (p ≡ true → q ≡ true) → b || p ≡ true → c || q ≡ true
    go true c k m e = rw (k refl) refl
    go false true k m e = refl
    go false false k m e = m e
