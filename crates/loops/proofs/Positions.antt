-- The place of the first element that passes: the standard library's `position`, beside `find` and `any` of the model.
use Rattle.std.proofs.Common.{ℕ, ◌≡◌, ◌<◌, ◌≤◌, Bool, true, false, cond, List, length, take, get_or, position}
use Rattle.std.proofs.Common.{Option, Some, None, ltb, suc, [], ◌∷◌, ◌||◌, refl, sym, ap, ◌∙◌, arith}
use Rattle.std.specs.List.{position_or_len}
use Rattle.std.proofs.lemmas.List.Recursion.{is_position_or_len}
use Rattle.std.proofs.lemmas.List.Quantifiers.{position-Some}
use borrow.Author.Tests.{lt-ltb, le-ltb}
use mathlib.Core.Bool.{true≢false}
use lib.Seq.{length-take-le}
use Rattle.transaction.specs.Lists.{any}
use Rattle.model.specs.Lists.{find}
use Rattle.model.proofs.Capacity.{find-below}
use Rattle.loops.proofs.Loops.{Finding, find-hit, find_end}

-- where none passes, the search ends behind the last
find_past : {A : Type 0} (f : A → Bool) (l : List A) → any f l ≡ false → find f l ≡ length l
find_past f [] e = refl
find_past f (x ∷ l) e = go (f x) e (find_past f l)
  where
    go : (b : Bool) → b || any f l ≡ false → (any f l ≡ false → find f l ≡ length l) → cond b 0 (suc (find f l)) ≡ suc (length l)
    go true h r = absurd (true≢false h)
    go false h r = ap suc (r h)

same : (i k : ℕ) → (let a : Option ℕ = Some i in let b : Option ℕ = Some k in a ≡ b) → i ≡ k
same i k e = cc

apart : (k : ℕ) → (let a : Option ℕ = None in let b : Option ℕ = Some k in a ≡ b) → ⊥
apart k e = cc

module _ {A : Type 0} (f : A → Bool) (l : List A) where
  find-position : find f l ≡ position_or_len f l
  find-position = is_position_or_len (find f) f refl (λ x xs. ap (λ n. cond (f x) 0 n) (omega arith)) l

  position-find : position f l ≡ cond (ltb (find f l) (length l)) (Some (find f l)) None
  position-find = ap (λ (n : ℕ). cond (ltb n (length l)) (Some n) None) (sym find-position)

  -- a place that the search has come to, within the list or behind it
  pub position_hit : {k : ℕ} → find f l ≡ k → k < length l → Some k ≡ position f l
  position_hit {k} e h = sym (position-find ∙ rw (e, lt-ltb k (length l) h) refl)

  pub position_past : length l ≤ find f l → None ≡ position f l
  position_past h = sym (position-find ∙ rw (le-ltb (find f l) (length l) h) refl)

  -- some passes, or none does
  by_any : {P : Type 0} → (any f l ≡ true → P) → (any f l ≡ false → P) → P
  by_any {P} some none = go (any f l) refl
    where
      go : (b : Bool) → any f l ≡ b → P
      go true e = some e
      go false e = none e

  -- what the place of the first that passes tells of the list
  pub record Stands (k : ℕ) : Type 0 where
    pub below : k < length l
    pub first : find f l ≡ k
    pub some : any f l ≡ true
    pub passes : (d : A) → f (get_or l k d) ≡ true

  -- and what it tells that there is none
  pub record Nowhere : Type 0 where
    pub past : find f l ≡ length l
    pub none : any f l ≡ false

  pub stands : (k : ℕ) → position f l ≡ Some k → Stands k
  stands k e =
      by_any
      (λ y. let first : find f l ≡ k = same _ k (position_hit refl (find-below f l y) ∙ e) in
      record { below = rw first at (find-below f l y); first = first; some = y; passes = λ d. (position-Some f l k d e).1 })
      (λ n. absurd (apart k (position_past (omega (arith, find_past f l n)) ∙ e)))

  pub nowhere : position f l ≡ None → Nowhere
  nowhere e =
      by_any
      (λ y. absurd (apart (find f l) (sym e ∙ sym (position_hit refl (find-below f l y)))))
      (λ n. record { past = find_past f l n; none = n })

-- at a turn of a loop that searches the first n: the element at i passes, or none is left
module _ {A : Type 0} {f : A → Bool} {l : List A} {n i : ℕ} (s : Finding f l n i) where
  pub position-hit : (d : A) → i < n → n ≤ length l → f (get_or l i d) ≡ true → Some i ≡ position f (take n l)
  position-hit d h k e = position_hit f (take n l) (find-hit d s h k e) (rw (length-take-le n l k) h)

  pub position-past : n ≤ i → n ≤ length l → None ≡ position f (take n l)
  position-past h k = position_past f (take n l) (rw (length-take-le n l k, find_end s h) h)
