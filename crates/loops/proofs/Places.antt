-- Loops that change the first n elements of a list in its own place: at index i the list itself holds what is left.
use Prim.Native.Nat.{ℕ, ◌+◌, ◌≤◌, ◌<◌}
use mathlib.Core.Path.{◌≡◌, refl, ap, sym, ◌∙◌}
use mathlib.Core.List.{List, [], ◌∷◌, ◌++◌, map, append-nil}
use mathlib.Core.Bool.{Bool, true, false}
use native.Mathlib.Numerals.{add-one}
use native.Mathlib.Omega.{arith}
use lib.ListN.{length, take, drop, set, get_or, length-set}
use lib.Seq.{slice, slice_empty, take-suc-set, take-set-lt, drop-set-lt, set-get_or, append_snoc}
use Rattle.model.specs.Lists.{keep}
use Rattle.loops.proofs.Loops.{slice_step}

-- a store at w leaves what is behind i
behind_store : {A : Type 0} (q : List A) (n w i : ℕ) (x : A) → w ≤ i → i < n → slice (i + 1) n (set q w x) ≡ slice (i + 1) n q
behind_store q n w i x h k = ap (drop (i + 1)) (take-set-lt n q w x (omega arith)) ∙ drop-set-lt (i + 1) (take n q) w x (omega arith)

-- ---- Those that pass move together: w are in place
pub record Packing {A : Type 0} (f : A → Bool) (l : List A) (n : ℕ) (q : List A) (w i : ℕ) : Type 0 where
  pub behind : w ≤ i
  pub within : i ≤ n
  pub room : n ≤ length q
  pub left : take w q ++ keep f (slice i n q) ≡ keep f (take n l)

module _ {A : Type 0} {f : A → Bool} {l : List A} {n : ℕ} where
  pub pack_start : n ≤ length l → Packing f l n l 0 0
  pack_start h = record { behind = omega arith; within = omega arith; room = h; left = refl }

  module _ {q : List A} {w i : ℕ} (d : A) (s : Packing f l n q w i) (h : i < n) where
    pub pack_out : f (get_or q i d) ≡ false → Packing f l n q w (i + 1)
    pack_out e = record {
      behind = omega (arith, s.behind);
      within = omega arith;
      room = s.room;
      left = rw (slice_step q n i d h s.room, e) at s.left;
    }

    pub pack_in : f (get_or q i d) ≡ true → Packing f l n (set q w (get_or q i d)) (w + 1) (i + 1)
    pack_in e =
        let x : A = get_or q i d in
        let a : take (w + 1) (set q w x) ≡ take w q ++ (x ∷ []) = rw add-one (take-suc-set q w x (omega (arith, s.room, s.behind))) in
        let o : take w q ++ (x ∷ keep f (slice (i + 1) n q)) ≡ keep f (take n l) = rw (slice_step q n i d h s.room, e) at s.left in
        record {
          behind = omega (arith, s.behind);
          within = omega arith;
          room = rw length-set s.room;
          left = rw (a, behind_store q n w i x s.behind h) (append_snoc (take w q) x (keep f (slice (i + 1) n q)) ∙ o);
        }

  pub pack_end : {q : List A} {w i : ℕ} → Packing f l n q w i → n ≤ i → take w q ≡ keep f (take n l)
  pack_end {q} {w} {i} s h =
      let e : i ≡ n = omega (arith, s.within) in
      let z : slice i n q ≡ [] = rw e (slice_empty n q) in
      sym (append-nil (take w q)) ∙ (rw z at s.left)

-- ---- Each by f
pub record Placing {A : Type 0} (f : A → A) (l : List A) (n : ℕ) (q : List A) (i : ℕ) : Type 0 where
  pub within : i ≤ n
  pub room : n ≤ length q
  pub left : take i q ++ map f (slice i n q) ≡ map f (take n l)

module _ {A : Type 0} {f : A → A} {l : List A} {n : ℕ} where
  pub place-start : n ≤ length l → Placing f l n l 0
  place-start h = record { within = omega arith; room = h; left = refl }

  module _ {q : List A} {i : ℕ} (d : A) (s : Placing f l n q i) (h : i < n) where
    pub place-put : {y : A} → y ≡ f (get_or q i d) → Placing f l n (set q i y) (i + 1)
    place-put {y} e =
        let a : take (i + 1) (set q i y) ≡ take i q ++ (y ∷ []) = rw add-one (take-suc-set q i y (omega (arith, s.room))) in
        let o : take i q ++ (y ∷ map f (slice (i + 1) n q)) ≡ map f (take n l) = rw e (rw (slice_step q n i d h s.room) at s.left) in
        record {
          within = omega arith;
          room = rw length-set s.room;
          left = rw (a, behind_store q n i i y (omega arith) h) (append_snoc (take i q) y (map f (slice (i + 1) n q)) ∙ o);
        }

    pub place-stays : f (get_or q i d) ≡ get_or q i d → Placing f l n q (i + 1)
    place-stays e = rw (set-get_or q i d) at (place-put (sym e))

  pub place_end : {q : List A} {i : ℕ} → Placing f l n q i → n ≤ i → take n q ≡ map f (take n l)
  place_end {q} {i} s h =
      let e : i ≡ n = omega (arith, s.within) in
      let z : slice i n q ≡ [] = rw e (slice_empty n q) in
      sym (append-nil (take n q)) ∙ (rw (z, e) at s.left)
