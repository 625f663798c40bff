-- Lines stored one behind the other are one store of the lines joined.
use Prim.Native.Nat.{ℕ, ◌+◌, ◌-◌, ◌≤◌}
use native.Mathlib.Nat.{add-zero, add-suc, suc-add, zero-add}
use native.Mathlib.Omega.{arith}
use mathlib.Core.Path.{◌≡◌, refl, sym, ap, ◌∙◌, subst}
use mathlib.Core.List.{List, [], ◌∷◌, ◌++◌, append_assoc}
use lib.ListN.{length, take, length-append}
use lib.Seq.{sets, sets-eq, length-sets}
use borrow.Rule.Slice.PartMut.{post_of, put_mid, Post-is}
use Rattle.listing.specs.Lines.{total_line}
use Rattle.listing.specs.Parts.{Puts, Shows}

sets-append : (l : List ℕ) (i : ℕ) (xs ys : List ℕ) → sets l i (xs ++ ys) ≡ sets (sets l i xs) (i + length xs) ys
sets-append l i [] ys = rw add-zero
sets-append l i (x ∷ xs) ys = rw (add-suc, ← suc-add) (sets-append _ _ xs ys)

module _ {b m a : List ℕ} {at i j : ℕ} {u v : List ℕ} {p q : ℕ} where
  -- a second text right behind the first
  pub then : Puts b at u p m i → Puts m i v q a j → Puts b at (u ++ v) (p + q) a j
  then x y = record {
    stored =
        y.stored ∙ ap (λ (z : List ℕ). sets z i v) x.stored ∙ ap (λ (k : ℕ). sets (sets b at u) k v) x.behind
        ∙ sym (sets-append b at u v);
    behind = omega (arith, x.behind, y.behind, length-append u v);
    within = omega (arith, x.within, y.within);
  }

-- the same text, with another bound
pub bounded : {b a : List ℕ} {at j : ℕ} {u : List ℕ} {p : ℕ} (q : ℕ) → Puts b at u p a j → j ≤ at + q
    → Puts b at u q a j
bounded q x h = record { stored = x.stored; behind = x.behind; within = h }

-- as many bytes as before
pub same-room : {b m : List ℕ} {at i : ℕ} {u : List ℕ} {p : ℕ} → Puts b at u p m i → length m ≡ length b
same-room {b} {m} {at} {i} {u} x = ap length x.stored ∙ length-sets b at u

-- a line that is copied into a part of lent bytes
pub copied : (l : List ℕ) (at n : ℕ) (line : List ℕ) {copy : List ℕ} → copy ≡ line → n ≡ length line → n ≤ 64
    → at + 64 ≤ length l
    → Puts l at line 64 (put_mid at (at + n - at) l copy) (at + n)
copied l at n line {copy} e size most room = record {
  stored =
      sym (append_assoc (take at l) copy (post_of at (at + n - at) l))
      ∙ rw (e, Post-is at (at + n) l (omega arith), size)
      (sym (sets-eq line l at (omega (arith, size, most, room))));
  behind = ap (λ (k : ℕ). at + k) size;
  within = omega (arith, most);
}

-- a line that was stored from the front, of the amount that was found
pub total-shown : {l a line : List ℕ} {j amount held : ℕ} → length l ≡ 64 → line ≡ total_line amount → amount ≡ held
    → Puts l 0 line 64 a j
    → Shows (total_line held) l a j
total-shown {l} {a} {line} {j} {amount} long is e x =
    subst (λ (z : List ℕ). Shows z l a j) (is ∙ ap total_line e) (record {
      text = x.stored ∙ sets-eq line l 0 (omega (arith, x.behind, x.within, long)) ∙ rw (zero-add) refl;
      size = x.behind ∙ zero-add (length line);
      within = omega (arith, x.within);
    })
