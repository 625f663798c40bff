-- A list of four, told by its elements.
use Rattle.std.proofs.Common.{◌≡◌, ℕ, List, [], ◌∷◌, length, get_or, sym, ◌∙◌, refl}
use Rattle.transaction.proofs.Slots.{four}

pub by_four : {A : Type 0} (d : A) (l : List A) (f : ℕ → A) → length l ≡ 4
    → get_or l 0 d ≡ f 0 → get_or l 1 d ≡ f 1 → get_or l 2 d ≡ f 2 → get_or l 3 d ≡ f 3 → l ≡ f 0 ∷ f 1 ∷ f 2 ∷ f 3 ∷ []
by_four d l f long p q r s = sym (four d l long) ∙ rw (p, q, r, s) refl
