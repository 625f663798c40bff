-- How many elements of a list pass.
use Rattle.std.proofs.Common.{ℕ, ◌≡◌, ◌+◌, Bool, true, false, cond, List, [], ◌∷◌, length, ◌∙◌, arith, fold}
use Rattle.std.specs.Prelude.{count_by}
use Rattle.model.specs.Lists.{keep}

-- as many as are kept
pub counts-kept : {A : Type 0} (f : A → Bool) (l : List A) → count_by f l ≡ length (keep f l)
counts-kept {A} f l = from 0 l ∙ omega arith
  where
    from : (n : ℕ) (l : List A) → fold (λ a y. a + cond (f y) 1 0) n l ≡ n + length (keep f l)
    from n [] = omega arith
    from n (x ∷ l) = from (n + cond (f x) 1 0) l ∙ go (f x)
      where
        go : (b : Bool) → n + cond b 1 0 + length (keep f l) ≡ n + length (cond b (x ∷ keep f l) (keep f l))
        go true = omega arith
        go false = omega arith
