-- The tokens that a commit makes, output by output; and one element more behind a list, where it is wanted.
use Rattle.std.proofs.Common.{
  ℕ,
  suc,
  ◌≡◌,
  ◌+◌,
  ◌≤◌,
  ◌<◌,
  Bool,
  true,
  false,
  cond,
  not,
  ◌&&◌,
  List,
  [],
  ◌∷◌,
  ◌++◌,
  length,
  take,
  drop,
  set,
  get_or,
  sym,
  ap,
  ◌∙◌,
  arith,
  length-append,
}
use Rattle.std.proofs.lemmas.List.{take_more, take-append-drop, length-take-le}
use Rattle.transaction.specs.declared.Output.{Output}
use Rattle.model.specs.declared.Token.{Token}
use Rattle.model.specs.Steps.{output_here, token_of, tokens_from}
use borrow.Author.Tests.{not-true, not-false}
use mathlib.Core.List.{append-nil}
use Rattle.loops.specs.Lists.{one_if}
use Rattle.loops.proofs.Loops.{append-one}
use Rattle.holdings.specs.Held.{made_from}

-- one element more, or none
module _ {A : Type 0} (wanted : Bool) (l : List A) (n : ℕ) (x : A) where
  pub push_none : not wanted ≡ true → take n l ≡ take n l ++ one_if wanted x
  push_none e = rw (not-true wanted e) (sym (append-nil (take n l)))

  pub push_one : not wanted ≡ false → n < length l → take (n + 1) (set l n x) ≡ take n l ++ one_if wanted x
  push_one e h = rw (not-false wanted e) (append-one l n x h)

-- an element that is wanted only where its slot is used
module _ {A : Type 0} (used wanted : Bool) (l : List A) (x : A) where
  pub unused : not used ≡ true → l ≡ l ++ one_if (used && wanted) x
  unused e = rw (not-true used e) (sym (append-nil l))

  pub used_if : {found : Bool} {r : List A} → not used ≡ false → found ≡ wanted → r ≡ l ++ one_if found x
      → r ≡ l ++ one_if (used && wanted) x
  used_if e f h = rw (not-false used e, ← f) h

module _ (me number : ℕ) where
  -- what some outputs make stands in front of what those behind them make
  made-behind : (from n : ℕ) (a b : List Output) → from + length a ≡ n
      → tokens_from me number from (a ++ b) ≡ tokens_from me number from a ++ tokens_from me number n b
  made-behind from n [] b e = ap (λ k. tokens_from me number k b) (omega arith)
  made-behind from n (y ∷ a) b e = go (output_here me y) (made-behind (suc from) n a b (omega arith))
    where
      go : (c : Bool) → tokens_from me number (suc from) (a ++ b) ≡ tokens_from me number (suc from) a ++ tokens_from me number n b
          → cond c (token_of number from y ∷ tokens_from me number (suc from) (a ++ b)) (tokens_from me number (suc from) (a ++ b))
          ≡ cond c (token_of number from y ∷ tokens_from me number (suc from) a) (tokens_from me number (suc from) a)
          ++ tokens_from me number n b
      go true e = ap (λ (l : List Token). token_of number from y ∷ l) e
      go false e = e

  module _ (l : List Output) (i : ℕ) (d : Output) (h : i < length l) where
    -- the next output's token
    pub made-next : tokens_from me number 0 (take (i + 1) l) ≡ tokens_from me number 0 (take i l) ++ made_from me number i (get_or l i d)
    made-next =
        ap (tokens_from me number 0) (take_more l i d h)
        ∙ made-behind 0 i (take i l) (get_or l i d ∷ []) (omega (arith, length-take-le i l (omega arith)))

    -- the room that it takes
    pub made-room : length (tokens_from me number 0 (take i l)) + length (made_from me number i (get_or l i d)) ≤ length (tokens_from me number 0 l)
    made-room =
        let m = i + 1 in
        let all : tokens_from me number 0 l ≡ tokens_from me number 0 (take m l) ++ tokens_from me number m (drop m l) =
        ap (tokens_from me number 0) (sym (take-append-drop m l))
        ∙ made-behind 0 m (take m l) (drop m l) (omega (arith, length-take-le m l (omega arith))) in
        let whole = ap length all ∙ length-append (tokens_from me number 0 (take m l)) (tokens_from me number m (drop m l)) in
        let next = ap length made-next ∙ length-append (tokens_from me number 0 (take i l)) (made_from me number i (get_or l i d)) in
        omega (arith, whole, next)
