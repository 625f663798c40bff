-- Tables of refusals, row by row and one behind the other.
use Rattle.std.proofs.Common.{◌≡◌, refl, sym, ◌∙◌, Bool, true, false, List, [], ◌∷◌, ◌++◌, Result, Ok, Err}
use Rattle.transaction.specs.declared.refusal.Refusal.{Refusal}
use Rattle.transaction.specs.Lists.{first_of}

-- a row whose test holds, and one whose test does not
module _ (test : Bool) (refusal : Refusal) (others : List (Bool × Refusal)) where
  pub row_holds : test ≡ true → Err refusal ≡ first_of ((test, refusal) ∷ others)
  row_holds e = rw e refl

  pub row_passes : {found : Result Unit Refusal} → test ≡ false → found ≡ first_of others
      → found ≡ first_of ((test, refusal) ∷ others)
  row_passes e f = rw e f

-- Where one of the first table's checks fails, no check behind them counts; where none fails, those behind do.
pub first-stands : (fields others : List (Bool × Refusal)) {refusal : Refusal} → first_of fields ≡ Err refusal
    → first_of (fields ++ others) ≡ Err refusal
first-stands [] others e = absurd cc
first-stands ((true, k) ∷ fields) others e = e
first-stands ((false, k) ∷ fields) others e = first-stands fields others e

pub first-behind : (fields others : List (Bool × Refusal)) → first_of fields ≡ Ok tt
    → first_of (fields ++ others) ≡ first_of others
first-behind [] others e = refl
first-behind ((true, k) ∷ fields) others e = absurd cc
first-behind ((false, k) ∷ fields) others e = first-behind fields others e

-- Where both tables pass, the first one passes.
pub first-front : (fields others : List (Bool × Refusal)) → first_of (fields ++ others) ≡ Ok tt → first_of fields ≡ Ok tt
first-front [] others e = refl
first-front ((true, k) ∷ fields) others e = absurd cc
first-front ((false, k) ∷ fields) others e = first-front fields others e

-- the same of what was found in the first table, and then in the second
module _ (fields others : List (Bool × Refusal)) {found : Result Unit Refusal} (e : found ≡ first_of fields) where
  pub table_stands : {refusal : Refusal} → found ≡ Err refusal → found ≡ first_of (fields ++ others)
  table_stands n = n ∙ sym (first-stands fields others (sym e ∙ n))

  pub table_behind : {behind : Result Unit Refusal} → found ≡ Ok tt → behind ≡ first_of others
      → behind ≡ first_of (fields ++ others)
  table_behind z f = f ∙ sym (first-behind fields others (sym e ∙ z))
