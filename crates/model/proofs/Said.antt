-- What is heard from a sender, by its cases: nothing, no, yes.
use Prim.Native.Nat.{ℕ}
use mathlib.Core.Path.{◌≡◌, refl, ap, sym, ◌∙◌}
use mathlib.Core.Bool.{true, false, true≢false, false≢true}
use lib.Dec.{eqb}
use Rattle.std.specs.Prelude.{Some, None, is_some}
use Rattle.std.proofs.lemmas.Option.{same_Some}
use Rattle.model.specs.Said.{Said, is_said_yes, is_said_no, says}
use Rattle.model.proofs.Basics.{eqb-eq}

-- no is not yes
pub no≢yes : ◌≡◌ {A = Said} (Some false) (Some true) → ⊥
no≢yes e = false≢true (same_Some false true e)

-- what is yes
pub yes-said : (c : Said) → is_said_yes c ≡ true → c ≡ Some true
yes-said None e = absurd (false≢true e)
yes-said (Some verdict) e = ap Some e

-- what is no
pub no-said : (c : Said) → is_said_no c ≡ true → c ≡ Some false
no-said None e = absurd (false≢true e)
no-said (Some true) e = absurd (false≢true e)
no-said (Some false) e = refl

-- what is not heard is nothing
pub nothing-said : (c : Said) → is_some c ≡ false → c ≡ None
nothing-said None e = refl
nothing-said (Some verdict) e = absurd (true≢false e)

-- what is heard is not nothing
pub something-said : (c : Said) → is_some c ≡ true → c ≡ None → ⊥
something-said c e z = true≢false (sym e ∙ ap is_some z)

-- what is heard, and not no, is yes
pub yes_of : (c : Said) → is_some c ≡ true → is_said_no c ≡ false → is_said_yes c ≡ true
yes_of None e n = absurd (false≢true e)
yes_of (Some true) e n = refl
yes_of (Some false) e n = absurd (true≢false n)

-- a raw verdict that is the one heard is noted as it is heard
pub says-verdict : (c : Said) (verdict : ℕ) → says c verdict ≡ true → c ≡ Some (eqb verdict 1)
says-verdict None verdict e = absurd (false≢true e)
says-verdict (Some true) verdict e = ap Some (sym e)
says-verdict (Some false) verdict e = ap (λ (v : ℕ). Some (eqb v 1)) (sym (eqb-eq verdict 0 e))
