-- The cases of `cause_of`, each from what was found of the parts, and what its ok says.
use Prim.Native.Nat.{ℕ}
use mathlib.Core.Path.{◌≡◌, refl, sym, ap}
use mathlib.Core.Bool.{Bool, true, false, ◌&&◌}
use borrow.Author.Tests.{eq-eqb, ne_eqb}
use lib.Dec.{eqb}
use Rattle.std.proofs.Common.{Ok, Err}
use Rattle.transaction.specs.declared.refusal.Refusal.TheVariants.{OutOfRange, TokenTwice, SumsDiffer}
use Rattle.transaction.specs.declared.Input.{Input}
use Rattle.transaction.specs.declared.Output.{Output}
use Rattle.transaction.specs.declared.Transaction.{Transaction}
use Rattle.transaction.specs.Lists.{total, slots_fit}
use Rattle.transaction.specs.Tokens.{used_inputs, used_outputs, same_input, same_output, zero_input, zero_output}
use Rattle.transaction.specs.Checks.{
  input_fits,
  output_fits,
  counts_fit,
  fields_fit,
  named_twice,
  input_amount,
  output_amount,
  balanced,
  cause_of,
}
use Rattle.transaction.proofs.Slots.{and_left, and_right, total-used}
use Rattle.transaction.proofs.Same.{same_input_equal, same_output_equal}

-- an unused slot holds no amount
input_none : (x : Input) → same_input zero_input x ≡ true → input_amount x ≡ 0
input_none x h = ap input_amount (sym (same_input_equal zero_input x h))

output-none : (y : Output) → same_output zero_output y ≡ true → output_amount y ≡ 0
output-none y h = ap output_amount (sym (same_output_equal zero_output y h))

module _ (genesis : ℕ) (t : Transaction) where
  -- what check 3 says of the counts and of the slots
  abbrev pub fits-inputs : Bool
  fits-inputs = slots_fit (input_fits genesis) (same_input zero_input) t.input_count t.inputs

  abbrev fits-outputs : Bool
  fits-outputs = slots_fit output_fits (same_output zero_output) t.output_count t.outputs

  pub counts : fields_fit genesis t ≡ true → counts_fit t ≡ true
  unfolding fields_fit
  counts h = and_left (counts_fit t) fits-inputs (and_left (counts_fit t && fits-inputs) fits-outputs h)

  -- check 3 from its parts, up to the first that fails
  pub fit-counts : false ≡ counts_fit t → false ≡ fields_fit genesis t
  unfolding fields_fit
  fit-counts n = rw (sym n) refl

  module _ (within : true ≡ counts_fit t) where
    pub fit-inputs : false ≡ fits-inputs → false ≡ fields_fit genesis t
    unfolding fields_fit
    fit-inputs n = rw (sym within, sym n) refl

    pub fit-outputs : true ≡ fits-inputs → {outs : Bool} → outs ≡ fits-outputs → outs ≡ fields_fit genesis t
    unfolding fields_fit
    fit-outputs y f = rw (sym within, sym y) f

  -- where check 3 passes, the sums over all four slots are those over the used ones
  input-sum : fields_fit genesis t ≡ true → total input_amount (used_inputs t) ≡ total input_amount t.inputs
  unfolding fields_fit
  input-sum h =
      total-used input_amount (input_fits genesis) (same_input zero_input) input_none t.input_count t.inputs
      (and_right (counts_fit t) fits-inputs (and_left (counts_fit t && fits-inputs) fits-outputs h))

  output-sum : fields_fit genesis t ≡ true → total output_amount (used_outputs t) ≡ total output_amount t.outputs
  unfolding fields_fit
  output-sum h =
      total-used output_amount output_fits (same_output zero_output) output-none t.output_count t.outputs
      (and_right (counts_fit t && fits-inputs) fits-outputs h)

  pub cause_3 : false ≡ fields_fit genesis t → Err OutOfRange ≡ cause_of genesis t
  unfolding cause_of
  cause_3 n = rw (sym n) refl

  -- where check 3 passes
  module _ (fit : true ≡ fields_fit genesis t) where
    pub cause_4 : true ≡ named_twice t → Err TokenTwice ≡ cause_of genesis t
    unfolding cause_of
    cause_4 twice = rw (sym fit, sym twice) refl

    -- and check 4 too, the sums found being those of all slots
    module _ (once : false ≡ named_twice t) {m n : ℕ} (em : m ≡ total input_amount t.inputs)
        (en : n ≡ total output_amount t.outputs) where
      sums : balanced t ≡ eqb m n
      unfolding balanced
      sums = rw (input-sum (sym fit), output-sum (sym fit), em, en) refl

      pub cause_5 : (m ≡ n → ⊥) → Err SumsDiffer ≡ cause_of genesis t
      unfolding cause_of
      cause_5 q = rw (sym fit, sym once, sums, ne_eqb m n q) refl

      pub cause_0 : m ≡ n → Ok tt ≡ cause_of genesis t
      unfolding cause_of
      cause_0 q = rw (sym fit, sym once, sums, eq-eqb m n q) refl
