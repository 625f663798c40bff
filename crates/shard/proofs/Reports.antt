-- What is told of the findings about a known transaction, from the slot in which it stands.
use Prim.Native.Nat.{ℕ}
use mathlib.Core.Path.{◌≡◌, refl, sym, ap, ◌∙◌}
use mathlib.Core.List.{List}
use lib.ListN.{get_or}
use Rattle.std.specs.Prelude.{Bool, Ok, Err, Option, Some, None, ok_or}
use Rattle.transaction.specs.declared.refusal.Refusal.{Refusal}
use Rattle.transaction.specs.declared.refusal.Refusal.TheVariants.{NoSuchNumber}
use Rattle.transaction.specs.Lists.{first_of}
use Rattle.transaction.proofs.Tables.{first-stands, first-behind}
use Rattle.model.specs.declared.Findings.{Findings}
use Rattle.model.specs.Steps.{nothing_known}
use Rattle.model.specs.Shard.{is_numbered}
use Rattle.model.specs.Findings.{report_form, report_rest, report_refusals, told, report}
use Rattle.model.proofs.Reported.{report-told, report-refused}
use Rattle.loops.proofs.Positions.{Stands, Nowhere}
use Rattle.layout.specs.Layout.{slot_known}
use Rattle.layout.proofs.Ledgers.{known-length, known-entry}
use Rattle.shard.specs.View.{view, Sound}
use Rattle.shard.specs.View as shard

-- the refusal of what was not found
pub refusal-of : {A : Type 0} (o : Option A) {refusal other : Refusal} → Err refusal ≡ ok_or o other → refusal ≡ other
refusal-of None e = cc
refusal-of (Some place) e = absurd cc

module _ {ws : List ℕ} (sound : Sound ws) (at number : ℕ) where
  abbrev form : List (Bool × Refusal)
  form = report_form (shard.number ws) at number

  abbrev rest : List (Bool × Refusal)
  rest = report_rest (view ws) number

  -- refused by its form
  pub report-formed : {refusal : Refusal} → Err refusal ≡ first_of form → Err refusal ≡ report (shard.number ws) (view ws) at number
  report-formed e = sym (report-refused (shard.number ws) (view ws) at number (first-stands form rest (sym e)))

  module _ (formed : Ok tt ≡ first_of form) where
    -- the number is not known
    pub report-unknown : Nowhere (is_numbered number) (view ws).known → Err NoSuchNumber ≡ report (shard.number ws) (view ws) at number
    report-unknown nowhere =
        sym (report-refused (shard.number ws) (view ws) at number (first-behind form rest (sym formed) ∙ rw (nowhere.none) refl))

    -- it stands at a place, and what is told of that is reported
    module _ {place : ℕ} (stands : Stands (is_numbered number) (view ws).known place) where
      passes : first_of (report_refusals (shard.number ws) (view ws) at number) ≡ Ok tt
      passes = first-behind form rest (sym formed) ∙ rw (stands.some) refl

      entry : slot_known ws place ≡ get_or (view ws).known place nothing_known
      entry = known-entry ws place (rw (known-length ws sound.known) at stands.below) sound.known nothing_known

      pub report-there : {found : Findings} → found ≡ told (shard.number ws) (slot_known ws place)
          → Ok found ≡ report (shard.number ws) (view ws) at number
      report-there is =
          ap Ok (is ∙ ap (told (shard.number ws)) (entry
          ∙ ap (λ (i : ℕ). get_or (view ws).known i nothing_known) (sym stands.first)))
          ∙ sym (report-told (shard.number ws) (view ws) at number passes)
