-- What is asked of a shard: a slot within a count is an element of the ledger's list, and behind the count there is none.
use Prim.Native.Nat.{ℕ, ◌≤◌, ◌<◌}
use mathlib.Core.Path.{◌≡◌, sym, ap, ◌∙◌}
use mathlib.Core.Bool.{Bool}
use mathlib.Core.List.{List}
use native.Mathlib.Omega.{arith}
use lib.ListN.{length, get_or}
use Rattle.std.specs.Prelude.{Some, None, slice_get}
use Rattle.std.proofs.lemmas.Option.{slice_get-get_or, slice_get_past}
use Rattle.model.specs.Steps.{genesis_token, nothing_known}
use Rattle.model.specs.Lists.{find}
use Rattle.loops.proofs.Positions.{Stands, Nowhere}
use Rattle.layout.specs.Layout.{held_place, word, tokens_of, shard_of, slot_token, slot_known}
use Rattle.layout.proofs.Slots.{length-tokens}
use Rattle.layout.proofs.Ledgers.{held-length, known-length, held-entry, known-entry}
use Rattle.shard.specs.View.{view, Sound}

-- no more tokens are held than there are slots
pub held-slots : {ws : List ℕ} → Sound ws → word ws held_place ≤ length (tokens_of ws)
held-slots {ws} sound = omega (arith, sound.held, length-tokens ws)

-- an element of a list, by what stands at its place
stands : {A : Type 0} (l : List A) (place : ℕ) (d : A) {a : A} → place < length l → a ≡ get_or l place d → Some a ≡ slice_get l place
stands l place d h e = ap Some e ∙ sym (slice_get-get_or l place d h)

-- an element that was searched for, by the place that the search has come to
module _ {A : Type 0} {f : A → Bool} (l : List A) where
  pub found-at : {place : ℕ} → Stands f l place → slice_get l place ≡ slice_get l (find f l)
  found-at at = ap (slice_get l) (sym at.first)

  pub found-nowhere : Nowhere f l → None ≡ slice_get l (find f l)
  found-nowhere none = sym (slice_get_past l (find f l) (omega (arith, none.past)))

module _ {ws : List ℕ} (sound : Sound ws) (place : ℕ) where
  -- the tokens held
  held-all : length (view ws).tokens ≡ (shard_of ws).held
  held-all = held-length ws sound.held

  pub token-within : place < (shard_of ws).held → Some (slot_token ws place) ≡ slice_get (view ws).tokens place
  token-within h =
      stands (view ws).tokens place (genesis_token 0 0 0) (omega (arith, held-all)) (held-entry ws place h sound.held (genesis_token 0 0 0))

  pub token-behind : (shard_of ws).held ≤ place → None ≡ slice_get (view ws).tokens place
  token-behind h = sym (slice_get_past (view ws).tokens place (omega (arith, held-all)))

  -- the known transactions
  known-all : length (view ws).known ≡ (shard_of ws).known
  known-all = known-length ws sound.known

  pub known-within : place < (shard_of ws).known → Some (slot_known ws place) ≡ slice_get (view ws).known place
  known-within h =
      stands (view ws).known place nothing_known (omega (arith, known-all)) (known-entry ws place h sound.known nothing_known)

  pub known-behind : (shard_of ws).known ≤ place → None ≡ slice_get (view ws).known place
  known-behind h = sym (slice_get_past (view ws).known place (omega (arith, known-all)))
