-- The writers' promise: on a refusal, and where the record was written.
use Rattle.std.proofs.Common.{ℕ, ◌≡◌, ◌≤◌, Bool, true, false, List, [], ◌∷◌, ◌++◌, Result, Ok, Err, ltb, length, drop, refl, sym, ◌∙◌}
use borrow.Author.Tests.{ltb-false}
use Rattle.transaction.specs.declared.refusal.Refusal.{Refusal}
use Rattle.transaction.specs.declared.refusal.Refusal.TheVariants.{BufferTooShort}
use Rattle.transaction.specs.Lists.{first_of}
use Rattle.transaction.proofs.Tables.{first-behind, first-front}
use Rattle.writer.specs.Writing.{room_checks, with_room, Writes}

-- what ok says: the fields pass, and there is room
module _ (fields : List (Bool × Refusal)) (size room : ℕ) where
  pub fields-pass : with_room fields size room ≡ Ok tt → first_of fields ≡ Ok tt
  fields-pass h = first-front fields (room_checks size room) h

  pub room-there : with_room fields size room ≡ Ok tt → size ≤ room
  room-there h = go (ltb room size) refl (sym (first-behind fields (room_checks size room) (fields-pass h)) ∙ h)
    where
      go : (b : Bool) → ltb room size ≡ b → first_of ((b, BufferTooShort) ∷ []) ≡ Ok tt → size ≤ room
      go true e z = absurd cc
      go false e z = ltb-false room size e

module _ {cause : Result Unit Refusal} (bytes before : List ℕ) where
  pub refuses : {refusal : Refusal} → Err refusal ≡ cause → Writes cause bytes before (Err refusal) before
  refuses e = record {
    number = rw (← e) refl;
    answered = rw (← e) refl;
    lent = rw (← e) refl;
  }

  pub writes : {size : ℕ} {after : List ℕ} → Ok tt ≡ cause → length bytes ≡ size → after ≡ bytes ++ drop size before
      → Writes cause bytes before (Ok size) after
  writes e q h = record {
    number = rw (← e) refl;
    answered = rw (← e, q) refl;
    lent = h ∙ rw (← e, q) refl;
  }
