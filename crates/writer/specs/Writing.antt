-- What a writer answers and what it leaves in the lent bytes: rows 3, 4, 5 and then 15 of document 01's table of
-- refusals.
use Rattle.std.specs.Prelude.{ℕ, ◌≡◌, Bool, Result, Ok, Err, List, [], ◌∷◌, ◌++◌, ltb, length, drop}
use Rattle.transaction.specs.declared.Transaction.{Transaction}
use Rattle.transaction.specs.declared.refusal.Refusal.{Refusal}
use Rattle.transaction.specs.declared.refusal.Refusal.TheVariants.{BufferTooShort}
use Rattle.transaction.specs.Refusals.{number_of, answer_of}
use Rattle.transaction.specs.Lists.{first_of}
use Rattle.transaction.specs.Checks.{house_genesis, register_checks, vote_checks, mint_checks, turn_checks}

-- 15 where the lent bytes are fewer than the record
abbrev pub room_checks : ℕ → ℕ → List (Bool × Refusal)
room_checks size room = (ltb room size, BufferTooShort) ∷ []

-- the field checks of the kind, then that of the room; ok where the record is written
abbrev pub with_room : List (Bool × Refusal) → ℕ → ℕ → Result Unit Refusal
with_room fields size room = first_of (fields ++ room_checks size room)

unfoldable pub register_cause : ℕ → Transaction → ℕ → Result Unit Refusal
register_cause receiver t room = with_room (register_checks house_genesis receiver t) 100 room

unfoldable pub vote_cause : ℕ → ℕ → ℕ → Transaction → ℕ → Result Unit Refusal
vote_cause receiver sender verdict t room = with_room (vote_checks house_genesis receiver sender verdict t) 102 room

unfoldable pub mint_cause : ℕ → ℕ → ℕ → ℕ → ℕ → Result Unit Refusal
mint_cause receiver index owner amount room = with_room (mint_checks house_genesis receiver index owner amount) 11 room

unfoldable pub turn_cause : ℕ → ℕ → Result Unit Refusal
turn_cause receiver room = with_room (turn_checks receiver) 2 room

-- the lent bytes afterwards: the record and what stood behind it, or on a refusal every byte as it was
abbrev pub lent_after : Result Unit Refusal → List ℕ → List ℕ → List ℕ
lent_after (Ok pass) bytes before = bytes ++ drop (length bytes) before
lent_after (Err refusal) bytes before = before

-- what a writer promises, by the first check that fits and the record's bytes
pub record Writes (cause : Result Unit Refusal) (bytes before : List ℕ) (answer : Result ℕ Refusal) (after : List ℕ) : Type 0 where
  pub number : number_of answer ≡ number_of cause
  pub answered : answer ≡ answer_of cause (length bytes)
  pub lent : after ≡ lent_after cause bytes before
