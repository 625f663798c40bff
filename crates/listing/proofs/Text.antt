-- Words put one behind the other are the whole line.
use Prim.Native.Nat.{ℕ, ◌+◌, ◌≤◌, ◌<◌}
use native.Mathlib.Omega.{arith}
use mathlib.Core.Path.{◌≡◌, refl, ap, ◌∙◌}
use mathlib.Core.List.{List, [], ◌∷◌, ◌++◌, append_assoc, append-nil}
use lib.ListN.{length, length-append}
use Rattle.model.specs.Answers.{Answer}
use Rattle.listing.specs.Lines.{decimal, spaced, words_of, line_of, total_line}
use Rattle.listing.proofs.Digits.{short}

-- a space and a number of 8 bits are four bytes at most
pub small-within : (line : List ℕ) (n : ℕ) {mid after : List ℕ} → n < 256 → mid ≡ line ++ (32 ∷ [])
    → after ≡ mid ++ decimal n
    → length after ≤ length line + 4
small-within line n {mid} {after} h e f =
    omega (
      arith,
      ap length f,
      length-append mid (decimal n),
      ap length e,
      length-append line (32 ∷ []),
      short n h,
    )

module _ {start one two line : List ℕ} (empty : start ≡ []) where
  pub step-line : {three : List ℕ} (step : ℕ) (place : List ℕ) (answer : Answer)
      → one ≡ start ++ decimal step
      → two ≡ one ++ (32 ∷ place)
      → three ≡ two ++ spaced (words_of answer)
      → line ≡ three ++ (10 ∷ [])
      → line ≡ line_of step place answer
  unfolding line_of
  step-line step place answer a b c d =
      d ∙ rw (c, b, a, empty) (ap (λ (z : List ℕ). z ++ (10 ∷ [])) (append_assoc (decimal step) (32 ∷ place) (spaced (words_of answer))))

  pub total-line : (amount : ℕ)
      → one ≡ start ++ (84 ∷ 79 ∷ 84 ∷ 65 ∷ 76 ∷ 32 ∷ [])
      → two ≡ one ++ decimal amount
      → line ≡ two ++ (10 ∷ [])
      → line ≡ total_line amount
  unfolding total_line
  total-line amount a b d = d ∙ rw (b, a, empty, append-nil (decimal amount)) refl
