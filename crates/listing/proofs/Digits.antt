-- The digits that are written are the number in decimal without leading zeros, and a small number has few.
use Prim.Native.Nat.{ℕ, zero, suc, ◌+◌, ◌*◌, ◌/◌, ◌%◌, ◌^◌, ◌≤◌, ◌<◌}
use native.Mathlib.Nat.{pow-suc}
use native.Mathlib.Numerals.{sub-one}
use native.Mathlib.Omega.{arith}
use mathlib.Core.Path.{◌≡◌, refl}
use mathlib.Core.Bool.{Bool, true, false}
use borrow.Author.Tests.{lt-ltb, le-ltb}
use lib.Dec.{ltb}
use lib.ListN.{length, length-append}
use Rattle.io.specs.Digits.{hex_digit_ascii, last_digits, IsDigitCount}
use Rattle.listing.specs.Lines.{decimal_within, decimal}

-- a digit below ten
glyph_of : (n : ℕ) → n < 10 → hex_digit_ascii n ≡ 48 + n
glyph_of n h = rw (lt-ltb n 10 h) refl

some : (k : ℕ) → 1 ≤ 10 ^ k
some zero = omega arith
some (suc k) = omega (arith, pow-suc 10 k, some k)

-- k + 1 digits, the first of them not 0
digits_decimal : (k enough n : ℕ) → n < 10 ^ suc k → (1 ≤ k → 10 ^ k ≤ n) → n < enough
    → last_digits 10 (suc k) n ≡ decimal_within enough n
unfolding decimal_within
digits_decimal k zero n below first h = absurd (omega arith)
digits_decimal zero (suc enough) n below first h =
    let one : n < 10 = omega (arith, below) in
    let e : n % 10 ≡ n = omega arith in
    rw (lt-ltb n 10 one, e, glyph_of n one) refl
digits_decimal (suc j) (suc enough) n below first h =
    let p : 10 ^ suc (suc j) ≡ 10 ^ suc j * 10 = pow-suc 10 (suc j) in
    let q : 10 ^ suc j ≡ 10 ^ j * 10 = pow-suc 10 j in
    let f : 10 ^ suc j ≤ n = first (omega arith) in
    let t : 10 ≤ n = omega (arith, some j) in
    let s : n / 10 < 10 ^ suc j = omega arith in
    let u : n / 10 < enough = omega arith in
    rw (le-ltb n 10 t, digits_decimal j enough (n / 10) s (λ _. omega arith) u, glyph_of (n % 10) (omega arith)) refl

-- the fewest digits that hold the number
pub spelled : (k n : ℕ) → IsDigitCount 10 1 n k → last_digits 10 k n ≡ decimal n
unfolding decimal
spelled zero n f = absurd (omega (arith, f.0))
spelled (suc j) n f = digits_decimal j (suc n) n f.1 (λ h. rw (sub-one) at (f.2 (omega arith))) (omega arith)

-- how many digits there are
short-within : (k enough n : ℕ) → n < 10 ^ suc k → length (decimal_within enough n) ≤ suc k
unfolding decimal_within
short-within k zero n below = omega arith
short-within zero (suc enough) n below =
    let one : n < 10 = omega (arith, below) in
    rw (lt-ltb n 10 one) (omega arith)
short-within (suc j) (suc enough) n below =
    go (ltb n 10) refl (short-within j enough (n / 10) (omega (arith, pow-suc 10 (suc j))))
  where
    go : (b : Bool) → ltb n 10 ≡ b → length (decimal_within enough (n / 10)) ≤ suc j
        → length (decimal_within (suc enough) n) ≤ suc (suc j)
    go true e h = rw e (omega arith)
    go false e h = rw (e, length-append) (omega arith)

-- a number of 8 bits has at most three digits
pub short : (n : ℕ) → n < 256 → length (decimal n) ≤ 3
unfolding decimal
short n h = short-within 2 (suc n) n (omega arith)
