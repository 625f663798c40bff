-- Functions on lists by a test, and the first of a list of checks.
use Rattle.std.specs.Prelude.{ℕ, Result, Ok, Err, ◌+◌, Bool, true, false, cond, ◌&&◌, ◌||◌, List, [], ◌∷◌, take, drop}
use Rattle.transaction.specs.declared.refusal.Refusal.{Refusal}

-- some element passes
abbrev pub any : {A : Type 0} → (A → Bool) → List A → Bool
any f [] = false
any f (x ∷ xs) = f x || any f xs

-- each element passes
abbrev pub all : {A : Type 0} → (A → Bool) → List A → Bool
all f [] = true
all f (x ∷ xs) = f x && all f xs

-- the sum of a number read off each element
abbrev pub total : {A : Type 0} → (A → ℕ) → List A → ℕ
total f [] = 0
total f (x ∷ xs) = f x + total f xs

-- the two lists are as long as each other and agree place by place
abbrev pub agree : {A : Type 0} → (A → A → Bool) → List A → List A → Bool
agree f [] [] = true
agree f [] (y ∷ ys) = false
agree f (x ∷ xs) [] = false
agree f (x ∷ xs) (y ∷ ys) = f x y && agree f xs ys

-- some element matches a later one
abbrev pub repeats : {A : Type 0} → (A → A → Bool) → List A → Bool
repeats f [] = false
repeats f (x ∷ xs) = any (f x) xs || repeats f xs

-- the slots below the count pass the one test, and the slots beyond it the other
abbrev pub slots_fit : {A : Type 0} → (A → Bool) → (A → Bool) → ℕ → List A → Bool
slots_fit used unused count slots = all used (take count slots) && all unused (drop count slots)

-- A table of refusals: tests, each with its row of document 01's table, in order.
-- Its answer is the refusal of the first test that holds, and ok where none does.
abbrev pub first_of : List (Bool × Refusal) → Result Unit Refusal
first_of [] = Ok tt
first_of (check ∷ checks) = cond check.0 (Err check.1) (first_of checks)
