-- Functions on lists by a test, and on options.
use Rattle.std.specs.Prelude.{ℕ, suc, Bool, true, false, cond, List, [], ◌∷◌}
use Rattle.std.proofs.Math.Option.{Option, none, some}

-- the elements that pass, in their order
abbrev pub keep : {A : Type 0} → (A → Bool) → List A → List A
keep f [] = []
keep f (x ∷ xs) = cond (f x) (x ∷ keep f xs) (keep f xs)

-- the place of the first element that passes; the list's length where none does
abbrev pub find : {A : Type 0} → (A → Bool) → List A → ℕ
find f [] = 0
find f (x ∷ xs) = cond (f x) 0 (suc (find f xs))

-- the first element that passes, if there is one
abbrev pub lookup : {A : Type 0} → (A → Bool) → List A → Option A
lookup f [] = none
lookup f (x ∷ xs) = cond (f x) (some x) (lookup f xs)

-- what is there, read by a function
abbrev pub map_option : {A B : Type 0} → (A → B) → Option A → Option B
map_option f none = none
map_option f (some a) = some (f a)

-- what is there passes a test
abbrev pub passes : {A : Type 0} → (A → Bool) → Option A → Bool
passes f none = false
passes f (some a) = f a

-- nothing is there
abbrev pub is_none : {A : Type 0} → Option A → Bool
is_none none = true
is_none (some a) = false

-- a further step from what is there; nothing where nothing is there, or where the step gives nothing
abbrev pub and_then : {A B : Type 0} → (A → Option B) → Option A → Option B
and_then f none = none
and_then f (some a) = f a
