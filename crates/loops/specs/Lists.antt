-- A list function that contracts of loops and unrolled slots share.
use Rattle.std.specs.Prelude.{Bool, cond, List, [], ◌∷◌}

-- the element, where it is wanted
abbrev pub one_if : {A : Type 0} → Bool → A → List A
one_if wanted x = cond wanted (x ∷ []) []
