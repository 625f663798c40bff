-- What is behind the waiting lines of a buffer.
use Prim.Native.Nat.{ℕ, ◌-◌, ◌≤◌}
use mathlib.Core.Path.{◌≡◌, ap, ◌∙◌}
use mathlib.Core.List.{List, ◌++◌, append-nil}
use lib.ListN.{length, take, drop}
use lib.Seq.{drop_at, drop-length, length-take-le}
use borrow.Rule.Slice.PartMut.{post_of, put_mid, Post-is}

-- what was put behind a place is what then stands behind it
behind-put : (a : ℕ) (xs ys : List ℕ) → a ≤ length xs → drop a (put_mid a (length xs - a) xs ys) ≡ ys
behind-put a xs ys h =
    drop_at (take a xs) (ys ++ post_of a (length xs - a) xs) a (length-take-le a xs h)
    ∙ ap (λ (z : List ℕ). ys ++ z) (Post-is a (length xs) xs h ∙ drop-length xs)
    ∙ append-nil ys
