-- A reference to lent memory as a contract sees it: by what stands there. Where it points, and under which name, is nothing that a contract speaks of.
use Prim.Native.Nat.{ℕ}
use base.Fml.{GName}
use denote.Ref.{Bor, MutBor}

pub record Place : Type 0 where
  pub ptr : ℕ × ℕ
  pub name : GName

-- what is written to
abbrev pub refers : {A : Type 0} → Place → A → MutBor A
refers at value = record { ref_ptr = at.ptr; ghost_name = at.name; now = value }

-- what is read
abbrev pub reads : {A : Type 0} → Place → A → Bor A
reads at value = record { ref_ptr = at.ptr; now = value }
