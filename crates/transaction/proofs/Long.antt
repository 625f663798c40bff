-- A transaction's arrays have four slots: what owning the struct tells. At a goal `search rules` finds it from the argument's type.
use Rattle.std.proofs.Common.{◌≡◌, [], ◌∷◌, length}
use denote.Struct.Laws.{val}
use denote.Shadow.{shadow}
use denote.Struct.Declared.{row}
use Rattle.transaction.specs.declared.Transaction.{Transaction}
use Rattle.transaction.specs.contracts.Transaction as transaction
use Rattle.transaction.proofs.Transaction.TheLaws as transaction-laws

pub record Long (t : Transaction) : Type 0 where
  pub inputs : length t.inputs ≡ 4
  pub outputs : length t.outputs ≡ 4

pub long_of : (t : Transaction)
    → shadow ((row transaction.the_type).own_val t (val transaction.the_type transaction-laws.the_laws t ∷ [])) → Long t
long_of t g = record {
  inputs = g.1.1.1.1.1.0.1.0.1;
  outputs = g.1.1.1.1.1.1.0.1.0.1;
}
