-- An input awaits the one known transaction of the number that it names.
use Prim.Native.Nat.{ℕ, zero, suc, ◌+◌, ◌≤◌, ◌<◌}
use native.Mathlib.Omega.{arith}
use mathlib.Core.Path.{◌≡◌, refl, sym, ap, ◌∙◌}
use mathlib.Core.Bool.{Bool, true, false, cond, ◌&&◌, and-true, and-false, or-false}
use mathlib.Core.List.{List, [], ◌∷◌}
use borrow.Author.Tests.{eq-eqb, ne_eqb, lt-ltb, le-ltb}
use lib.Dec.{eqb, ltb, leb-suc-suc}
use lib.ListN.{length, get_or, length-take}
use lib.Seq.{get_or-take}
use Rattle.transaction.specs.declared.Input.{Input}
use Rattle.transaction.specs.declared.Output.{Output}
use Rattle.transaction.specs.declared.Transaction.{Transaction}
use Rattle.transaction.specs.Lists.{any}
use Rattle.transaction.specs.Tokens.{used_inputs, used_outputs, zero_output}
use Rattle.transaction.proofs.Slots.{and_right}
use Rattle.model.specs.declared.Token.{Token}
use Rattle.model.specs.declared.Known.{Known}
use Rattle.model.specs.Steps.{input_here, inputs_here, names, output_here, token_of, tokens_from, made_here, outcome_of, nothing_known}
use Rattle.model.specs.Shard.{is_numbered, is_undecided, awaits, held_off}
use Rattle.model.proofs.Basics.{any-keep}
use Rattle.model.proofs.Holdings.{made-named}
use Rattle.loops.proofs.Positions.{Stands, Nowhere}
use Rattle.layout.specs.Layout.{known_slots, shard_of, ledger_of, slot_known}
use Rattle.layout.proofs.Ledgers.{known-length, known-entry}
use Rattle.registry.specs.Numbers.{OneEach}
use Rattle.registry.specs.Made.{makes_here}
use Rattle.registry.proofs.Finds.{AsksNumber, none_passes, passes-there}

-- ---- Made tokens by number and index

module _ (me n : ℕ) (x : Input) where
  -- tokens from an index on: none of them has a lower one
  below-from : (from : ℕ) (ys : List Output) → x.token.index < from → any (names x) (tokens_from me n from ys) ≡ false
  below-from from [] h = refl
  below-from from (y ∷ ys) h = go (output_here me y) (below-from (suc from) ys (omega arith))
    where
      rest : List Token
      rest = tokens_from me n (suc from) ys

      go : (b : Bool) → any (names x) rest ≡ false → any (names x) (cond b (token_of n from y ∷ rest) rest) ≡ false
      go true r = rw (ne_eqb from x.token.index (λ e. omega arith), and-false (eqb n x.token.creator), r) refl
      go false r = r

  -- the one that is so many places behind the first is named by its number and index
  at_from : (from : ℕ) (ys : List Output) (j : ℕ) → x.token.index ≡ from + j
      → any (names x) (tokens_from me n from ys)
      ≡ eqb n x.token.creator && (ltb j (length ys) && output_here me (get_or ys j zero_output))
  at_from from [] j e = rw (le-ltb j 0 (omega arith)) (sym (and-false (eqb n x.token.creator)))
  at_from from (y ∷ ys) zero e =
      rw (lt-ltb 0 (suc (length ys)) (omega arith)) (go (output_here me y) (below-from (suc from) ys (omega arith)))
    where
      rest : List Token
      rest = tokens_from me n (suc from) ys

      go : (b : Bool) → any (names x) rest ≡ false
          → any (names x) (cond b (token_of n from y ∷ rest) rest) ≡ eqb n x.token.creator && (true && b)
      go true r = rw (eq-eqb from x.token.index (omega arith), r) (or-false (eqb n x.token.creator && true))
      go false r = r ∙ sym (and-false (eqb n x.token.creator))
  at_from from (y ∷ ys) (suc j) e = rw (leb-suc-suc (suc j) (length ys)) (go (output_here me y) (at_from (suc from) ys j (omega arith)))
    where
      rest : List Token
      rest = tokens_from me n (suc from) ys

      go : (b : Bool) {v : Bool} → any (names x) rest ≡ v → any (names x) (cond b (token_of n from y ∷ rest) rest) ≡ v
      go true r = rw (ne_eqb from x.token.index (λ z. omega arith), and-false (eqb n x.token.creator)) r
      go false r = r

-- a token that the transaction makes here is named by its number and the index of an output here
names-made : (me : ℕ) (x : Input) (t : Transaction)
    → any (names x) (made_here me t) ≡ eqb t.number x.token.creator && makes_here me t x.token.index
unfolding made_here
names-made me x t = at_from me t.number x 0 (used_outputs t) x.token.index (omega arith)

-- the transaction's outputs by their index, in four slots
module _ (me : ℕ) (t : Transaction) (long : length t.outputs ≡ 4) {index : ℕ} where
  pub makes_far : 4 ≤ index → false ≡ makes_here me t index
  makes_far far = rw (le-ltb index (length (used_outputs t)) (omega (arith, length-take t.output_count t.outputs))) refl

  pub makes_unused : t.output_count ≤ index → false ≡ makes_here me t index
  makes_unused unused = rw (le-ltb index (length (used_outputs t)) (omega (arith, length-take t.output_count t.outputs))) refl

  pub makes_there : index < 4 → index < t.output_count → eqb (get_or t.outputs index zero_output).shard me ≡ makes_here me t index
  makes_there near used =
      rw (
        lt-ltb index (length (used_outputs t)) (omega (arith, length-take t.output_count t.outputs)),
        get_or-take t.output_count t.outputs index zero_output used,
      ) refl

-- ---- The test

-- only a transaction of the number that the input names can pass
asks-awaits : (me : ℕ) (x : Input) → AsksNumber x.token.creator (awaits me x)
asks-awaits me x k e =
    let made = any (names x) (made_here me k.transaction) in
    eq-eqb k.transaction.number x.token.creator (made-named me x k.transaction (and_right (is_undecided (outcome_of k)) made e))

-- does the input await a known transaction
module _ (ws : List ℕ) (most : (shard_of ws).known ≤ known_slots) (one : OneEach (ledger_of ws).known) (me : ℕ) (x : Input) where
  -- where its number is not known, it does not
  pub awaits-none : Nowhere (is_numbered x.token.creator) (ledger_of ws).known → false ≡ any (awaits me x) (ledger_of ws).known
  awaits-none nowhere = sym (none_passes (ledger_of ws).known one x.token.creator nowhere (awaits me x) (asks-awaits me x))

  module _ {place : ℕ} (at : Stands (is_numbered x.token.creator) (ledger_of ws).known place) where
    -- the known transaction there
    abbrev there : Known
    there = slot_known ws place

    entry : there ≡ get_or (ledger_of ws).known place nothing_known
    entry = known-entry ws place (rw (known-length ws most) at at.below) most nothing_known

    there-is : any (awaits me x) (ledger_of ws).known ≡ awaits me x there
    there-is =
        passes-there (ledger_of ws).known one x.token.creator at (awaits me x) (asks-awaits me x) ∙ ap (awaits me x) (sym entry)

    there-makes : {makes : Bool} → makes ≡ makes_here me there.transaction x.token.index
        → is_undecided (outcome_of there) && makes ≡ any (awaits me x) (ledger_of ws).known
    there-makes {makes} em =
        let numbered = ap (is_numbered x.token.creator) entry ∙ at.passes nothing_known in
        rw (there-is, names-made me x there.transaction, numbered, ← em) refl

    module _ {makes : Bool} (em : makes ≡ makes_here me there.transaction x.token.index) where
      -- where that one makes nothing of the index here, it does not
      pub awaits-other : makes ≡ false → makes ≡ any (awaits me x) (ledger_of ws).known
      awaits-other none = none ∙ sym (rw none (and-false (is_undecided (outcome_of there)))) ∙ there-makes em

      -- else it does while that one is undecided
      pub awaits_if : makes ≡ true → {undecided : Bool} → undecided ≡ is_undecided (outcome_of there)
          → undecided ≡ any (awaits me x) (ledger_of ws).known
      awaits_if is_made eu = eu ∙ sym (rw is_made (and-true (is_undecided (outcome_of there)))) ∙ there-makes em

-- some used input is here and does
module _ (me : ℕ) (known : List Known) (t : Transaction) where
  abbrev waits : Input → Bool
  waits x = input_here me x && any (awaits me x) known

  pub held_off-by : {used : List Input} {held : Bool} → used ≡ used_inputs t → any waits used ≡ held → held ≡ held_off me known t
  unfolding held_off inputs_here
  held_off-by {used} e h =
      sym h ∙ ap (any waits) e ∙ sym (any-keep (λ x. any (awaits me x) known) (input_here me) (used_inputs t))
