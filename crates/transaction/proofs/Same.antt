-- Two transactions pass the test of equality exactly when their records are equal.
use Prim.Native.Nat.{ℕ}
use mathlib.Core.Path.{◌≡◌, refl}
use mathlib.Core.Bool.{Bool, true, false, ◌&&◌, false≢true}
use mathlib.Core.List.{List, [], ◌∷◌}
use mathlib.Core.Logic.{◌↔◌}
use borrow.Author.Tests.{eqb-true, eq-eqb}
use lib.Dec.{eqb}
use lib.Pointwise.{pointwise}
use Rattle.std.proofs.Math.Bool.{and_assoc}
use Rattle.transaction.specs.declared.TokenId.{TokenId}
use Rattle.transaction.specs.declared.Input.{Input}
use Rattle.transaction.specs.declared.Output.{Output}
use Rattle.transaction.specs.declared.Transaction.{Transaction}
use Rattle.transaction.specs.Lists.{agree}
use Rattle.transaction.specs.Tokens.{same_token, same_input, same_output, same_transaction}

-- both of two tests
both : (a b : Bool) → a && b ≡ true → (a ≡ true) × (b ≡ true)
both true b h = (refl, h)
both false b h = absurd (false≢true h)

eqb_refl : (n : ℕ) → eqb n n ≡ true
eqb_refl n = eq-eqb n n refl

-- a test that is true of equal records alone, carried to lists
agree_equal : {A : Type 0} (f : A → A → Bool) → ((a b : A) → f a b ≡ true → a ≡ b) → (x y : List A)
    → agree f x y ≡ true → x ≡ y
agree_equal f sound [] [] h = refl
agree_equal f sound [] (b ∷ y) h = absurd (false≢true h)
agree_equal f sound (a ∷ x) [] h = absurd (false≢true h)
agree_equal f sound (a ∷ x) (b ∷ y) h =
    let p = both (f a b) (agree f x y) h in
    let e : a ≡ b = sound a b p.0 in
    let es : x ≡ y = agree_equal f sound x y p.1 in
    cc

agree_refl : {A : Type 0} (f : A → A → Bool) → ((a : A) → f a a ≡ true) → (x : List A) → agree f x x ≡ true
agree_refl f self [] = refl
agree_refl f self (a ∷ x) = rw (self a) (agree_refl f self x)

-- The derived equality of two transactions, where that of an input and that of an output are known.
agree-pointwise : {A : Type 0} (f g : A → A → Bool) → ((a b : A) → f a b ≡ g a b) → (x y : List A)
    → pointwise f x y ≡ agree g x y
agree-pointwise f g e [] [] = refl
agree-pointwise f g e [] (b ∷ y) = refl
agree-pointwise f g e (a ∷ x) [] = refl
agree-pointwise f g e (a ∷ x) (b ∷ y) = rw (e a b, agree-pointwise f g e x y) refl

pub derived : (f : Input → Input → Bool) (g : Output → Output → Bool) → ((a b : Input) → f a b ≡ same_input a b)
    → ((a b : Output) → g a b ≡ same_output a b) → (a b : Transaction)
    → (eqb a.number b.number
    && (eqb a.input_count b.input_count
    && (eqb a.output_count b.output_count && (pointwise f a.inputs b.inputs && pointwise g a.outputs b.outputs))))
    ≡ same_transaction a b
unfolding same_transaction
derived f g inputs outputs a b =
    rw (agree-pointwise f same_input inputs a.inputs b.inputs, agree-pointwise g same_output outputs a.outputs b.outputs)
    (simp and_assoc)

pub same_token_equal : (a b : TokenId) → same_token a b ≡ true → a ≡ b
unfolding same_token
same_token_equal a b h =
    let p = both (eqb a.shard b.shard && eqb a.creator b.creator) (eqb a.index b.index) h in
    let q = both (eqb a.shard b.shard) (eqb a.creator b.creator) p.0 in
    let creator = eqb-true a.creator b.creator q.1 in
    rw (eqb-true a.shard b.shard q.0, creator, eqb-true a.index b.index p.1) refl

same-token-refl : (a : TokenId) → same_token a a ≡ true
unfolding same_token
same-token-refl a = simp (eqb_refl)

pub same_input_equal : (a b : Input) → same_input a b ≡ true → a ≡ b
unfolding same_input
same_input_equal a b h =
    let p = both (same_token a.token b.token && eqb a.owner b.owner) (eqb a.amount b.amount) h in
    let q = both (same_token a.token b.token) (eqb a.owner b.owner) p.0 in
    let owner = eqb-true a.owner b.owner q.1 in
    rw (same_token_equal a.token b.token q.0, owner, eqb-true a.amount b.amount p.1) refl

same-input-refl : (a : Input) → same_input a a ≡ true
unfolding same_input
same-input-refl a = simp (same-token-refl, eqb_refl)

pub same_output_equal : (a b : Output) → same_output a b ≡ true → a ≡ b
unfolding same_output
same_output_equal a b h =
    let p = both (eqb a.shard b.shard && eqb a.owner b.owner) (eqb a.amount b.amount) h in
    let q = both (eqb a.shard b.shard) (eqb a.owner b.owner) p.0 in
    let owner = eqb-true a.owner b.owner q.1 in
    rw (eqb-true a.shard b.shard q.0, owner, eqb-true a.amount b.amount p.1) refl

same-output-refl : (a : Output) → same_output a a ≡ true
unfolding same_output
same-output-refl a = simp (eqb_refl)

same_equal : (a b : Transaction) → same_transaction a b ≡ true → a ≡ b
unfolding same_transaction
same_equal a b h =
    let p = both _ (agree same_output a.outputs b.outputs) h in
    let q = both _ (agree same_input a.inputs b.inputs) p.0 in
    let r = both _ (eqb a.output_count b.output_count) q.0 in
    let s = both (eqb a.number b.number) (eqb a.input_count b.input_count) r.0 in
    rw (
      eqb-true a.number b.number s.0,
      eqb-true a.input_count b.input_count s.1,
      eqb-true a.output_count b.output_count r.1,
      agree_equal same_input same_input_equal a.inputs b.inputs q.1,
      agree_equal same_output same_output_equal a.outputs b.outputs p.1,
    ) refl

same_refl : (a : Transaction) → same_transaction a a ≡ true
unfolding same_transaction
same_refl a = simp (eqb_refl, agree_refl same_input same-input-refl, agree_refl same_output same-output-refl)

-- the law of whole-field equality
pub same_exactly : (a b : Transaction) → (same_transaction a b ≡ true) ↔ (a ≡ b)
same_exactly a b = (same_equal a b, λ e. rw e (same_refl b))
