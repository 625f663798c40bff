-- Stores one behind the other are one store of the bytes joined.
use Prim.Native.Nat.{ℕ, suc, ◌+◌, ◌-◌, ◌*◌, ◌/◌, ◌%◌, ◌<◌, ◌≤◌}
use native.Mathlib.Nat.{add-zero, add-suc, suc-add, zero-add, suc-mul}
use native.Mathlib.Numerals.{add-one}
use native.Mathlib.Omega.{arith}
use mathlib.Core.Path.{◌≡◌, refl, sym, ap, ◌∙◌}
use mathlib.Core.List.{List, [], ◌∷◌, ◌++◌, append_assoc, append-nil}
use lib.ListN.{length, take, drop, get_or}
use lib.Seq.{sets, sets-eq, drop-cons}
use borrow.Rule.Slice.PartMut.{post_of, put_mid, Post-is}
use Rattle.std.specs.Int.{w32, to_be_bytes}
use Rattle.transaction.proofs.Slots.{four}
use Rattle.transaction.specs.declared.Input.{Input}
use Rattle.transaction.specs.declared.Output.{Output}
use Rattle.transaction.specs.declared.Transaction.{Transaction}
use Rattle.transaction.specs.Tokens.{zero_input, zero_output}
use Rattle.writer.specs.Layout.{
  byte_of,
  word_of,
  input_bytes,
  output_bytes,
  inputs_bytes,
  outputs_bytes,
  bytes_of_all,
  transaction_bytes,
  register_bytes,
  vote_bytes,
  mint_bytes,
  turn_bytes,
}

sets-append : (l : List ℕ) (i : ℕ) (xs ys : List ℕ) → sets l i (xs ++ ys) ≡ sets (sets l i xs) (i + length xs) ys
sets-append l i [] ys = rw add-zero
sets-append l i (x ∷ xs) ys = rw (add-suc, ← suc-add) (sets-append _ _ xs ys)

-- a second store, right behind the n bytes of the first
pub behind : {a b : List ℕ} (l : List ℕ) (at : ℕ) (xs ys : List ℕ) (n : ℕ) → length xs ≡ n
    → a ≡ sets l at xs
    → b ≡ sets a (at + n) ys
    → b ≡ sets l at (xs ++ ys)
behind l at xs ys n q ea eb =
    eb ∙ ap (λ (z : List ℕ). sets z (at + n) ys) ea ∙ ap (λ (m : ℕ). sets (sets l at xs) (at + m) ys) (sym q)
    ∙ sym (sets-append l at xs ys)

-- a store from the front leaves what stands behind it
pub front : {a : List ℕ} (l xs : List ℕ) (n : ℕ) → length xs ≡ n → n ≤ length l → a ≡ sets l 0 xs → a ≡ xs ++ drop n l
front l xs n q h e =
    e ∙ sets-eq xs l 0 (rw (zero-add, q) h) ∙ rw (zero-add, q) refl

-- the lengths of the parts of a record, and of the whole
-- Stays: no proof cites the first, and no other law says it.
pub length-inputs : (x : List Input) → length (inputs_bytes x) ≡ 56
unfolding word_of input_bytes inputs_bytes
length-inputs x = refl

pub length-transaction : (t : Transaction) → length (transaction_bytes t) ≡ 98
unfolding word_of input_bytes output_bytes inputs_bytes outputs_bytes transaction_bytes
length-transaction t = refl

pub length-register : (r : ℕ) (t : Transaction) → length (register_bytes r t) ≡ 100
unfolding register_bytes
length-register r t = ap (λ (n : ℕ). suc (suc n)) (length-transaction t)

pub length-vote : (r s v : ℕ) (t : Transaction) → length (vote_bytes r s v t) ≡ 102
unfolding vote_bytes
length-vote r s v t = ap (λ (n : ℕ). suc (suc (suc (suc n)))) (length-transaction t)

pub length-mint : (r i o a : ℕ) → length (mint_bytes r i o a) ≡ 11
unfolding word_of mint_bytes
length-mint r i o a = refl

pub length-turn : (r : ℕ) → length (turn_bytes r) ≡ 2
unfolding turn_bytes
length-turn r = refl

-- Runs of stores: the parts of a record, each stored right behind the one before it.
-- a number copied into the part of the bytes that is as long
pub word-put : (l : List ℕ) (at v : ℕ) {copy : List ℕ} → v < 4294967296 → copy ≡ to_be_bytes w32 v → at + 4 ≤ length l
    → put_mid at (at + 4 - at) l copy ≡ sets l at (word_of v)
unfolding word_of
word-put l at v {copy} small e room =
    let first : v / 16777216 % 256 ≡ v / 16777216 = omega arith in
    let is : copy ≡ word_of v = e ∙ rw first refl in
    sym (append_assoc (take at l) copy (post_of at (at + 4 - at) l))
    ∙ rw (is, Post-is at (at + 4) l (omega arith))
    (sym (sets-eq (word_of v) l at room))

-- several, each stored right behind the one before
pub all-next : {A : Type 0} (f : A → List ℕ) (n : ℕ) → ((x : A) → length (f x) ≡ n) → (l : List ℕ) (at k : ℕ) (xs : List A) (d : A)
    → k < length xs → sets (sets l (at + k * n) (f (get_or xs k d))) (at + (k + 1) * n) (bytes_of_all f (drop (k + 1) xs))
    ≡ sets l (at + k * n) (bytes_of_all f (drop k xs))
all-next {A = A} f n long l at k xs d h =
    let x = get_or xs k d in
    let ys = bytes_of_all f (drop (k + 1) xs) in
    let here : drop k xs ≡ x ∷ drop (k + 1) xs = drop-cons xs k d h ∙ rw add-one refl in
    let place : at + (k + 1) * n ≡ at + k * n + length (f x) = rw (long x) (lemma at k n) in
    ap (λ (p : ℕ). sets (sets l (at + k * n) (f x)) p ys) place ∙ sym (sets-append l (at + k * n) (f x) ys)
    ∙ ap (λ (z : List A). sets l (at + k * n) (bytes_of_all f z)) (sym here)
  where
    lemma : (a k n : ℕ) → a + (k + 1) * n ≡ a + k * n + n
    lemma a k n = rw (add-one, suc-mul) (omega arith)

pub input-run : (l : List ℕ) (at : ℕ) (x : Input) {a b c d e : List ℕ}
    → a ≡ sets l at (byte_of x.token.shard)
    → b ≡ sets a (at + 1) (word_of x.token.creator)
    → c ≡ sets b (at + 5) (byte_of x.token.index)
    → d ≡ sets c (at + 6) (word_of x.owner)
    → e ≡ sets d (at + 10) (word_of x.amount)
    → e ≡ sets l at (input_bytes x)
unfolding word_of input_bytes
input-run l at x e1 e2 e3 e4 e5 =
    let shard = byte_of x.token.shard in
    let creator = word_of x.token.creator in
    let index = byte_of x.token.index in
    let owner = word_of x.owner in
    behind l at (shard ++ creator ++ index ++ owner) (word_of x.amount) 10 refl
    (behind l at (shard ++ creator ++ index) owner 6 refl
    (behind l at (shard ++ creator) index 5 refl
    (behind l at shard creator 1 refl e1 e2) e3) e4) e5

pub output-run : (l : List ℕ) (at : ℕ) (y : Output) {a b c : List ℕ}
    → a ≡ sets l at (byte_of y.shard)
    → b ≡ sets a (at + 1) (word_of y.owner)
    → c ≡ sets b (at + 5) (word_of y.amount)
    → c ≡ sets l at (output_bytes y)
unfolding word_of output_bytes
output-run l at y e1 e2 e3 =
    behind l at (byte_of y.shard ++ word_of y.owner) (word_of y.amount) 5 refl
    (behind l at (byte_of y.shard) (word_of y.owner) 1 refl e1 e2) e3

-- all four of a transaction
all-four : {A : Type 0} (f : A → List ℕ) (a b c d : A) → bytes_of_all f (a ∷ b ∷ c ∷ d ∷ []) ≡ f a ++ f b ++ f c ++ f d
all-four f a b c d = simp (append_assoc, append-nil)

pub inputs-put : {m : List ℕ} (l : List ℕ) (at : ℕ) (x : List Input) → length x ≡ 4
    → m ≡ sets l at (bytes_of_all input_bytes x) → m ≡ sets l at (inputs_bytes x)
unfolding inputs_bytes
inputs-put l at x long e =
    e ∙ ap (λ (z : List Input). sets l at (bytes_of_all input_bytes z)) (sym (four zero_input x long))
    ∙ ap (sets l at) (all-four input_bytes (get_or x 0 zero_input) (get_or x 1 zero_input) (get_or x 2 zero_input) (get_or x 3 zero_input))

pub outputs-put : {m : List ℕ} (l : List ℕ) (at : ℕ) (y : List Output) → length y ≡ 4
    → m ≡ sets l at (bytes_of_all output_bytes y) → m ≡ sets l at (outputs_bytes y)
unfolding outputs_bytes
outputs-put l at y long e =
    e ∙ ap (λ (z : List Output). sets l at (bytes_of_all output_bytes z)) (sym (four zero_output y long))
    ∙ ap (sets l at) (all-four output_bytes (get_or y 0 zero_output) (get_or y 1 zero_output) (get_or y 2 zero_output) (get_or y 3 zero_output))

pub transaction-run : (l : List ℕ) (at : ℕ) (t : Transaction) {a b c d e : List ℕ}
    → a ≡ sets l at (word_of t.number)
    → b ≡ sets a (at + 4) (byte_of t.input_count)
    → c ≡ sets b (at + 5) (byte_of t.output_count)
    → d ≡ sets c (at + 6) (inputs_bytes t.inputs)
    → e ≡ sets d (at + 62) (outputs_bytes t.outputs)
    → e ≡ sets l at (transaction_bytes t)
unfolding word_of input_bytes inputs_bytes transaction_bytes
transaction-run l at t e1 e2 e3 e4 e5 =
    let number = word_of t.number in
    let inputs = byte_of t.input_count in
    let outputs = byte_of t.output_count in
    behind l at (number ++ inputs ++ outputs ++ inputs_bytes t.inputs) (outputs_bytes t.outputs) 62 refl
    (behind l at (number ++ inputs ++ outputs) (inputs_bytes t.inputs) 6 refl
    (behind l at (number ++ inputs) outputs 5 refl
    (behind l at number inputs 4 refl e1 e2) e3) e4) e5

pub register-run : (l : List ℕ) (r : ℕ) (t : Transaction) {a b c : List ℕ} → 100 ≤ length l
    → a ≡ sets l 0 (byte_of 1)
    → b ≡ sets a 1 (byte_of r)
    → c ≡ sets b 2 (transaction_bytes t)
    → c ≡ register_bytes r t ++ drop 100 l
unfolding register_bytes
register-run l r t long e1 e2 e3 =
    front l (register_bytes r t) 100 (length-register r t) long
    (behind l 0 (byte_of 1 ++ byte_of r) (transaction_bytes t) 2 refl
    (behind l 0 (byte_of 1) (byte_of r) 1 refl e1 e2) e3)

pub vote-run : (l : List ℕ) (r s v : ℕ) (t : Transaction) {a b c d e : List ℕ} → 102 ≤ length l
    → a ≡ sets l 0 (byte_of 2)
    → b ≡ sets a 1 (byte_of r)
    → c ≡ sets b 2 (byte_of s)
    → d ≡ sets c 3 (byte_of v)
    → e ≡ sets d 4 (transaction_bytes t)
    → e ≡ vote_bytes r s v t ++ drop 102 l
unfolding vote_bytes
vote-run l r s v t long e1 e2 e3 e4 e5 =
    front l (vote_bytes r s v t) 102 (length-vote r s v t) long
    (behind l 0 (byte_of 2 ++ byte_of r ++ byte_of s ++ byte_of v) (transaction_bytes t) 4 refl
    (behind l 0 (byte_of 2 ++ byte_of r ++ byte_of s) (byte_of v) 3 refl
    (behind l 0 (byte_of 2 ++ byte_of r) (byte_of s) 2 refl
    (behind l 0 (byte_of 2) (byte_of r) 1 refl e1 e2) e3) e4) e5)

pub mint-run : (l : List ℕ) (r i o a' : ℕ) {a b c d e : List ℕ} → 11 ≤ length l
    → a ≡ sets l 0 (byte_of 3)
    → b ≡ sets a 1 (byte_of r)
    → c ≡ sets b 2 (byte_of i)
    → d ≡ sets c 3 (word_of o)
    → e ≡ sets d 7 (word_of a')
    → e ≡ mint_bytes r i o a' ++ drop 11 l
unfolding word_of mint_bytes
mint-run l r i o a' long e1 e2 e3 e4 e5 =
    front l (mint_bytes r i o a') 11 (length-mint r i o a') long
    (behind l 0 (byte_of 3 ++ byte_of r ++ byte_of i ++ word_of o) (word_of a') 7 refl
    (behind l 0 (byte_of 3 ++ byte_of r ++ byte_of i) (word_of o) 3 refl
    (behind l 0 (byte_of 3 ++ byte_of r) (byte_of i) 2 refl
    (behind l 0 (byte_of 3) (byte_of r) 1 refl e1 e2) e3) e4) e5)

pub turn-run : (l : List ℕ) (r : ℕ) {a b : List ℕ} → 2 ≤ length l
    → a ≡ sets l 0 (byte_of 4)
    → b ≡ sets a 1 (byte_of r)
    → b ≡ turn_bytes r ++ drop 2 l
unfolding turn_bytes
turn-run l r long e1 e2 =
    front l (turn_bytes r) 2 (length-turn r) long (behind l 0 (byte_of 4) (byte_of r) 1 refl e1 e2)
