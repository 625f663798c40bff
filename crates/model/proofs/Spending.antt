-- One transaction on the serial ledger: where each input is present, it is taken away once, and the outputs are added.
use Prim.Native.Nat.{ℕ, suc, ◌≤◌}
use native.Mathlib.Omega.{arith}
use mathlib.Core.Path.{◌≡◌, refl, ap, sym, ◌∙◌}
use mathlib.Core.Bool.{Bool, true, false, cond, ◌&&◌, ◌||◌}
use mathlib.Core.Option.{Option, none, some}
use mathlib.Core.List.{List, [], ◌∷◌, Memᴰ}
use lib.Dec.{eqb}
use Rattle.transaction.specs.declared.TokenId.{TokenId}
use Rattle.transaction.specs.declared.Input.{Input}
use Rattle.transaction.specs.declared.Output.{Output}
use Rattle.transaction.specs.declared.Transaction.{Transaction}
use Rattle.transaction.specs.Lists.{any, repeats}
use Rattle.transaction.specs.Tokens.{used_inputs, used_outputs, same_token}
use Rattle.transaction.specs.Checks.{same_name, named_twice}
use Rattle.model.specs.declared.Token.{Token}
use Rattle.model.specs.Lists.{map_option, passes, is_none, and_then}
use Rattle.model.specs.Steps.{input_here, inputs_here, output_here, token_of, tokens_from, made_here}
use Rattle.model.specs.Demand.{
  Value,
  SerialLedger,
  input_value,
  output_value,
  token_value,
  token_at,
  has_value,
  present,
  without,
  take_inputs,
  output_id,
  with_token,
  add_outputs,
  spend,
}
use Rattle.model.proofs.Basics.{
  eqb-eq,
  eqb_same,
  eqb_yes,
  eqb_no,
  both,
  neither,
  and_intro,
  clash,
  same_test,
  or_else,
  none_of,
  CaseO,
  is-some,
  is-none,
  case_o,
  any_none,
  any-keep,
}
use Rattle.model.proofs.Holdings.{id_of, takes_spot, taken, made-from}
use Rattle.model.proofs.Invariant.{gain}

-- ---- Taking the inputs

-- gone by one of two tests
or-gone : (a c : Bool) (o : Option Value) → cond c none (cond a none o) ≡ cond (a || c) none o
or-gone true true o = refl
or-gone true false o = refl
or-gone false c o = refl

-- the input names the id
abbrev names_it : TokenId → Input → Bool
names_it id x = same_token x.token id

-- the ledger with the inputs taken away
pub record Taken (l : List Input) (ledger : SerialLedger) : Type 0 where
  pub left : SerialLedger
  pub is-taken : take_inputs l ledger ≡ some left
  pub is-left : (id : TokenId) → left id ≡ cond (any (names_it id) l) none (ledger id)

-- distinct inputs that are present are taken away
take_all : (l : List Input) (ledger : SerialLedger) → repeats same_name l ≡ false
    → ((x : Input) → Memᴰ x l → ledger x.token ≡ some (input_value x)) → Taken l ledger
unfolding take_inputs same_name
take_all [] ledger d h = record { left = ledger; is-taken = refl; is-left = λ id. refl }
take_all (x ∷ l) ledger d h =
    let y = neither (any (same_name x) l) (repeats same_name l) d in
    let there : present ledger x ≡ true = ap (passes (has_value x)) (h x (Memᴰ.head refl)) ∙ and_intro (eqb_same x.owner) (eqb_same x.amount) in
    let other : (z : Input) → Memᴰ z l → same_token x.token z.token ≡ false = λ z m. any_none (same_name x) y.0 m in
    let r = take_all l (without ledger x) y.1 (λ z m. ap (λ (c : Bool). cond c none (ledger z.token)) (other z m) ∙ h z (Memᴰ.tail m)) in
    record {
      left = r.left;
      is-taken = ap (λ (c : Bool). cond c (take_inputs l (without ledger x)) none) there ∙ r.is-taken;
      is-left = λ id. r.is-left id ∙ or-gone (same_token x.token id) (any (names_it id) l) (ledger id);
    }

-- an id is named by an input exactly if an input at its shard takes that creator and index
any_cong : {A : Type 0} (f g : A → Bool) → ((x : A) → f x ≡ g x) → (l : List A) → any f l ≡ any g l
any_cong f g h [] = refl
any_cong f g h (x ∷ l) = λ i. h x i || any_cong f g h l i

-- an id, by its shard and by creator and index
names-spot : (p m i : ℕ) (x : Input) → same_token x.token (id_of p m i) ≡ input_here p x && takes_spot m i x
unfolding same_token
names-spot p m i x =
    same_test (eqb x.token.shard p && eqb x.token.creator m && eqb x.token.index i)
    (eqb x.token.shard p && (eqb m x.token.creator && eqb i x.token.index))
    (λ e.
    let a = both (eqb x.token.shard p && eqb x.token.creator m) (eqb x.token.index i) e in
    let b = both (eqb x.token.shard p) (eqb x.token.creator m) a.0 in
    and_intro b.0 (and_intro (eqb_yes (sym (eqb-eq x.token.creator m b.1))) (eqb_yes (sym (eqb-eq x.token.index i a.1)))))
    (λ e.
    let a = both (eqb x.token.shard p) (eqb m x.token.creator && eqb i x.token.index) e in
    let b = both (eqb m x.token.creator) (eqb i x.token.index) a.1 in
    and_intro (and_intro a.0 (eqb_yes (sym (eqb-eq m x.token.creator b.0)))) (eqb_yes (sym (eqb-eq i x.token.index b.1))))

-- an id is named exactly if it is taken at its shard
named-taken : (t : Transaction) (p m i : ℕ) → any (names_it (id_of p m i)) (used_inputs t) ≡ taken p t m i
unfolding taken inputs_here
named-taken t p m i =
    any_cong (names_it (id_of p m i)) (λ x. input_here p x && takes_spot m i x) (names-spot p m i) (used_inputs t)
    ∙ sym (any-keep (takes_spot m i) (input_here p) (used_inputs t))

-- ---- Adding the outputs

-- what the outputs make under an id, as the shards make it
abbrev made_value : ℕ → ℕ → List Output → ℕ → ℕ → ℕ → Option Value
made_value n j ys p m i = map_option token_value (token_at (tokens_from p n j ys) m i)

-- no id that the outputs make is there
abbrev Free : ℕ → ℕ → List Output → SerialLedger → Type 0
Free n j ys ledger = (p m i : ℕ) (k : Token) → token_at (tokens_from p n j ys) m i ≡ some k → ledger (id_of p m i) ≡ none

-- the ledger with the outputs added
record Added (n j : ℕ) (ys : List Output) (ledger : SerialLedger) : Type 0 where
  more : SerialLedger
  is_added : add_outputs n j ys ledger ≡ some more
  is-more : (p m i : ℕ) → more (id_of p m i) ≡ or_else (made_value n j ys p m i) (ledger (id_of p m i))

-- the first output's id is free
free-first : (n j : ℕ) (y : Output) (ys : List Output) (ledger : SerialLedger) → Free n j (y ∷ ys) ledger → ledger (output_id n j y) ≡ none
free-first n j y ys ledger f =
    f y.shard n j (token_of n j y)
    (ap (λ (b : Bool). token_at (cond b (token_of n j y ∷ tokens_from y.shard n (suc j) ys) (tokens_from y.shard n (suc j) ys)) n j) (eqb_same y.shard)
    ∙ ap (λ (b : Bool). cond b (some (token_of n j y)) (token_at (tokens_from y.shard n (suc j) ys) n j)) (and_intro (eqb_same n) (eqb_same j)))

-- a later output has a larger index
later-index : (n j p m i : ℕ) (ys : List Output) (k : Token) → token_at (tokens_from p n (suc j) ys) m i ≡ some k → eqb j i ≡ false
later-index n j p m i ys k e = eqb_no {m = j} {n = i} (λ z. let h : suc j ≤ i = (made-from p n (suc j) ys m i e).2 in omega arith)

-- and so are the others once it is added
free-rest : (n j : ℕ) (y : Output) (ys : List Output) (ledger : SerialLedger) → Free n j (y ∷ ys) ledger
    → Free n (suc j) ys (with_token ledger (output_id n j y) (output_value y))
unfolding same_token
free-rest n j y ys ledger f p m i k e =
    let apart : eqb j i ≡ false = later-index n j p m i ys k e in
    ap (λ (b : Bool). cond (eqb y.shard p && eqb n m && b) (some (output_value y)) (ledger (id_of p m i))) apart
    ∙ ap (λ (b : Bool). cond b (some (output_value y)) (ledger (id_of p m i))) (and_no (eqb y.shard p && eqb n m))
    ∙ f p m i k (behind (output_here p y) apart)
  where
    and_no : (b : Bool) → b && false ≡ false
    and_no true = refl
    and_no false = refl

    behind : (b : Bool) → eqb j i ≡ false → token_at (cond b (token_of n j y ∷ tokens_from p n (suc j) ys) (tokens_from p n (suc j) ys)) m i ≡ some k
    behind false z = e
    behind true z = ap (λ (c : Bool). cond c (some (token_of n j y)) (token_at (tokens_from p n (suc j) ys) m i))
        (ap (λ (c : Bool). eqb n m && c) z ∙ and_no (eqb n m)) ∙ e

-- one output's token beside those of the later ones
one_more : (n j : ℕ) (y : Output) (ys : List Output) (ledger : SerialLedger) (p m i : ℕ)
    → or_else (made_value n (suc j) ys p m i) (with_token ledger (output_id n j y) (output_value y) (id_of p m i))
    ≡ or_else (made_value n j (y ∷ ys) p m i) (ledger (id_of p m i))
unfolding same_token
one_more n j y ys ledger p m i = go (eqb y.shard p) (eqb n m) (eqb j i) refl refl
  where
    old : Option Value
    old = ledger (id_of p m i)

    rest : Option Token
    rest = token_at (tokens_from p n (suc j) ys) m i

    -- where the first output has this index, no later one has it
    alone : eqb j i ≡ true → CaseO rest → rest ≡ none
    alone e (is-none z) = z
    alone e (is-some k z) = clash e (later-index n j p m i ys k z)

    hit : (b c : Bool) → eqb j i ≡ c → or_else (map_option token_value rest) (cond (b && c) (some (output_value y)) old)
        ≡ or_else (map_option token_value (cond (b && c) (some (token_of n j y)) rest)) old
    hit true true e = ap (λ (o : Option Token). or_else (map_option token_value o) (some (output_value y))) (alone e (case_o rest))
    hit true false e = refl
    hit false c e = refl

    go : (a b c : Bool) → eqb n m ≡ b → eqb j i ≡ c
        → or_else (map_option token_value rest) (cond (a && b && c) (some (output_value y)) old)
        ≡ or_else (map_option token_value (token_at (cond a (token_of n j y ∷ tokens_from p n (suc j) ys) (tokens_from p n (suc j) ys)) m i)) old
    go false b c eb ec = refl
    go true b c eb ec = hit b c ec ∙ sym (λ k. or_else (map_option token_value (cond (eb k && ec k) (some (token_of n j y)) rest)) old)

-- outputs whose ids are free are added
add-all : (n j : ℕ) (ys : List Output) (ledger : SerialLedger) → Free n j ys ledger → Added n j ys ledger
unfolding add_outputs
add-all n j [] ledger f = record { more = ledger; is_added = refl; is-more = λ p m i. refl }
add-all n j (y ∷ ys) ledger f =
    let r = add-all n (suc j) ys (with_token ledger (output_id n j y) (output_value y)) (free-rest n j y ys ledger f) in
    record {
      more = r.more;
      is_added = ap (λ (o : Option Value). cond (is_none o) (add_outputs n (suc j) ys (with_token ledger (output_id n j y) (output_value y))) none)
          (free-first n j y ys ledger f) ∙ r.is_added;
      is-more = λ p m i. r.is-more p m i ∙ one_more n j y ys ledger p m i;
    }

-- ---- The whole transaction

-- the ledger with the transaction carried out
pub record Spends (t : Transaction) (ledger : SerialLedger) : Type 0 where
  pub left : SerialLedger
  pub is-spent : spend t ledger ≡ some left
  pub is-left : (p m i : ℕ) → left (id_of p m i) ≡ or_else (gain p t m i) (cond (taken p t m i) none (ledger (id_of p m i)))

-- a transaction whose distinct inputs are present, and whose outputs have free ids, is carried out
pub spends : (t : Transaction) (ledger : SerialLedger) → named_twice t ≡ false
    → ((x : Input) → Memᴰ x (used_inputs t) → ledger x.token ≡ some (input_value x))
    → ((p m i : ℕ) (k : Token) → token_at (made_here p t) m i ≡ some k → ledger (id_of p m i) ≡ none) → Spends t ledger
unfolding spend named_twice made_here
spends t ledger d h free =
    let r = take_all (used_inputs t) ledger d h in
    let s = add-all t.number 0 (used_outputs t) r.left (λ p m i k e.
    r.is-left (id_of p m i) ∙ none_of (any (names_it (id_of p m i)) (used_inputs t)) (ledger (id_of p m i)) (free p m i k e)) in
    record {
      left = s.more;
      is-spent = ap (and_then (add_outputs t.number 0 (used_outputs t))) r.is-taken ∙ s.is_added;
      is-left = λ p m i.
          s.is-more p m i
          ∙ ap (λ (o : Option Value). or_else (gain p t m i) o) (r.is-left (id_of p m i)
          ∙ ap (λ (c : Bool). cond c none (ledger (id_of p m i))) (named-taken t p m i));
    }
