-- The tokens of a shard: looked up by creator and index, pledged, destroyed and made.
use Prim.Native.Nat.{ℕ, suc, ◌≤◌}
use native.Mathlib.Omega.{arith}
use mathlib.Core.Path.{◌≡◌, refl, ap, sym, ◌∙◌}
use mathlib.Core.Bool.{Bool, true, false, cond, ◌&&◌, not}
use mathlib.Core.Option.{Option, none, some}
use mathlib.Core.List.Memᴰ
use mathlib.Core.List.{List, [], ◌∷◌, map, Memᴰ}
use lib.Dec.{eqb}
use Rattle.transaction.specs.declared.TokenId.{TokenId}
use Rattle.transaction.specs.declared.Input.{Input}
use Rattle.transaction.specs.declared.Output.{Output}
use Rattle.transaction.specs.declared.Transaction.{Transaction}
use Rattle.transaction.specs.Lists.{any}
use Rattle.transaction.specs.Tokens.{used_inputs, used_outputs, input_shard, output_shard, shards_of}
use Rattle.model.specs.declared.Token.{Token}
use Rattle.model.specs.Lists.{keep, map_option}
use Rattle.model.specs.Steps.{
  input_here,
  inputs_here,
  names,
  named_by,
  free_for,
  available,
  pledged_to,
  pledge_when,
  named_in,
  pledges,
  token_of,
  tokens_from,
  made_here,
  stays,
  commit,
  freeing,
}
use Rattle.model.specs.Demand.{input_value, token_value, has_spot, token_at, same_spot}
use Rattle.model.proofs.Basics.{
  eqb-eq,
  eqb_same,
  eqb_yes,
  both,
  and_intro,
  clash,
  or_else,
  some≢none,
  some_inj,
  CaseO,
  is-some,
  is-none,
  case_o,
  any_at,
  any_of,
  keep_in,
  keep_out,
}
use Rattle.model.proofs.Lookups.{
  lookup-passes,
  lookup-none,
  lookup-append,
  lookup-map,
  lookup-keep,
  Alone,
  alone-append,
  alone-map,
  alone-keep,
  alone-lookup,
}

-- the id of a token of shard p
abbrev pub id_of : ℕ → ℕ → ℕ → TokenId
id_of p m i = record { shard = p; creator = m; index = i }

-- no two tokens of a shard have one creator and index
abbrev pub NoTwice : List Token → Type 0
NoTwice tokens = Alone same_spot tokens

-- a found token has the creator and the index that were asked for
pub tok_name : (l : List Token) (m i : ℕ) {t : Token} → token_at l m i ≡ some t → (t.creator ≡ m) × (t.index ≡ i)
tok_name l m i {t} e =
    let r = both (eqb t.creator m) (eqb t.index i) (lookup-passes (has_spot m i) l e) in
    (eqb-eq t.creator m r.0, eqb-eq t.index i r.1)

-- a held token is found by its creator and index
pub mem_tok : (l : List Token) → NoTwice l → {t : Token} → Memᴰ t l → token_at l t.creator t.index ≡ some t
mem_tok l s m =
    alone-lookup same_spot (λ t. and_intro (eqb_same t.creator) (eqb_same t.index))
    (λ a b e.
    let r = both (eqb b.creator a.creator) (eqb b.index a.index) e in
    and_intro (eqb_yes (sym (eqb-eq b.creator a.creator r.0))) (eqb_yes (sym (eqb-eq b.index a.index r.1))))
    l s m

-- ---- Inputs at a shard

-- an input at a shard is one of the transaction, and the shard takes part
pub here-shard : (p : ℕ) (t : Transaction) (x : Input) → Memᴰ x (inputs_here p t) → (Memᴰ x (used_inputs t))
    × (x.token.shard ≡ p) × Memᴰ p (shards_of t)
unfolding inputs_here
here-shard p t x m =
    let r = keep_out (input_here p) (used_inputs t) m in
    let e : x.token.shard ≡ p = eqb-eq x.token.shard p r.1 in
    (r.0, e, Memᴰ.append_left (map output_shard (used_outputs t)) (Memᴰ.cast (sym e) (Memᴰ.map input_shard r.0)))

-- an input is among those at its shard
pub in_here : (t : Transaction) (x : Input) → Memᴰ x (used_inputs t) → Memᴰ x (inputs_here x.token.shard t)
unfolding inputs_here
in_here t x m = keep_in (input_here x.token.shard) (used_inputs t) m (eqb_same x.token.shard)

-- does an input at shard p take the token of that creator and index
abbrev pub takes_spot : ℕ → ℕ → Input → Bool
takes_spot m i x = eqb m x.token.creator && eqb i x.token.index

-- does an input at shard p take it
unfoldable pub taken : ℕ → Transaction → ℕ → ℕ → Bool
taken p t m i = any (takes_spot m i) (inputs_here p t)

-- the input that takes it
pub record Takes (p : ℕ) (t : Transaction) (m i : ℕ) : Type 0 where
  pub input : Input
  pub is-here : Memᴰ input (inputs_here p t)
  pub is_creator : input.token.creator ≡ m
  pub is-index : input.token.index ≡ i

-- the input that takes it
pub taken-by : (p : ℕ) (t : Transaction) (m i : ℕ) → taken p t m i ≡ true → Takes p t m i
unfolding taken
taken-by p t m i e =
    let r = any_at (takes_spot m i) (inputs_here p t) e in
    let y = both (eqb m r.0.token.creator) (eqb i r.0.token.index) r.2 in
    record { input = r.0; is-here = r.1; is_creator = sym (eqb-eq m r.0.token.creator y.0); is-index = sym (eqb-eq i r.0.token.index y.1) }

-- ---- An available input's token

-- the token of an available input
pub record Available (tokens : List Token) (x : Input) : Type 0 where
  pub token : Token
  pub is-there : token_at tokens x.token.creator x.token.index ≡ some token
  pub is_value : token_value token ≡ input_value x
  pub is_free : token.pledge ≡ 0

-- an available input has such a token
pub available-token : (tokens : List Token) (x : Input) → NoTwice tokens → available tokens x ≡ true → Available tokens x
unfolding available
available-token tokens x s e =
    let r = any_at (free_for x) tokens e in
    let t : Token = r.0 in
    let a = both (names x t && eqb t.owner x.owner && eqb t.amount x.amount) (eqb t.pledge 0) r.2 in
    let b = both (names x t && eqb t.owner x.owner) (eqb t.amount x.amount) a.0 in
    let c = both (names x t) (eqb t.owner x.owner) b.0 in
    let d = both (eqb t.creator x.token.creator) (eqb t.index x.token.index) c.0 in
    let m : t.creator ≡ x.token.creator = eqb-eq t.creator x.token.creator d.0 in
    let i : t.index ≡ x.token.index = eqb-eq t.index x.token.index d.1 in
    record {
      token = t;
      is-there = (λ j. token_at tokens (sym m j) (sym i j)) ∙ mem_tok tokens s r.1;
      is_value = λ j. record { owner = eqb-eq t.owner x.owner c.1 j; amount = eqb-eq t.amount x.amount b.1 j };
      is_free = eqb-eq t.pledge 0 a.1;
    }

-- ---- Pledges

-- a change of pledge changes neither creator, index nor value
pledge_keeps : (n : ℕ) (f : Token → Bool) (t : Token) → ((pledge_when n f t).creator ≡ t.creator)
    × ((pledge_when n f t).index ≡ t.index) × (token_value (pledge_when n f t) ≡ token_value t)
pledge_keeps n f t = go (f t)
  where
    go : (b : Bool) → ((cond b (pledged_to n t) t).creator ≡ t.creator)
        × ((cond b (pledged_to n t) t).index ≡ t.index) × (token_value (cond b (pledged_to n t) t) ≡ token_value t)
    go true = (refl, refl, refl)
    go false = (refl, refl, refl)

-- a lookup after changes of pledge
pub tok_when : (n : ℕ) (f : Token → Bool) (tokens : List Token) (m i : ℕ)
    → token_at (map (pledge_when n f) tokens) m i ≡ map_option (pledge_when n f) (token_at tokens m i)
tok_when n f tokens m i =
    lookup-map (has_spot m i) (has_spot m i) (pledge_when n f) (λ t j. eqb ((pledge_keeps n f t).0 j) m && eqb ((pledge_keeps n f t).1 j) i) tokens

-- they change no value
value_when : (n : ℕ) (f : Token → Bool) (tokens : List Token) (m i : ℕ)
    → map_option token_value (token_at (map (pledge_when n f) tokens) m i) ≡ map_option token_value (token_at tokens m i)
value_when n f tokens m i = ap (map_option token_value) (tok_when n f tokens m i) ∙ same (token_at tokens m i)
  where
    same : (o : Option Token) → map_option token_value (map_option (pledge_when n f) o) ≡ map_option token_value o
    same none = refl
    same (some t) = ap some (pledge_keeps n f t).2

-- they make no token twice
no_twice_when : (n : ℕ) (f : Token → Bool) (tokens : List Token) → NoTwice tokens → NoTwice (map (pledge_when n f) tokens)
no_twice_when n f tokens s =
    alone-map same_spot (pledge_when n f)
    (λ a b j. eqb ((pledge_keeps n f b).0 j) ((pledge_keeps n f a).0 j) && eqb ((pledge_keeps n f b).1 j) ((pledge_keeps n f a).1 j))
    tokens s

-- a token of which the test fails stays as it is
tok_untouched : (n : ℕ) (f : Token → Bool) (tokens : List Token) (m i : ℕ) {t : Token}
    → token_at tokens m i ≡ some t → f t ≡ false → token_at (map (pledge_when n f) tokens) m i ≡ some t
tok_untouched n f tokens m i {t} e z =
    tok_when n f tokens m i ∙ ap (map_option (pledge_when n f)) e ∙ ap (λ (b : Bool). some (cond b (pledged_to n t) t)) z

-- pledges change no value
pub value_pledges : (n : ℕ) (xs : List Input) (tokens : List Token) (m i : ℕ)
    → map_option token_value (token_at (pledges n xs tokens) m i) ≡ map_option token_value (token_at tokens m i)
unfolding pledges
value_pledges n xs tokens m i = value_when n (named_in xs) tokens m i

-- and make no token twice
pub no_twice_pledges : (n : ℕ) (xs : List Input) (tokens : List Token) → NoTwice tokens → NoTwice (pledges n xs tokens)
unfolding pledges
no_twice_pledges n xs tokens s = no_twice_when n (named_in xs) tokens s

-- the token of one of the inputs is pledged
pub tok_pledged : (n : ℕ) (xs : List Input) (tokens : List Token) (x : Input) → Memᴰ x xs
    → {t : Token} → token_at tokens x.token.creator x.token.index ≡ some t
    → token_at (pledges n xs tokens) x.token.creator x.token.index ≡ some (pledged_to n t)
unfolding pledges
tok_pledged n xs tokens x m {t} e =
    let r = tok_name tokens x.token.creator x.token.index e in
    let named : named_in xs t ≡ true = any_of (named_by t) m (and_intro (eqb_yes r.0) (eqb_yes r.1)) in
    tok_when n (named_in xs) tokens x.token.creator x.token.index
    ∙ ap (map_option (pledge_when n (named_in xs))) e ∙ ap (λ (b : Bool). some (cond b (pledged_to n t) t)) named

-- a token that none of the inputs names stays as it is
pub tok_unpledged : (n : ℕ) (xs : List Input) (tokens : List Token) (m i : ℕ) {t : Token}
    → token_at tokens m i ≡ some t → named_in xs t ≡ false → token_at (pledges n xs tokens) m i ≡ some t
unfolding pledges
tok_unpledged n xs tokens m i e z = tok_untouched n (named_in xs) tokens m i e z

-- ---- Tokens that come free

-- freeing changes no value
pub value_freeing : (f : Token → Bool) (tokens : List Token) (m i : ℕ)
    → map_option token_value (token_at (freeing f tokens) m i) ≡ map_option token_value (token_at tokens m i)
unfolding freeing
value_freeing f tokens m i = value_when 0 f tokens m i

-- and makes no token twice
pub no_twice_freeing : (f : Token → Bool) (tokens : List Token) → NoTwice tokens → NoTwice (freeing f tokens)
unfolding freeing
no_twice_freeing f tokens s = no_twice_when 0 f tokens s

-- a token that is not freed stays as it is
pub tok_unfreed : (f : Token → Bool) (tokens : List Token) (m i : ℕ) {t : Token}
    → token_at tokens m i ≡ some t → f t ≡ false → token_at (freeing f tokens) m i ≡ some t
unfolding freeing
tok_unfreed f tokens m i e z = tok_untouched 0 f tokens m i e z

-- ---- Tokens made

-- a made token has the transaction's number, its shard is that of an output, and its index is not below the first one
pub made-from : (p n j : ℕ) (l : List Output) (m i : ℕ) {t : Token} → token_at (tokens_from p n j l) m i ≡ some t
    → (m ≡ n) × Memᴰ p (map output_shard l) × (j ≤ i)
made-from p n j [] m i e = some≢none e refl
made-from p n j (o ∷ l) m i {t} e = go (eqb o.shard p) refl e (made-from p n (suc j) l m i)
  where
    rest : List Token
    rest = tokens_from p n (suc j) l

    Later : Type 0
    Later = token_at rest m i ≡ some t → (m ≡ n) × Memᴰ p (map output_shard l) × (suc j ≤ i)

    go : (b : Bool) → eqb o.shard p ≡ b → token_at (cond b (token_of n j o ∷ rest) rest) m i ≡ some t → Later → (m ≡ n)
        × Memᴰ p (o.shard ∷ map output_shard l) × (j ≤ i)
    go false y q h = let z : suc j ≤ i = (h q).2 in ((h q).0, Memᴰ.tail (h q).1, omega arith)
    go true y q h = hit (eqb n m && eqb j i) refl q
      where
        hit : (c : Bool) → eqb n m && eqb j i ≡ c → cond c (some (token_of n j o)) (token_at rest m i) ≡ some t → (m ≡ n)
            × Memᴰ p (o.shard ∷ map output_shard l) × (j ≤ i)
        hit true z q =
            let r = both (eqb n m) (eqb j i) z in
            let w : j ≡ i = eqb-eq j i r.1 in
            (sym (eqb-eq n m r.0), Memᴰ.head (sym (eqb-eq o.shard p y)), omega arith)
        hit false z q = let w : suc j ≤ i = (h q).2 in ((h q).0, Memᴰ.tail (h q).1, omega arith)

-- a made token is pledged to none
made-free : (p n j : ℕ) (l : List Output) (m i : ℕ) {t : Token} → token_at (tokens_from p n j l) m i ≡ some t → t.pledge ≡ 0
made-free p n j [] m i e = some≢none e refl
made-free p n j (o ∷ l) m i {t} e = go (eqb o.shard p) (eqb n m && eqb j i) e (made-free p n (suc j) l m i)
  where
    rest : List Token
    rest = tokens_from p n (suc j) l

    go : (b c : Bool) → token_at (cond b (token_of n j o ∷ rest) rest) m i ≡ some t → (token_at rest m i ≡ some t → t.pledge ≡ 0) → t.pledge ≡ 0
    go false c q h = h q
    go true c q h = hit (eqb n m && eqb j i) q
      where
        hit : (c : Bool) → cond c (some (token_of n j o)) (token_at rest m i) ≡ some t → t.pledge ≡ 0
        hit true q = ap (λ (u : Token). u.pledge) (sym (some_inj q))
        hit false q = h q

-- the same of all that a transaction makes
pub made_unpledged : (p : ℕ) (t : Transaction) (m i : ℕ) {k : Token} → token_at (made_here p t) m i ≡ some k → k.pledge ≡ 0
unfolding made_here
made_unpledged p t m i e = made-free p t.number 0 (used_outputs t) m i e

-- a made token's creator is the transaction
pub made-number : (p : ℕ) (t : Transaction) (m i : ℕ) {k : Token} → token_at (made_here p t) m i ≡ some k → m ≡ t.number
unfolding made_here
made-number p t m i e = (made-from p t.number 0 (used_outputs t) m i e).0

-- an input that names a token which the transaction makes here names it by its number
pub made-named : (me : ℕ) (x : Input) (t : Transaction) → any (names x) (made_here me t) ≡ true → t.number ≡ x.token.creator
made-named me x t e = go (case_o (token_at (made_here me t) x.token.creator x.token.index))
  where
    go : CaseO (token_at (made_here me t) x.token.creator x.token.index) → t.number ≡ x.token.creator
    go (is-none z) = clash e (lookup-none (names x) (made_here me t) z)
    go (is-some token z) = sym (made-number me t x.token.creator x.token.index z)

-- tokens are made at shards that take part
pub made-shard : (p : ℕ) (t : Transaction) (m i : ℕ) {k : Token} → token_at (made_here p t) m i ≡ some k → Memᴰ p (shards_of t)
unfolding made_here
made-shard p t m i e = Memᴰ.append_right (map input_shard (used_inputs t)) (made-from p t.number 0 (used_outputs t) m i e).1

-- outputs make no token twice
no_twice_from : (p n j : ℕ) (l : List Output) → NoTwice (tokens_from p n j l)
no_twice_from p n j [] = tt
no_twice_from p n j (o ∷ l) = go (eqb o.shard p) (no_twice_from p n (suc j) l)
  where
    rest : List Token
    rest = tokens_from p n (suc j) l

    fresh-name : CaseO (token_at rest n j) → token_at rest n j ≡ none
    fresh-name (is-none e) = e
    fresh-name (is-some t e) = let z = (made-from p n (suc j) l n j e).2 in absurd (omega arith)

    go : (b : Bool) → NoTwice rest → NoTwice (cond b (token_of n j o ∷ rest) rest)
    go true r = (fresh-name (case_o (token_at rest n j)), r)
    go false r = r

-- ---- Commit

-- a token of that creator and index stays unless an input here takes it
stays-untaken : (p : ℕ) (t : Transaction) (m i : ℕ) (k : Token) → has_spot m i k ≡ true → stays (inputs_here p t) k ≡ not (taken p t m i)
unfolding taken
stays-untaken p t m i k e =
    let r = both (eqb k.creator m) (eqb k.index i) e in
    λ j. not (any (takes_spot (eqb-eq k.creator m r.0 j) (eqb-eq k.index i r.1 j)) (inputs_here p t))

-- a lookup among the tokens that stay
tok_left : (p : ℕ) (t : Transaction) (tokens : List Token) (m i : ℕ)
    → token_at (keep (stays (inputs_here p t)) tokens) m i ≡ cond (taken p t m i) none (token_at tokens m i)
tok_left p t tokens m i = lookup-keep (has_spot m i) (stays (inputs_here p t)) (taken p t m i) (stays-untaken p t m i) tokens

-- a lookup after a commit
pub tok_commit : (p : ℕ) (t : Transaction) (tokens : List Token) (m i : ℕ)
    → token_at (commit p t tokens) m i ≡ or_else (cond (taken p t m i) none (token_at tokens m i)) (token_at (made_here p t) m i)
unfolding commit
tok_commit p t tokens m i =
    lookup-append (has_spot m i) (keep (stays (inputs_here p t)) tokens) (made_here p t)
    ∙ ap (λ (o : Option Token). or_else o (token_at (made_here p t) m i)) (tok_left p t tokens m i)

-- a commit makes no token twice, where none was made by its number before
pub no_twice_commit : (p : ℕ) (t : Transaction) (tokens : List Token) → NoTwice tokens
    → ((i : ℕ) → token_at tokens t.number i ≡ none) → NoTwice (commit p t tokens)
unfolding commit made_here
no_twice_commit p t tokens s h =
    alone-append same_spot (keep (stays (inputs_here p t)) tokens) (made_here p t)
    (alone-keep same_spot (stays (inputs_here p t)) tokens s) (no_twice_from p t.number 0 (used_outputs t))
    (λ k m. go k (keep_out (stays (inputs_here p t)) tokens m).0 (case_o (token_at (made_here p t) k.creator k.index)))
  where
    go : (k : Token) → Memᴰ k tokens → CaseO (token_at (made_here p t) k.creator k.index) → token_at (made_here p t) k.creator k.index ≡ none
    go k m (is-none e) = e
    go k m (is-some u e) = some≢none (mem_tok tokens s m)
        (ap (λ (n : ℕ). token_at tokens n k.index) (made-number p t k.creator k.index e) ∙ h k.index)
