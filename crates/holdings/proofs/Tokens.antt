-- Tokens held in words: `Holds` from what single stores leave, one change after another, and the turns of the loops.
use Prim.Native.Nat.{ℕ, ◌+◌, ◌≤◌, ◌<◌}
use mathlib.Core.Path.{◌≡◌, refl, ap, sym, subst, ◌∙◌}
use mathlib.Core.Bool.{Bool, true, false, cond, not, ◌||◌, or-false}
use mathlib.Core.List.{List, [], ◌∷◌, ◌++◌, map, append_assoc, append-nil}
use native.Mathlib.Omega.{arith}
use lib.ListN.{length, take, set, get_or, length-append, length-map}
use lib.Seq.{length-take-le}
use Rattle.std.proofs.lemmas.List.{take_more, take_all}
use Rattle.transaction.specs.declared.Input.{Input}
use Rattle.transaction.specs.declared.Output.{Output}
use Rattle.transaction.specs.declared.Transaction.{Transaction}
use Rattle.transaction.specs.Lists.{any}
use Rattle.transaction.proofs.Slots.{any_append}
use Rattle.model.specs.declared.Token.{Token}
use Rattle.model.specs.declared.Outcome.TheVariants.{Commit, Abort}
use Rattle.model.specs.Lists.{keep}
use Rattle.model.proofs.Basics.{keep-length}
use Rattle.model.specs.Steps.{
  names,
  named_by,
  pledged_to,
  pledge_if,
  pledges,
  stays,
  inputs_here,
  made_here,
  tokens_from,
  commit,
  pledge_when,
  is_pledged_to,
  freeing,
  ended,
}
use Rattle.loops.specs.Lists.{one_if}
use Rattle.loops.proofs.Loops.{append-one}
use Rattle.loops.proofs.Places.{Placing, place-put, Packing, pack_in}
use Rattle.layout.specs.Layout.{
  token_slots,
  tokens_of,
  Shard,
  shard_of,
  view,
  ledger_of,
  with_tokens,
  with_held,
  Becomes,
  no_token,
  slot_token,
  slot_known,
  PutsToken,
}
use Rattle.layout.proofs.Slots.{length-tokens}
use Rattle.layout.proofs.Ledgers.{held-length}
use Rattle.holdings.specs.Held.{made_from, adding, destroying, Room, Left, Holds, Changes, Settling, Settles}
use Rattle.holdings.proofs.Made.{made-next, made-room}

-- the tokens of a shard that words become
tokens-of : {s : Shard} {ws : List ℕ} → Becomes s ws → tokens_of ws ≡ s.tokens
tokens-of b = ap (λ (x : Shard). x.tokens) b.is

-- ---- From stores to the tokens held

-- other tokens, once more
pub again : (ws vs us : List ℕ) {q r : List Token}
    → Becomes (with_tokens (shard_of ws) q) vs
    → Becomes (with_tokens (shard_of vs) r) us
    → Becomes (with_tokens (shard_of ws) (tokens_of us)) us
again ws vs us {q} {r} b d = record {
  is = d.is ∙ ap (λ (x : Shard). with_tokens x r) b.is ∙ ap (with_tokens (shard_of ws)) (sym (tokens-of d));
  long = d.long;
}

module _ (ws vs : List ℕ) (b : Becomes (with_tokens (shard_of ws) (tokens_of vs)) vs) {l : List Token} where
  -- as many tokens as before
  pub as_many : (shard_of ws).held ≤ token_slots → take (shard_of ws).held (tokens_of vs) ≡ l → Holds (shard_of ws) l vs
  as_many h e =
      let most = length-take-le (shard_of ws).held (tokens_of vs) (omega (arith, length-tokens vs)) in
      let n : (shard_of ws).held ≡ length l = sym (ap length (sym e) ∙ most) in
      record {
        kept = b.is ∙ ap (λ (k : ℕ). with_held (with_tokens (shard_of ws) (tokens_of vs)) k) n;
        tokens = rw (← n) e;
        long = b.long;
      }

  -- another count
  pub counted : (us : List ℕ) (w : ℕ) → Becomes (with_held (shard_of vs) w) us → w ≤ token_slots → take w (tokens_of vs) ≡ l
      → Holds (shard_of ws) l us
  counted us w d h e =
      let most = length-take-le w (tokens_of vs) (omega (arith, length-tokens vs)) in
      let n : w ≡ length l = sym (ap length (sym e) ∙ most) in
      record {
        kept =
            d.is ∙ ap (λ (x : Shard). with_held x w) b.is
            ∙ ap (λ (q : List Token). with_held (with_tokens (shard_of ws) q) w) (sym (tokens-of d))
            ∙ ap (λ (k : ℕ). with_held (with_tokens (shard_of ws) (tokens_of us)) k) n;
        tokens = rw (← n) (ap (take w) (tokens-of d) ∙ e);
        long = d.long;
      }

module _ (ws : List ℕ) where
  -- the words as they are
  pub holds_same : Room ws → Holds (shard_of ws) (ledger_of ws).tokens ws
  unfolding view
  holds_same r = as_many ws ws (record { is = refl; long = r.long }) r.held refl

  module _ {s : Shard} {l : List Token} (p : Holds s l ws) where
    pub holds-held : (shard_of ws).held ≡ length l
    holds-held = ap (λ (x : Shard). x.held) p.kept

    pub holds-tokens : (ledger_of ws).tokens ≡ l
    unfolding view
    holds-tokens = rw holds-held p.tokens

    pub holds-room : length l ≤ token_slots → Room ws
    holds-room h = record { long = p.long; held = rw holds-held h }

    -- one after another
    pub holds_then : (vs : List ℕ) {m : List Token} → Holds (shard_of ws) m vs → Holds s m vs
    holds_then vs {m} q = record {
      kept = q.kept ∙ ap (λ (x : Shard). with_held (with_tokens x (tokens_of vs)) (length m)) p.kept;
      tokens = q.tokens;
      long = q.long;
    }

-- ---- One token's turn in the loops that pledge and destroy

pub one-named : (x : Input) (token : Token) → any (named_by token) (x ∷ []) ≡ names x token
one-named x token = or-false (names x token)

module _ (x : Input) {token y : Token} {named : Bool} (n : named ≡ names x token) (t : token ≡ y) where
  named-is : any (named_by y) (x ∷ []) ≡ named
  named-is = rw (← t) (one-named x token ∙ sym n)

  pub stays_if : not named ≡ true → stays (x ∷ []) y ≡ true
  stays_if e = rw named-is e

  pub stays-not : not named ≡ false → stays (x ∷ []) y ≡ false
  stays-not e = rw named-is e

-- a token's turn in the loop that pledges those that a test picks
module _ (number : ℕ) (test : Token → Bool) {picked : Bool} {token y : Token} (p : picked ≡ test token) (t : token ≡ y) where
  pub picked_if : picked ≡ true → pledged_to number y ≡ pledge_when number test y
  picked_if e = rw (← t, ← p, e) refl

  pub picked-not : picked ≡ false → pledge_when number test y ≡ y
  picked-not e = rw (← t, ← p, e) refl

pub place-next : (f : Token → Token) (l : List Token) (n : ℕ) (ws vs : List ℕ) (i : ℕ) {y : Token}
    → Placing f l n (tokens_of ws) i
    → i < n
    → y ≡ f (slot_token ws i)
    → PutsToken ws i y vs
    → Placing f l n (tokens_of vs) (i + 1)
place-next f l n ws vs i s h e b =
    subst (λ (q : List Token). Placing f l n q (i + 1)) (sym (tokens-of b)) (place-put no_token s h e)

pub pack_next : (f : Token → Bool) (l : List Token) (n : ℕ) (ws vs : List ℕ) (w i : ℕ) {y : Token}
    → Packing f l n (tokens_of ws) w i
    → i < n
    → f (slot_token ws i) ≡ true
    → y ≡ slot_token ws i
    → PutsToken ws w y vs
    → Packing f l n (tokens_of vs) (w + 1) (i + 1)
pack_next f l n ws vs w i s h e ey b =
    let put = sym (tokens-of b ∙ ap (set (tokens_of ws) w) ey) in
    subst (λ (q : List Token). Packing f l n q (w + 1) (i + 1)) put (pack_in no_token s h e)

-- ---- Input after input

-- a change by inputs that goes input by input
pub record InTurn (f : List Input → List Token → List Token) : Type 0 where
  pub none : (l : List Token) → f [] l ≡ l
  pub more : (a b : List Input) (l : List Token) → f (a ++ b) l ≡ f b (f a l)
  pub short : (a : List Input) (l : List Token) → length (f a l) ≤ length l

pub pledges_in_turn : (number : ℕ) → InTurn (pledges number)
unfolding pledges
pledges_in_turn number = record {
  none = nobody;
  more = λ a b l. each a b l;
  short = λ a l. omega (arith, length-map l (pledge_if number a));
}
  where
    nobody : (l : List Token) → map (pledge_if number []) l ≡ l
    nobody [] = refl
    nobody (x ∷ l) = ap (λ (m : List Token). x ∷ m) (nobody l)

    token : (a b : List Input) (x : Token) → pledge_if number (a ++ b) x ≡ pledge_if number b (pledge_if number a x)
    token a b x = rw (any_append (named_by x) a b) (go (any (named_by x) a))
      where
        same : (c : Bool) → pledged_to number x ≡ cond c (pledged_to number x) (pledged_to number x)
        same true = refl
        same false = refl

        go : (c : Bool)
            → cond (c || any (named_by x) b) (pledged_to number x) x ≡ pledge_if number b (cond c (pledged_to number x) x)
        go true = same (any (named_by (pledged_to number x)) b)
        go false = refl

    each : (a b : List Input) (l : List Token)
        → map (pledge_if number (a ++ b)) l ≡ map (pledge_if number b) (map (pledge_if number a) l)
    each a b [] = refl
    each a b (x ∷ l) =
        ap (λ (y : Token). y ∷ map (pledge_if number (a ++ b)) l) (token a b x)
        ∙ ap (λ (m : List Token). pledge_if number b (pledge_if number a x) ∷ m) (each a b l)

pub destroying_in_turn : InTurn destroying
unfolding destroying
destroying_in_turn = record { none = nobody; more = each; short = λ a l. keep-length (stays a) l }
  where
    nobody : (l : List Token) → keep (stays []) l ≡ l
    nobody [] = refl
    nobody (x ∷ l) = ap (λ (m : List Token). x ∷ m) (nobody l)

    each : (a b : List Input) (l : List Token) → keep (stays (a ++ b)) l ≡ keep (stays b) (keep (stays a) l)
    each a b [] = refl
    each a b (x ∷ l) = rw (any_append (named_by x) a b) (go (any (named_by x) a) (each a b l))
      where
        go : (c : Bool) → keep (stays (a ++ b)) l ≡ keep (stays b) (keep (stays a) l)
            → cond (not (c || any (named_by x) b)) (x ∷ keep (stays (a ++ b)) l) (keep (stays (a ++ b)) l)
            ≡ keep (stays b) (cond (not c) (x ∷ keep (stays a) l) (keep (stays a) l))
        go true e = e
        go false e = rw e refl

module _ {f : List Input → List Token → List Token} (turn : InTurn f) where
  -- there is room after a turn
  pub turn-room : (a b : List ℕ) {o : List Input} → Room a → Changes (f o) a b → Room b
  turn-room a b {o} r p =
      holds-room b p (omega (arith, turn.short o (ledger_of a).tokens, held-length a r.held, r.held))

  turn-then : (a b c : List ℕ) (o u : List Input) → Changes (f o) a b → Changes (f u) b c → Changes (f (o ++ u)) a c
  turn-then a b c o u p q = holds_then b p c (rw (turn.more o u (ledger_of a).tokens, ← holds-tokens b p) q)

  -- before the first input's turn
  pub turn-start : (a : List ℕ) → Room a → Changes (f []) a a
  turn-start a r = rw (turn.none (ledger_of a).tokens) (holds_same a r)

  -- and one more
  pub turn-next : (x : List Input) (i : ℕ) (d : Input) → i < length x → (a b c : List ℕ)
      → Changes (f (take i x)) a b
      → Changes (f (get_or x i d ∷ [])) b c
      → Changes (f (take (i + 1) x)) a c
  turn-next x i d h a b c p q = rw (take_more x i d h) (turn-then a b c (take i x) (get_or x i d ∷ []) p q)

  -- all have had theirs
  pub turn_end : (x inputs : List Input) (i : ℕ) → length x ≤ i → x ≡ inputs → (a b : List ℕ)
      → Changes (f (take i x)) a b → Changes (f inputs) a b
  turn_end x inputs i h e a b p = subst (λ (l : List Input). Changes (f l) a b) (take_all i x h ∙ e) p

-- ---- One token more behind those held, where it is wanted

pub one-room : {A : Type 0} (wanted : Bool) (x : A) → wanted ≡ true → length (one_if wanted x) ≡ 1
one-room wanted x e = rw e refl

module _ (ws : List ℕ) (x : Token) where
  pub pushed : (vs us : List ℕ) (n : ℕ) → n ≡ (shard_of ws).held → n < token_slots
      → PutsToken ws n x vs
      → Becomes (with_held (shard_of vs) (n + 1)) us
      → Changes (adding (x ∷ [])) ws us
  unfolding view
  pushed vs us n en h b d =
      let q : tokens_of vs ≡ set (tokens_of ws) n x = tokens-of b in
      let put : Becomes (with_tokens (shard_of ws) (tokens_of vs)) vs =
      record { is = b.is ∙ ap (with_tokens (shard_of ws)) (sym q); long = b.long } in
      let behind = append-one (tokens_of ws) n x (omega (arith, length-tokens ws)) in
      counted ws vs put us (n + 1) d (omega arith) (rw (q, ← en) behind)

module _ (ws : List ℕ) (wanted : Bool) (x : Token) where
  pub one-made : {us : List ℕ} → wanted ≡ true → Changes (adding (x ∷ [])) ws us → Changes (adding (one_if wanted x)) ws us
  one-made e p = rw e p

  pub none_made : wanted ≡ false → Room ws → Changes (adding (one_if wanted x)) ws ws
  none_made e r = rw (e, append-nil) (holds_same ws r)

-- room for some of them
pub some_left : (ws : List ℕ) (m n : ℕ) → Left ws (m + n) → Left ws m
some_left ws m n r = (r.0, omega (arith, r.1))

-- room that is left behind tokens made
pub still-left : (ws vs : List ℕ) (m : List Token) (n : ℕ) → Left ws (length m + n) → Changes (adding m) ws vs
    → Left vs n
still-left ws vs m n r p =
    let more : (shard_of vs).held ≡ (shard_of ws).held + length m =
    holds-held vs p ∙ length-append (ledger_of ws).tokens m ∙ rw (held-length ws r.0.held) refl in
    (record { long = p.long; held = omega (arith, r.1, more) }, omega (arith, r.1, more))

-- the tokens that a commit makes, output by output
module _ (me number : ℕ) (l : List Output) (ws : List ℕ) where
  abbrev made : ℕ → List Token
  made i = tokens_from me number 0 (take i l)

  pub make-start : Room ws → Changes (adding (made 0)) ws ws
  make-start r = rw append-nil (holds_same ws r)

  module _ (vs : List ℕ) (i : ℕ) (d : Output) (h : i < length l) (p : Changes (adding (made i)) ws vs) where
    -- there is room for the next one's
    pub make-room : Left ws (length (tokens_from me number 0 l)) → Left vs (length (made_from me number i (get_or l i d)))
    make-room r =
        let next : ℕ = length (made_from me number i (get_or l i d)) in
        let fits = made-room me number l i d h in
        still-left ws vs (made i) next (r.0, omega (arith, r.1, fits)) p

    pub make-next : (us : List ℕ) → Changes (adding (made_from me number i (get_or l i d))) vs us
        → Changes (adding (made (i + 1))) ws us
    make-next us q =
        let both : (ledger_of ws).tokens ++ made (i + 1) ≡ (ledger_of vs).tokens ++ made_from me number i (get_or l i d) =
        rw (made-next me number l i d h, holds-tokens vs p) (sym (append_assoc (ledger_of ws).tokens (made i) (made_from me number i (get_or l i d)))) in
        subst (λ (m : List Token). Holds (shard_of ws) m us) (sym both) (holds_then vs p us q)

  pub make_end : (vs : List ℕ) (i : ℕ) (all : List Token) → length l ≤ i → tokens_from me number 0 l ≡ all
      → Changes (adding (made i)) ws vs → Changes (adding all) ws vs
  make_end vs i all h e p =
      subst (λ (m : List Token). Changes (adding m) ws vs) (ap (tokens_from me number 0) (take_all i l h) ∙ e) p

-- a commit: destroyed, then made
module _ (me : ℕ) (t : Transaction) (inputs : List Input) (is : inputs ≡ inputs_here me t)
    (ws vs : List ℕ) (r : Room ws) (p : Changes (destroying inputs) ws vs) where
  pub commit-room : length (commit me t (ledger_of ws).tokens) ≤ token_slots → Left vs (length (made_here me t))
  unfolding commit destroying
  commit-room h =
      let left = destroying (inputs_here me t) (ledger_of ws).tokens in
      let here = ap (λ (i : List Input). length (destroying i (ledger_of ws).tokens)) is in
      let e : (shard_of vs).held ≡ length left = holds-held vs p ∙ here in
      let all : length left + length (made_here me t) ≤ token_slots = rw (length-append left (made_here me t)) at h in
      (turn-room destroying_in_turn ws vs {o = inputs} r p, rw e all)

  pub committed : (us : List ℕ) → Changes (adding (made_here me t)) vs us → Changes (commit me t) ws us
  unfolding commit destroying
  committed us q = holds_then vs p us (rw (holds-tokens vs p, is) at q)

-- the transaction in a slot
module _ (place : ℕ) (ws : List ℕ) {me : ℕ} {t : Transaction}
    (em : me ≡ (shard_of ws).number) (et : t ≡ (slot_known ws place).transaction) where
  pub settle-room : Settling Commit place ws → Room ws × (length (commit me t (ledger_of ws).tokens) ≤ token_slots)
  settle-room s = (s.room, rw (em, et) s.fits)

  pub settled : {vs : List ℕ} → Changes (commit me t) ws vs
      → Changes (commit (shard_of ws).number (slot_known ws place).transaction) ws vs
  settled {vs} p = rw (em, et) at p

-- ---- Tokens that come free

-- an abort frees the tokens of the transaction in a slot where the shard has turned, and changes nothing else
module _ (place : ℕ) (ws : List ℕ) where
  -- what the abort leaves, by whether the shard has turned
  abbrev Leaves : Bool → List ℕ → Type 0
  Leaves turned vs = Holds (shard_of ws) (ended turned Abort (slot_known ws place).transaction.number (ledger_of ws).tokens) vs

  pub abort_frees : {number : ℕ} → number ≡ (slot_known ws place).transaction.number → (shard_of ws).turned ≡ true
      → {vs : List ℕ} → Changes (freeing (is_pledged_to number)) ws vs → Settles Abort place ws vs
  unfolding view
  abort_frees {number} e turned {vs} p = subst (λ (b : Bool). Leaves b vs) (sym turned) (rw e at p)

  pub abort_leaves : (shard_of ws).turned ≡ false → Room ws → Settles Abort place ws ws
  unfolding view
  abort_leaves turned r = subst (λ (b : Bool). Leaves b ws) (sym turned) (holds_same ws r)
