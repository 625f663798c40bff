-- Demand 3, the serial ledger: the committed transactions one by one, by last registration, from the genesis tokens.
-- The run succeeds in every state; where every committed transaction is decided at all its shards, it ends in what the shards hold.
use Prim.Native.Nat.{ℕ}
use mathlib.Core.Path.{◌≡◌, refl, ap, sym, ◌∙◌, subst}
use mathlib.Core.Logic.{◌⊎◌, inl, inr, ⊎_elim}
use mathlib.Core.Bool.{Bool, true, false, cond, ◌&&◌, ◌||◌, not}
use mathlib.Core.Option.{Option, none, some}
use mathlib.Core.List.{List, [], ◌∷◌, Memᴰ}
use Rattle.std.specs.Prelude.{Some}
use Rattle.transaction.specs.declared.TokenId.{TokenId}
use Rattle.transaction.specs.declared.Input.{Input}
use Rattle.transaction.specs.declared.Transaction.{Transaction}
use Rattle.transaction.specs.Lists.{any}
use Rattle.transaction.specs.Tokens.{used_inputs, shards_of, same_transaction}
use Rattle.transaction.specs.Checks.{named_twice}
use Rattle.model.specs.declared.Token.{Token}
use Rattle.model.specs.declared.Known.{Known}
use Rattle.model.specs.declared.Outcome.{Outcome}
use Rattle.model.specs.declared.Outcome.TheVariants.{Wait, Commit, Abort}
use Rattle.model.specs.Lists.{map_option, and_then}
use Rattle.model.specs.Steps.{Limits, inputs_here, outcome_of, made_here}
use Rattle.model.specs.Cluster.{ledger_at}
use Rattle.model.specs.Model.{Entry, Model}
use Rattle.model.specs.Demand.{
  outcome_at,
  committed,
  Settled,
  logs_it,
  is_last,
  serial_from,
  Value,
  SerialLedger,
  input_value,
  token_value,
  token_at,
  genesis_ledger,
  spend,
  serial_run,
  held_value,
  SerialEnd,
}
use Rattle.model.proofs.Basics.{
  not_yes,
  both,
  and_intro,
  clash,
  Case,
  yes-case,
  no-case,
  case,
  or_else,
  or_else-none,
  some≢none,
  some_inj,
  CaseO,
  is-some,
  is-none,
  case_o,
  same_some,
  any_at,
  any_of,
}
use Rattle.model.proofs.Entries.{same-eq, same_true, look}
use Rattle.model.proofs.Outcomes.{commit≢wait}
use Rattle.model.proofs.Holdings.{id_of, taken, Takes, taken-by, here-shard, in_here, made-number, made-shard}
use Rattle.model.proofs.Invariant.{
  Voted,
  voted-available,
  Complete,
  on_commit,
  gain,
  by_commit,
  made,
  Consumed,
  Source,
  from-genesis,
  from-commit,
  Sources,
}
use Rattle.model.proofs.Steps.{Once, genesis_at, Inv}
use Rattle.model.proofs.Decisions.{outcome-of, agree_at, commit-votes, commit-at, committed-of, taken-once}
use Rattle.model.proofs.Spending.{Spends, spends}

-- ---- Transactions that no newer entry of the log is of

-- no newer entry is of it
pub last_entry : (newer : List Entry) (t : Transaction) → is_last newer t ≡ true → (e : Entry) → Memᴰ e newer → e.transaction ≡ t → ⊥
last_entry newer t u e m z = clash u (ap not (any_of (logs_it t) m (same_true z)))

-- a transaction that no newer entry is of
pub last_of : (newer : List Entry) (t : Transaction) → ((e : Entry) → Memᴰ e newer → e.transaction ≡ t → ⊥) → is_last newer t ≡ true
last_of newer t h = ap not (not_yes (λ a. let r = any_at (logs_it t) newer a in h r.0 r.1 (same-eq r.0.transaction t r.2)))

-- and none of fewer entries
pub last-tail : (r : Entry) (newer : List Entry) (t : Transaction) → is_last (r ∷ newer) t ≡ true → is_last newer t ≡ true
last-tail r newer t u = last_of newer t (λ e m. last_entry (r ∷ newer) t u e (mathlib.Core.List.Memᴰ.tail m))

-- the entry with which a transaction stops being one of them is of it
pub late : (r : Entry) (newer : List Entry) (t : Transaction) → is_last newer t ≡ true → is_last (r ∷ newer) t ≡ false → r.transaction ≡ t
late r newer t u f = go (case (same_transaction r.transaction t))
  where
    go : Case (same_transaction r.transaction t) → r.transaction ≡ t
    go (yes-case y) = same-eq r.transaction t y
    go (no-case n) = clash u (ap (λ (c : Bool). not (c || any (logs_it t) newer)) (sym n) ∙ f)

-- ---- Sources, seen from the rest of the log

-- a source in fewer entries is one in more
source_mono : (p : ℕ) (genesis : ℕ → ℕ → Option Value) (known : List Known) (a c : List Entry) (x : Input)
    → ((e : Entry) → Memᴰ e a → Memᴰ e c) → Source p genesis known a x → Source p genesis known c x
source_mono p genesis known a c x h (from-genesis g) = from-genesis g
source_mono p genesis known a c x h (from-commit k e y g all) =
    from-commit k e y g (λ q m. let r = all q m in record { entry = r.entry; logged = h r.entry r.logged; at = r.at; of = r.of })

-- what an entry found available has its source among the older ones
source_in : (p : ℕ) (genesis : ℕ → ℕ → Option Value) (known : List Known) (r : Entry) (older : List Entry) (x : Input) → Sources p genesis known (r ∷ older)
    → (e : Entry) → Memᴰ e (r ∷ older) → e.shard ≡ p → Memᴰ x e.available → Source p genesis known older x
source_in p genesis known r [] x src e (mathlib.Core.List.Memᴰ.head z) at a =
    src.0 (ap (λ (c : Entry). c.shard) (sym z) ∙ at) x (subst (λ (c : Entry). Memᴰ x c.available) z a)
source_in p genesis known r [] x src e (mathlib.Core.List.Memᴰ.tail d) at a = elim d [ ]
source_in p genesis known r (r₁ ∷ older) x src e (mathlib.Core.List.Memᴰ.head z) at a =
    src.0 (ap (λ (c : Entry). c.shard) (sym z) ∙ at) x (subst (λ (c : Entry). Memᴰ x c.available) z a)
source_in p genesis known r (r₁ ∷ older) x src e (mathlib.Core.List.Memᴰ.tail d) at a =
    source_mono p genesis known older (r₁ ∷ older) x (λ c q. mathlib.Core.List.Memᴰ.tail q) (source_in p genesis known r₁ older x src.1 e d at a)

module _ (limits : Limits) (model : Model) (w : Inv limits model) where
  -- a shard's genesis tokens
  abbrev genesis-at : ℕ → ℕ → ℕ → Option Value
  genesis-at p = genesis_at model.minted p

  -- a shard's known transactions
  abbrev known_at : ℕ → List Known
  known_at p = (ledger_at limits model.shards p).known

  -- ---- Committed transactions

  -- each shard of one voted yes, and knows it
  voted-commit : (t : Transaction) → committed model t ≡ true → (q : ℕ) → Memᴰ q (shards_of t) → Voted model.log q t (Some true)
  voted-commit t c q m = let r = commit-at limits model w t c in commit-votes limits model w r.0 t r.1 q m

  -- a transaction that a shard knows
  record At (q : ℕ) (t : Transaction) : Type 0 where
    entry : Known
    is_known : look (known_at q) t.number ≡ some entry
    whole : entry.transaction ≡ t

  -- a shard knows what it registered
  at_entry : (r : Entry) → Memᴰ r model.log → (q : ℕ) → r.shard ≡ q → (t : Transaction) → r.transaction ≡ t → At q t
  at_entry r m q e t z =
      let h = (w.at q).entered r m e in
      record { entry = h.0; is_known = ap (λ (a : Transaction). look (known_at q) a.number) (sym z) ∙ h.1; whole = h.2 ∙ z }

  -- each shard of a committed transaction knows it
  at-shard : (t : Transaction) → committed model t ≡ true → (q : ℕ) → Memᴰ q (shards_of t) → At q t
  at-shard t c q m = let v = voted-commit t c q m in at_entry v.entry v.logged q v.at t v.of

  -- its number is not 0
  positive-at : (q : ℕ) (t : Transaction) → At q t → t.number ≡ 0 → ⊥
  positive-at q t a = (w.at q).core.number t.number a.entry a.is_known

  -- ---- The log parted in the newer entries and the rest

  -- what holds of the two parts
  record Split (newer rest : List Entry) : Type 0 where
    sources : (p : ℕ) → Sources p (genesis-at p) (known_at p) rest
    once : Once rest
    apart : (e₁ e₂ : Entry) → Memᴰ e₁ newer → Memᴰ e₂ rest → e₁.shard ≡ e₂.shard → e₁.transaction ≡ e₂.transaction → ⊥
    all : (e : Entry) → Memᴰ e model.log → Memᴰ e newer ⊎ Memᴰ e rest
    newer_in : (e : Entry) → Memᴰ e newer → Memᴰ e model.log
    rest_in : (e : Entry) → Memᴰ e rest → Memᴰ e model.log

  -- one entry passed
  split-next : (newer : List Entry) (r : Entry) (older : List Entry) → Split newer (r ∷ older) → Split (r ∷ newer) older
  split-next newer r older s = record {
    sources = λ p. (s.sources p).1;
    once = s.once.1;
    apart = apart';
    all = λ e m. ⊎_elim (λ d. inl (mathlib.Core.List.Memᴰ.tail d)) (all' e) (s.all e m);
    newer_in = newer';
    rest_in = λ e m. s.rest_in e (mathlib.Core.List.Memᴰ.tail m);
  }
    where
      apart' : (e₁ e₂ : Entry) → Memᴰ e₁ (r ∷ newer) → Memᴰ e₂ older → e₁.shard ≡ e₂.shard → e₁.transaction ≡ e₂.transaction → ⊥
      apart' e₁ e₂ (mathlib.Core.List.Memᴰ.head z) m a c = s.once.0 e₂ m (sym a ∙ ap (λ (e : Entry). e.shard) z) (sym c ∙ ap (λ (e : Entry). e.transaction) z)
      apart' e₁ e₂ (mathlib.Core.List.Memᴰ.tail d) m a c = s.apart e₁ e₂ d (mathlib.Core.List.Memᴰ.tail m) a c

      all' : (e : Entry) → Memᴰ e (r ∷ older) → Memᴰ e (r ∷ newer) ⊎ Memᴰ e older
      all' e (mathlib.Core.List.Memᴰ.head z) = inl (mathlib.Core.List.Memᴰ.head z)
      all' e (mathlib.Core.List.Memᴰ.tail d) = inr d

      newer' : (e : Entry) → Memᴰ e (r ∷ newer) → Memᴰ e model.log
      newer' e (mathlib.Core.List.Memᴰ.head z) = s.rest_in e (mathlib.Core.List.Memᴰ.head z)
      newer' e (mathlib.Core.List.Memᴰ.tail d) = s.newer_in e d

  -- a committed transaction that no newer entry is of is registered in the rest
  in_rest : (newer rest : List Entry) → Split newer rest → (t : Transaction) → committed model t ≡ true → is_last newer t ≡ true
      → (q : ℕ) → Memᴰ q (shards_of t) → Voted rest q t (Some true)
  in_rest newer rest s t c u q m =
      let v = voted-commit t c q m in
      let d : Memᴰ v.entry rest = ⊎_elim (λ d. absurd (last_entry newer t u v.entry d v.of)) (λ d. d) (s.all v.entry v.logged) in
      record { entry = v.entry; logged = d; at = v.at; of = v.of; is-vote = v.is-vote; says = v.says }

  -- ---- What the committed transactions of the rest take and make

  -- a committed transaction of the rest takes the token
  record Spent (newer : List Entry) (p m i : ℕ) : Type 0 where
    transaction : Transaction
    is-committed : committed model transaction ≡ true
    is-taken : taken p transaction m i ≡ true
    is-last : is_last newer transaction ≡ true

  -- what a known transaction has made, if it is a committed one of the rest
  abbrev byCommitIn : List Entry → ℕ → Option Known → ℕ → ℕ → Option Value
  byCommitIn newer p none m i = none
  byCommitIn newer p (some k) m i = cond (is_last newer k.transaction && committed model k.transaction) (gain p k.transaction m i) none

  -- what was made in the rest
  abbrev madeIn : List Entry → ℕ → ℕ → ℕ → Option Value
  madeIn newer p m i = or_else (genesis-at p m i) (byCommitIn newer p (look (known_at p) m) m i)

  -- the run over the rest succeeds, and ends in what was made there and not taken
  record Claim (newer rest : List Entry) : Type 0 where
    ledger : SerialLedger
    runs : serial_run (genesis_ledger model.minted) (serial_from model newer rest) ≡ some ledger
    spent : (p m i : ℕ) → Spent newer p m i → ledger (id_of p m i) ≡ none
    unspent : (p m i : ℕ) → (Spent newer p m i → ⊥) → ledger (id_of p m i) ≡ madeIn newer p m i

  -- where nothing is left in the rest: the genesis tokens
  claim-start : (newer : List Entry) → Split newer [] → Claim newer []
  unfolding serial_run serial_from
  claim-start newer s = record {
    ledger = genesis_ledger model.minted;
    runs = refl;
    spent = λ p m i d.
        let t = taken-by p d.transaction m i d.is-taken in
        let v = in_rest newer [] s d.transaction d.is-committed d.is-last p (here-shard p d.transaction t.input t.is-here).2 in
        absurd (elim v.logged [ ]);
    unspent = λ p m i h. sym (ap (λ (o : Option Value). or_else (genesis-at p m i) o) (nothing p m i (case_o (look (known_at p) m)))
        ∙ or_else-none (genesis-at p m i));
  }
    where
      nothing : (p m i : ℕ) → CaseO (look (known_at p) m) → byCommitIn newer p (look (known_at p) m) m i ≡ none
      nothing p m i (is-none e) = ap (λ (o : Option Known). byCommitIn newer p o m i) e
      nothing p m i (is-some k e) = ap (λ (o : Option Known). byCommitIn newer p o m i) e
          ∙ cut (is_last newer k.transaction && committed model k.transaction) refl
        where
          zero-gain : is_last newer k.transaction ≡ true → committed model k.transaction ≡ true
              → CaseO (token_at (made_here p k.transaction) m i) → gain p k.transaction m i ≡ none
          zero-gain u y (is-none z) = ap (map_option token_value) z
          zero-gain u y (is-some t z) = absurd (elim (in_rest newer [] s k.transaction y u p (made-shard p k.transaction m i z)).logged [ ])

          cut : (b : Bool) → is_last newer k.transaction && committed model k.transaction ≡ b → cond b (gain p k.transaction m i) none ≡ none
          cut true y = let r = both (is_last newer k.transaction) (committed model k.transaction) y in zero-gain
              r.0 r.1 (case_o (token_at (made_here p k.transaction) m i))
          cut false y = refl

  -- ---- One entry more

  module _ (newer : List Entry) (r : Entry) (older : List Entry) (sp : Split newer (r ∷ older)) (ih : Claim (r ∷ newer) older) where
    -- the parts with this entry passed
    next : Split (r ∷ newer) older
    next = split-next newer r older sp

    -- what is taken by the older entries is taken by the rest
    spent-tail : (p m i : ℕ) → Spent (r ∷ newer) p m i → Spent newer p m i
    spent-tail p m i d = record {
      transaction = d.transaction;
      is-committed = d.is-committed;
      is-taken =
          d.is-taken;
      is-last = last-tail r newer d.transaction d.is-last;
    }

    -- the same is made where the entry's transaction makes nothing under that id
    made_shift : (p m i : ℕ)
        → ((k : Known) → look (known_at p) m ≡ some k → committed model k.transaction ≡ true
        → is_last newer k.transaction ≡ true → is_last (r ∷ newer) k.transaction ≡ false → gain p k.transaction m i ≡ none)
        → madeIn (r ∷ newer) p m i ≡ madeIn newer p m i
    made_shift p m i h = ap (λ (o : Option Value). or_else (genesis-at p m i) o) (go (look (known_at p) m) refl)
      where
        go : (o : Option Known) → look (known_at p) m ≡ o → byCommitIn (r ∷ newer) p o m i ≡ byCommitIn newer p o m i
        go none e = refl
        go (some k) e = cut (case (committed model k.transaction)) (case (is_last (r ∷ newer) k.transaction)) (case (is_last newer k.transaction))
          where
            v : Option Value
            v = gain p k.transaction m i

            by : Bool → Bool → Option Value
            by a c = cond (a && c) v none

            drop : (b : Bool) → by b false ≡ none
            drop true = refl
            drop false = refl

            cut : Case (committed model k.transaction) → Case (is_last (r ∷ newer) k.transaction) → Case (is_last newer k.transaction)
                → by (is_last (r ∷ newer) k.transaction) (committed model k.transaction)
                ≡ by (is_last newer k.transaction) (committed model k.transaction)
            cut y (yes-case a) (yes-case c) = ap (λ (t : Bool). by t (committed model k.transaction)) (a ∙ sym c)
            cut y (no-case a) (no-case c) = ap (λ (t : Bool). by t (committed model k.transaction)) (a ∙ sym c)
            cut y (yes-case a) (no-case c) = clash (last-tail r newer k.transaction a) c
            cut (yes-case y) (no-case a) (yes-case c) =
                ap (λ (t : Bool). by t (committed model k.transaction)) a ∙ sym ((λ j. by (c j) (y j)) ∙ h k e y c a)
            cut (no-case y) (no-case a) (yes-case c) =
                ap (by (is_last (r ∷ newer) k.transaction)) y ∙ drop (is_last (r ∷ newer) k.transaction)
                ∙ sym (ap (by (is_last newer k.transaction)) y ∙ drop (is_last newer k.transaction))

    -- an entry that is not the last one of a committed transaction
    claim-skip : is_last newer r.transaction && committed model r.transaction ≡ false → Claim newer (r ∷ older)
    unfolding serial_from
    claim-skip f = record {
      ledger = ih.ledger;
      runs = ap (λ (c : Bool). serial_run (genesis_ledger model.minted)
          (cond c (r.transaction ∷ serial_from model (r ∷ newer) older) (serial_from model (r ∷ newer) older))) f ∙ ih.runs;
      spent = λ p m i d. ih.spent p m i (record {
        transaction = d.transaction;
        is-committed = d.is-committed;
        is-taken = d.is-taken;
        is-last = still d.transaction d.is-committed d.is-last;
      });
      unspent = λ p m i h. ih.unspent p m i (λ d. h (spent-tail p m i d)) ∙ made_shift p m i (λ k e y u z. clash (still k.transaction y u) z);
    }
      where
        still : (t : Transaction) → committed model t ≡ true → is_last newer t ≡ true → is_last (r ∷ newer) t ≡ true
        still t y u = cut (case (is_last (r ∷ newer) t))
          where
            cut : Case (is_last (r ∷ newer) t) → is_last (r ∷ newer) t ≡ true
            cut (yes-case a) = a
            cut (no-case a) =
                let z : t ≡ r.transaction = sym (late r newer t u a) in
                clash (and_intro (subst (λ (s : Transaction). is_last newer s ≡ true) z u) (subst (λ (s : Transaction). committed model s ≡ true) z y)) f

    -- an input of a committed transaction of the rest has its source before its registration
    rest_source : (p : ℕ) (t : Transaction) → committed model t ≡ true → is_last newer t ≡ true → (x : Input) → Memᴰ x (inputs_here p t)
        → Source p (genesis-at p) (known_at p) older x
    rest_source p t c u x m =
        let v = in_rest newer (r ∷ older) sp t c u p (here-shard p t x m).2 in
        source_in p (genesis-at p) (known_at p) r older x (sp.sources p) v.entry v.logged v.at (voted-available v x m)

    -- what all its shards have registered before has no newer entry
    complete_last : (t : Transaction) → Complete older t → is_last (r ∷ newer) t ≡ true
    complete_last t all = last_of (r ∷ newer) t (λ e m z.
        let g = all e.shard (subst (λ (s : Transaction). Memᴰ e.shard (shards_of s)) z (w.logged.member e (next.newer_in e m))) in
        next.apart e g.entry m g.logged (sym g.at) (z ∙ sym g.of))

    -- what has a source was made in the rest
    source_made_in : (p : ℕ) (x : Input) → Source p (genesis-at p) (known_at p) older x
        → madeIn (r ∷ newer) p x.token.creator x.token.index ≡ some (input_value x)
    source_made_in p x (from-genesis g) =
        ap (λ (o : Option Value). or_else o (byCommitIn (r ∷ newer) p (look (known_at p) x.token.creator) x.token.creator x.token.index)) g
    source_made_in p x (from-commit k e y g all) =
        (λ j. or_else ((w.at p).core.zero-only x.token.creator x.token.index ((w.at p).core.number x.token.creator k e) j)
        (byCommitIn (r ∷ newer) p (e j) x.token.creator x.token.index))
        ∙ (λ j. cond (complete_last k.transaction all j && committed-of limits model w p x.token.creator k e y j)
        (gain p k.transaction x.token.creator x.token.index) none) ∙ g

    -- the last entry of a committed transaction
    module _ (u : is_last newer r.transaction ≡ true) (c : committed model r.transaction ≡ true) where
      -- its transaction
      abbrev t : Transaction
      t = r.transaction

      -- the shard of this entry takes part
      own-member : Memᴰ r.shard (shards_of t)
      own-member = w.logged.member r (sp.rest_in r (mathlib.Core.List.Memᴰ.head refl))

      -- and knows it
      own_at : At r.shard t
      own_at = at_entry r (sp.rest_in r (mathlib.Core.List.Memᴰ.head refl)) r.shard refl t refl

      -- no committed transaction of the older entries takes its inputs
      spent-not : (q : ℕ) (x : Input) → Memᴰ x (inputs_here q t) → Spent (r ∷ newer) q x.token.creator x.token.index → ⊥
      spent-not q x m d =
          let y = taken-by q d.transaction x.token.creator x.token.index d.is-taken in
          last_entry (r ∷ newer) d.transaction d.is-last r (mathlib.Core.List.Memᴰ.head refl)
          (taken-once limits model w t d.transaction c d.is-committed q x y.input m y.is-here (sym y.is_creator) (sym y.is-index))

      -- each input is present
      is-present : (x : Input) → Memᴰ x (used_inputs t) → ih.ledger x.token ≡ some (input_value x)
      is-present x m =
          let q : ℕ = x.token.shard in
          ih.unspent q x.token.creator x.token.index (spent-not q x (in_here t x m))
          ∙ source_made_in q x (rest_source q t c u x (in_here t x m))

      -- no token is named twice
      is-distinct : named_twice t ≡ false
      is-distinct = subst (λ (s : Transaction). named_twice s ≡ false) own_at.whole
          ((w.at r.shard).core.distinct t.number own_at.entry own_at.is_known)

      -- nothing was made under its number before
      is_free : (p m i : ℕ) (k : Token) → token_at (made_here p t) m i ≡ some k → ih.ledger (id_of p m i) ≡ none
      is_free p m i k z = go (case_o (ih.ledger (id_of p m i)))
        where
          a : At p t
          a = at-shard t c p (made-shard p t m i z)

          e : m ≡ t.number
          e = made-number p t m i z

          passed : is_last (r ∷ newer) t ≡ false
          passed = not_yes (λ y. last_entry (r ∷ newer) t y r (mathlib.Core.List.Memᴰ.head refl) refl)

          unmade : madeIn (r ∷ newer) p m i ≡ none
          unmade =
              (λ j. or_else ((w.at p).core.zero-only m i (λ z. positive-at p t a (sym e ∙ z)) j)
              (byCommitIn (r ∷ newer) p ((ap (look (known_at p)) e ∙ a.is_known) j) m i))
              ∙ (λ j. cond (is_last (r ∷ newer) (a.whole j) && committed model (a.whole j)) (gain p (a.whole j) m i) none)
              ∙ (λ j. cond (passed j && committed model t) (gain p t m i) none)

          go : CaseO (ih.ledger (id_of p m i)) → ih.ledger (id_of p m i) ≡ none
          go (is-none y) = y
          go (is-some v y) = ih.unspent p m i (λ d. some≢none y (ih.spent p m i d)) ∙ unmade

      -- so it is carried out
      spending : Spends t ih.ledger
      spending = spends t ih.ledger is-distinct is-present is_free

      -- what it makes is not taken by a committed transaction of the rest
      no-gain : (p m i : ℕ) → Spent newer p m i → gain p t m i ≡ none
      no-gain p m i d = go (case_o (token_at (made_here p t) m i))
        where
          y : Takes p d.transaction m i
          y = taken-by p d.transaction m i d.is-taken

          bad : (a : At p t) → m ≡ t.number → Source p (genesis-at p) (known_at p) older y.input → ⊥
          bad a e (from-genesis g) = some≢none g
              ((w.at p).core.zero-only y.input.token.creator y.input.token.index (λ z. positive-at p t a (sym e ∙ sym y.is_creator ∙ z)))
          bad a e (from-commit k l z g all) =
              let one : k ≡ a.entry = some_inj (sym l ∙ ap (look (known_at p)) (y.is_creator ∙ e) ∙ a.is_known) in
              let sw : k.transaction ≡ t = ap (λ (j : Known). j.transaction) one ∙ a.whole in
              let g = all r.shard (subst (λ (s : Transaction). Memᴰ r.shard (shards_of s)) (sym sw) own-member) in
              sp.once.0 g.entry g.logged g.at (g.of ∙ sw)

          go : CaseO (token_at (made_here p t) m i) → gain p t m i ≡ none
          go (is-none z) = ap (map_option token_value) z
          go (is-some h z) =
              absurd (bad (at-shard t c p (made-shard p t m i z)) (made-number p t m i z)
              (rest_source p d.transaction d.is-committed d.is-last y.input y.is-here))

      -- what it and the older ones take is gone
      spent-new : (p m i : ℕ) → Spent newer p m i → spending.left (id_of p m i) ≡ none
      spent-new p m i d =
          spending.is-left p m i
          ∙ ap (λ (o : Option Value). or_else o (cond (taken p t m i) none (ih.ledger (id_of p m i)))) (no-gain p m i d)
          ∙ go (case (is_last (r ∷ newer) d.transaction)) (case (taken p t m i))
        where
          old : Option Value
          old = ih.ledger (id_of p m i)

          go : Case (is_last (r ∷ newer) d.transaction) → Case (taken p t m i) → cond (taken p t m i) none old ≡ none
          go z (yes-case y) = ap (λ (c : Bool). cond c none old) y
          go (yes-case z) (no-case y) =
              ap (λ (c : Bool). cond c none old) y
              ∙ ih.spent p m i (record { transaction = d.transaction; is-committed = d.is-committed; is-taken = d.is-taken; is-last = z })
          go (no-case z) (no-case y) = clash
              (subst (λ (s : Transaction). taken p s m i ≡ true) (sym (late r newer d.transaction d.is-last z)) d.is-taken) y

      -- and what they make and do not take is there
      unspent-new : (p m i : ℕ) → (Spent newer p m i → ⊥) → spending.left (id_of p m i) ≡ madeIn newer p m i
      unspent-new p m i h =
          spending.is-left p m i
          ∙ (λ j. or_else (gain p t m i) (cond (untaken j) none (ih.ledger (id_of p m i))))
          ∙ ap (λ (o : Option Value). or_else (gain p t m i) o) (ih.unspent p m i (λ d. h (spent-tail p m i d)))
          ∙ go (case_o (token_at (made_here p t) m i))
        where
          untaken : taken p t m i ≡ false
          untaken = not_yes (λ y. h (record { transaction = t; is-committed = c; is-taken = y; is-last = u }))

          hit : (v : Value) → gain p t m i ≡ some v → (a : At p t) → m ≡ t.number → madeIn newer p m i ≡ some v
          hit v g a e =
              (λ j. or_else ((w.at p).core.zero-only m i (λ z. positive-at p t a (sym e ∙ z)) j)
              (byCommitIn newer p ((ap (look (known_at p)) e ∙ a.is_known) j) m i))
              ∙ (λ j. cond (is_last newer (a.whole j) && committed model (a.whole j)) (gain p (a.whole j) m i) none)
              ∙ (λ j. cond (u j && c j) (gain p t m i) none) ∙ g

          go : CaseO (token_at (made_here p t) m i) → or_else (gain p t m i) (madeIn (r ∷ newer) p m i) ≡ madeIn newer p m i
          go (is-some k z) =
              let g : gain p t m i ≡ some (token_value k) = ap (map_option token_value) z in
              ap (λ (o : Option Value). or_else o (madeIn (r ∷ newer) p m i)) g
              ∙ sym (hit (token_value k) g (at-shard t c p (made-shard p t m i z)) (made-number p t m i z))
          go (is-none z) =
              let g : gain p t m i ≡ none = ap (map_option token_value) z in
              ap (λ (o : Option Value). or_else o (madeIn (r ∷ newer) p m i)) g
              ∙ made_shift p m i (λ k e y a l. ap (λ (s : Transaction). gain p s m i) (sym (late r newer k.transaction a l)) ∙ g)

      -- the run with it
      claim_emit : Claim newer (r ∷ older)
      unfolding serial_from serial_run
      claim_emit = record {
        ledger = spending.left;
        runs = ap (λ (b : Bool). serial_run (genesis_ledger model.minted)
            (cond b (t ∷ serial_from model (r ∷ newer) older) (serial_from model (r ∷ newer) older))) (and_intro u c)
            ∙ ap (and_then (spend t)) ih.runs ∙ spending.is-spent;
        spent = spent-new;
        unspent = unspent-new;
      }

    -- one entry more
    claim-step : Claim newer (r ∷ older)
    claim-step = go (case (is_last newer r.transaction && committed model r.transaction))
      where
        go : Case (is_last newer r.transaction && committed model r.transaction) → Claim newer (r ∷ older)
        go (yes-case y) = let e = both (is_last newer r.transaction) (committed model r.transaction) y in claim_emit e.0 e.1
        go (no-case f) = claim-skip f

  -- every rest
  claim : (rest newer : List Entry) → Split newer rest → Claim newer rest
  claim [] newer sp = claim-start newer sp
  claim (r ∷ older) newer sp = claim-step newer r older sp (claim older (r ∷ newer) (split-next newer r older sp))

  -- the whole log is a rest
  whole-log : Split [] model.log
  whole-log = record {
    sources = λ p. (w.at p).core.sources;
    once = w.logged.once;
    apart = λ e₁ e₂ m. elim m [ ];
    all = λ e m. inr m;
    newer_in = λ e m. elim m [ ];
    rest_in = λ e m. m;
  }

  -- the run over the whole log
  whole-claim : Claim [] model.log
  whole-claim = claim model.log [] whole-log

  -- the serial run succeeds in every state
  pub serial_end : SerialEnd model
  serial_end = record { ledger = whole-claim.ledger; runs = whole-claim.runs }

  -- ---- Where every committed transaction is decided at all its shards

  module _ (settled : Settled limits model) where
    -- what is committed is committed at each of its shards
    commits-at : (t : Transaction) → committed model t ≡ true → (q : ℕ) → Memᴰ q (shards_of t) → outcome_at limits model q t ≡ Commit
    commits-at t c q m =
        let r = commit-at limits model w t c in
        sym (agree_at limits model w r.0 q t (λ z. commit≢wait (sym r.1 ∙ z)) (settled t c q m)) ∙ r.1

    -- what is committed is committed here
    outcome_here : (p n : ℕ) (k : Known) → look (known_at p) n ≡ some k → n ≡ k.transaction.number
        → committed model k.transaction ≡ true → Memᴰ p (shards_of k.transaction) → outcome_of k ≡ Commit
    outcome_here p n k e z c m = sym (outcome-of limits model w p k.transaction k (ap (look (known_at p)) (sym z) ∙ e) refl)
        ∙ commits-at k.transaction c p m

    -- what was made by the whole log was made by the shards
    made_all : (p m i : ℕ) → madeIn [] p m i ≡ made p (genesis-at p) (known_at p) m i
    unfolding made
    made_all p m i = ap (λ (o : Option Value). or_else (genesis-at p m i) o) (go (look (known_at p) m) refl)
      where
        go : (o : Option Known) → look (known_at p) m ≡ o → byCommitIn [] p o m i ≡ by_commit p o m i
        go none e = refl
        go (some k) e = cut (outcome_of k) refl (committed model k.transaction) refl (case_o (token_at (made_here p k.transaction) m i))
          where
            absent : (o : Outcome) → gain p k.transaction m i ≡ none → on_commit o (gain p k.transaction m i) ≡ none
            absent Wait z = refl
            absent Commit z = z
            absent Abort z = refl

            there : outcome_of k ≡ Commit → (b : Bool) → committed model k.transaction ≡ b
                → cond b (gain p k.transaction m i) none ≡ gain p k.transaction m i
            there y true c = refl
            there y false c = clash (committed-of limits model w p m k e y) c

            cut : (o : Outcome) → outcome_of k ≡ o → (b : Bool) → committed model k.transaction ≡ b → CaseO (token_at (made_here p k.transaction) m i)
                → cond b (gain p k.transaction m i) none ≡ on_commit o (gain p k.transaction m i)
            cut o y true c (is-none z) = ap (map_option token_value) z ∙ sym (absent o (ap (map_option token_value) z))
            cut o y true c (is-some h z) =
                ap (λ (a : Outcome). on_commit a (gain p k.transaction m i))
                (sym (outcome_here p m k e (made-number p k.transaction m i z) c (made-shard p k.transaction m i z)) ∙ y)
            cut Wait y false c n = refl
            cut Abort y false c n = refl
            cut Commit y false c n = there y false c

    -- what the run takes is consumed at its shard
    spent_consumed : (p m i : ℕ) → Spent [] p m i → Consumed p (known_at p) m i
    spent_consumed p m i d =
        let y = taken-by p d.transaction m i d.is-taken in
        let h = (here-shard p d.transaction y.input y.is-here).2 in
        let a = at-shard d.transaction d.is-committed p h in
        record {
          number = d.transaction.number;
          entry = a.entry;
          is_known = a.is_known;
          is-commit = sym (outcome-of limits model w p d.transaction a.entry a.is_known a.whole)
              ∙ commits-at d.transaction d.is-committed p h;
          is-taken = subst (λ (s : Transaction). taken p s m i ≡ true) (sym a.whole) d.is-taken;
        }

    -- what is consumed at a shard is taken by the run
    consumed_spent : (p m i : ℕ) → Consumed p (known_at p) m i → Spent [] p m i
    consumed_spent p m i d = record {
      transaction = d.entry.transaction;
      is-committed = committed-of limits model w p d.number d.entry d.is_known d.is-commit;
      is-taken = d.is-taken;
      is-last = refl;
    }

    -- the shards hold what the run ends in
    pub one-ledger-at : (id : TokenId) → held_value limits model id ≡ serial_end.ledger id
    unfolding serial_end
    one-ledger-at id = same_some (held_value limits model id) (whole-claim.ledger id) up down
      where
        p : ℕ
        p = id.shard

        m : ℕ
        m = id.creator

        i : ℕ
        i = id.index

        up : (v : Value) → held_value limits model id ≡ some v → whole-claim.ledger id ≡ some v
        up v e =
            let free : Consumed p (known_at p) m i → ⊥ = λ d. some≢none e (ap (map_option token_value) ((w.at p).core.gone m i d)) in
            whole-claim.unspent p m i (λ d. free (spent_consumed p m i d)) ∙ made_all p m i ∙ sym ((w.at p).core.there m i free) ∙ e

        down : (v : Value) → whole-claim.ledger id ≡ some v → held_value limits model id ≡ some v
        down v e =
            let free : Spent [] p m i → ⊥ = λ d. some≢none e (whole-claim.spent p m i d) in
            (w.at p).core.there m i (λ d. free (consumed_spent p m i d)) ∙ sym (made_all p m i) ∙ sym (whole-claim.unspent p m i free) ∙ e
