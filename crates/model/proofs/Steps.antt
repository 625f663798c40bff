-- The invariant holds after every list of calls, and what a shard knows stays known.
use Prim.Native.Nat.{ℕ, suc, ◌<◌}
use native.Mathlib.Omega.{arith}
use mathlib.Core.Path.{◌≡◌, refl, ap, sym, ◌∙◌, subst}
use mathlib.Core.Logic.{◌⊎◌, inl, inr, ⊎_elim}
use mathlib.Core.Bool.{Bool, true, false, cond, ◌&&◌, true≢false}
use mathlib.Core.Option.{Option, none, some}
use mathlib.Core.List.{List, [], ◌∷◌, ◌++◌, Memᴰ}
use lib.Dec.{eqb}
use lib.ListN.{length, get_or, set, replicate, length-set, length-replicate}
use lib.Seq.{get_or-set_same, get_or-set_other, set-set}
use Rattle.std.specs.Prelude.{Some, None}
use Rattle.std.proofs.lemmas.Option.{none-some}
use Rattle.transaction.specs.declared.Input.{Input}
use Rattle.transaction.specs.declared.Transaction.{Transaction}
use Rattle.transaction.specs.Lists.{any}
use Rattle.transaction.specs.Tokens.{shards_of, same_token}
use Rattle.transaction.specs.Checks.{named_twice, shard_fits}
use Rattle.model.specs.declared.Token.{Token}
use Rattle.model.specs.declared.Known.{Known}
use Rattle.model.specs.declared.Outcome.{Outcome}
use Rattle.model.specs.declared.Outcome.TheVariants.{Wait, Commit, Abort}
use Rattle.model.specs.Answers.{Answer}
use Rattle.model.specs.declared.Done.TheVariants.{Registered, Heard}
use Rattle.model.specs.Lists.{map_option}
use Rattle.model.specs.Said.{Said, says}
use Rattle.model.specs.Steps.{
  Limits,
  Ledger,
  empty_ledger,
  holding,
  genesis_token,
  available_here,
  pledges,
  vote,
  findings,
  keeping,
  known_with,
  newly_known,
  heard_from,
  hearing,
  outcome_of,
  settle,
  freeing,
  concluded,
  is_for,
  place_of,
  entry_of,
  after_mint,
  after_register,
  after_vote,
  pledged_to_aborted,
  after_turn,
}
use Rattle.model.specs.Shard.{Call, register, deliver}
use Rattle.model.specs.Cluster.{empty_shards, ledger_at, has_given, gave}
use Rattle.model.specs.Model.{Entry, Genesis, Model, empty_model, entry_for, step, after, play}
use Rattle.model.specs.Demand.{Value, input_value, token_value, has_spot, token_at, same_spot, genesis_ledger}
use Rattle.model.proofs.Basics.{
  eqb-eq,
  eqb_same,
  eqb_no,
  eqb_apart,
  not_yes,
  Case,
  yes-case,
  no-case,
  case,
  both,
  or_else,
  or_else-none,
  is_some,
  some≢none,
  some_inj,
  CaseO,
  is-some,
  is-none,
  case_o,
  map-or,
  any_at,
  set-elim,
  get_or-same,
}
use Rattle.model.proofs.Lookups.{lookup-append, alone-append}
use Rattle.model.proofs.Entries.{same-eq, look, mem-look, put, look-put-same, look-put-other, append-put, set-put, number-unknown, entry-look}
use Rattle.model.proofs.Said.{says-verdict}
use Rattle.model.proofs.Outcomes.{outcome_yes, abort_stays}
use Rattle.model.proofs.Holdings.{id_of, mem_tok, value_pledges, no_twice_pledges}
use Rattle.model.proofs.Invariant.{
  Voted,
  voted-more,
  on_commit,
  gain,
  by_commit,
  made,
  Pledged,
  Lasts,
  Bound,
  Disjoint,
  Source,
  from-genesis,
  from-commit,
  Sources,
  Core,
  Ok,
  unmade,
  held-made,
  Enters,
  aborted_more,
  core_enter,
  bound_enter,
  bound-more,
  no_twice_enter,
  frees_turn,
  frees_ok,
  ended_ok,
}
use Rattle.model.proofs.Local.{found-token, pledged-new, pledged-more, vote-says}
use Rattle.model.proofs.Refusals.{
  shard-below,
  number-positive,
  part_in,
  DeliverPasses,
  BringPasses,
  brought-registers,
  brought-fresh,
  brought-hears,
}
use Rattle.model.proofs.Effects.{
  Effect,
  did_refuse,
  did_mint,
  did_register,
  did_hear,
  did_repeat,
  did_turn,
  effect,
  replaced,
  Effects,
  did_one,
  did_bring,
}
use Rattle.std.specs.Prelude.{Ok as carried}

-- ---- The log

-- a shard registers a transaction once
abbrev pub Once : List Entry → Type 0
Once [] = Unit {0}
Once (r ∷ older) = ((e : Entry) → Memᴰ e older → e.shard ≡ r.shard → e.transaction ≡ r.transaction → ⊥) × Once older

-- what holds of the log
pub record Logged (log : List Entry) : Type 0 where
  pub once : Once log
  pub member : (r : Entry) → Memᴰ r log → Memᴰ r.shard (shards_of r.transaction)
  pub unique : (r₁ r₂ : Entry) → Memᴰ r₁ log → Memᴰ r₂ log → r₁.shard ≡ r₂.shard → r₁.transaction ≡ r₂.transaction → r₁ ≡ r₂

-- ---- The invariant of the model

-- the value of a shard's genesis token, by creator and index
abbrev pub genesis_at : List Genesis → ℕ → ℕ → ℕ → Option Value
genesis_at minted p m i = genesis_ledger minted (id_of p m i)

-- what holds of the model
pub record Inv (limits : Limits) (model : Model) : Type 0 where
  pub eight : length model.shards ≡ 8
  pub at : (p : ℕ) → Ok limits model.log p (genesis_at model.minted p) (ledger_at limits model.shards p)
  pub logged : Logged model.log

-- what a shard knows stays known, with the votes heard
unfoldable pub Grows : List Known → List Known → Type 0
Grows l l' = (n : ℕ) (k : Known) → look l n ≡ some k
    → (k' : Known) × (look l' n ≡ some k') × (k'.transaction ≡ k.transaction) × ((q : ℕ) → (heard_from q k ≡ None → ⊥) → heard_from q k' ≡ heard_from q k)

-- where nothing changes
grows-refl : (l : List Known) → Grows l l
unfolding Grows
grows-refl l n k e = (k, e, refl, λ q h. refl)

-- one change after another
pub grows_trans : (a b c : List Known) → Grows a b → Grows b c → Grows a c
unfolding Grows
grows_trans a b c f g n k e =
    let x = f n k e in
    let y = g n x.0 x.1 in
    (y.0, y.1, y.2 ∙ x.2, λ q h. y.3 q (λ z. h (sym (x.3 q h) ∙ z)) ∙ x.3 q h)

-- ---- Another shard's registration

-- a longer log
core-more : {log : List Entry} {p : ℕ} {tokens : List Token} {genesis : ℕ → ℕ → Option Value} {known : List Known} (r : Entry)
    → Core log p tokens genesis known → Sources p genesis known (r ∷ log) → Core (r ∷ log) p tokens genesis known
core-more r c s = record {
  one_each = c.one_each;
  number = c.number;
  distinct = c.distinct;
  eight = c.eight;
  own = c.own;
  votes = λ n k e q h. voted-more r (c.votes n k e q h);
  zero-only = c.zero-only;
  gone = c.gone;
  there = c.there;
  sources = s;
}

-- another shard's registration
ok_other : {limits : Limits} {log : List Entry} {p : ℕ} {genesis : ℕ → ℕ → Option Value} {l : Ledger} (r : Entry)
    → (r.shard ≡ p → ⊥) → Ok limits log p genesis l → Ok limits (r ∷ log) p genesis l
ok_other {log = log} {p} {genesis} {l} r h o = record {
  core = core-more r o.core (λ e. absurd (h e), o.core.sources);
  flags = o.flags;
  indices = o.indices;
  no_twice = o.no_twice;
  entered = λ r₀ m at. o.entered r₀ (old r₀ m at) at;
  bound = λ r₀ m at. o.bound r₀ (old r₀ m at) at;
  disjoint = λ r₁ r₂ m₁ m₂ a₁ a₂. o.disjoint r₁ r₂ (old r₁ m₁ a₁) (old r₂ m₂ a₂) a₁ a₂;
}
  where
    old : (r₀ : Entry) → Memᴰ r₀ (r ∷ log) → r₀.shard ≡ p → Memᴰ r₀ log
    old r₀ (mathlib.Core.List.Memᴰ.head e) at = absurd (h (ap (λ (c : Entry). c.shard) (sym e) ∙ at))
    old r₀ (mathlib.Core.List.Memᴰ.tail m) at = m

-- ---- What was made has a source

-- what was made has a source
made_source : {log : List Entry} {p : ℕ} {tokens : List Token} {genesis : ℕ → ℕ → Option Value} {known : List Known}
    (c : Core log p tokens genesis known) (x : Input)
    → made p genesis known x.token.creator x.token.index ≡ some (input_value x) → Source p genesis known log x
unfolding made
made_source {log} {p} {tokens} {genesis} {known} c x e = go (case_o (genesis x.token.creator x.token.index))
  where
    m : ℕ
    m = x.token.creator

    i : ℕ
    i = x.token.index

    committed : (o : Option Known) → look known m ≡ o → by_commit p o m i ≡ some (input_value x) → Source p genesis known log x
    committed none z y = some≢none y refl
    committed (some k) z y = last (outcome_of k) refl y
      where
        last : (o : Outcome) → outcome_of k ≡ o → on_commit o (gain p k.transaction m i) ≡ some (input_value x) → Source p genesis known log x
        last Wait w y = some≢none y refl
        last Abort w y = some≢none y refl
        last Commit w y = from-commit k z w y (λ q a.
            let yes : heard_from q k ≡ Some true = outcome_yes k w q a in
            let v = c.votes m k z q (λ z. none-some true (sym z ∙ yes)) in
            record { entry = v.entry; logged = v.logged; at = v.at; of = v.of })

    go : CaseO (genesis x.token.creator x.token.index) → Source p genesis known log x
    go (is-some v g) = from-genesis (g ∙ (λ j. or_else (sym g j) (by_commit p (look known m) m i)) ∙ e)
    go (is-none g) = committed (look known m) refl ((λ j. or_else (sym g j) (by_commit p (look known m) m i)) ∙ e)

-- ---- The verdict as it is noted

-- a verdict is no or yes
noted_cases : (b : Bool) → ◌≡◌ {A = Said} (Some b) (Some false) ⊎ ◌≡◌ {A = Said} (Some b) (Some true)
noted_cases true = inr refl
noted_cases false = inl refl

-- ---- A registration

module _ {limits : Limits} {log : List Entry} {p : ℕ} {genesis : ℕ → ℕ → Option Value} {l : Ledger} (o : Ok limits log p genesis l) (t : Transaction)
    (positive : t.number ≡ 0 → ⊥) (unknown : look l.known t.number ≡ none) (distinct : named_twice t ≡ false)
    (member : Memᴰ p (shards_of t)) (below : p < 8) (place : ℕ) where
  -- its entry in the log
  abbrev r : Entry
  r = record { place = place; shard = p; transaction = t; available = available_here p l.tokens t }

  -- the transaction as it becomes known
  abbrev k : Known
  k = known_with p (keeping (findings p l.tokens t)) (vote p l.tokens t) t

  -- the tokens with the pledges
  abbrev tokens₁ : List Token
  tokens₁ = pledges t.number (available_here p l.tokens t) l.tokens

  -- the invariant with the longer log
  core₁ : Core (r ∷ log) p l.tokens genesis l.known
  core₁ = core-more r o.core (new, o.core.sources)
    where
      new : p ≡ p → (x : Input) → Memᴰ x (available_here p l.tokens t) → Source p genesis l.known log x
      new _ x m =
          let a = found-token p l.tokens t o.no_twice x m in
          made_source o.core x (held-made o.core x.token.creator x.token.index a.is-there ∙ ap some a.is_value)

  -- what the registration enters
  enters₁ : Enters (r ∷ log) p l.known k
  enters₁ = record {
    undecided = λ j e y. some≢none e unknown;
    still = λ j e y. some≢none e unknown;
    positive = positive;
    distinct = distinct;
    eight = length-set (replicate 8 None) p (Some (vote p l.tokens t));
    own = set-elim (λ q c. q ≡ p → c ≡ None → ⊥) (replicate 8 None) None p (Some (vote p l.tokens t)) below
        (λ _ z. none-some (vote p l.tokens t) (sym z)) (λ q n e z. n e) p refl;
    votes = set-elim (λ q c. (c ≡ None → ⊥) → Voted (r ∷ log) q t c) (replicate 8 None) None p (Some (vote p l.tokens t)) below
        (λ h. record {
          entry = r;
          logged = mathlib.Core.List.Memᴰ.head refl;
          at = refl;
          of = refl;
          is-vote =
              noted_cases (vote p l.tokens t);
          says = vote-says p l.tokens t;
        })
        (λ q n h. absurd (h (get_or-same 8 None q)));
  }

  -- pledges change no value
  keeps : (m i : ℕ) → map_option token_value (token_at tokens₁ m i) ≡ map_option token_value (token_at l.tokens m i)
  keeps m i = value_pledges t.number (available_here p l.tokens t) l.tokens m i

  -- a registered transaction's number is not 0
  numbered : (r₀ : Entry) → Memᴰ r₀ log → r₀.shard ≡ p → r₀.transaction.number ≡ 0 → ⊥
  numbered r₀ d at = let h = o.entered r₀ d at in o.core.number r₀.transaction.number h.0 h.1

  -- pledges that last now did before
  lasted : (n : ℕ) → Lasts l.turned (put k l.known) n → Lasts l.turned l.known n
  lasted n lasts y b = lasts y (aborted_more core₁ k tokens₁ enters₁ keeps n b)

  -- the token of an available input is bound to no registration of a transaction whose pledges last
  free : (r₀ : Entry) → Memᴰ r₀ log → r₀.shard ≡ p → Lasts l.turned l.known r₀.transaction.number
      → (x x₀ : Input) → Memᴰ x (available_here p l.tokens t) → Memᴰ x₀ r₀.available
      → x.token.creator ≡ x₀.token.creator → x.token.index ≡ x₀.token.index → ⊥
  free r₀ d at lasts x x₀ a a₀ em ei =
      let f = found-token p l.tokens t o.no_twice x a in
      let e : token_at l.tokens x₀.token.creator x₀.token.index ≡ some f.token = (λ j. token_at l.tokens (sym em j) (sym ei j)) ∙ f.is-there in
      ⊎_elim (λ c. some≢none e (o.core.gone x₀.token.creator x₀.token.index c))
      (λ w. numbered r₀ d at (sym w.is-pledged ∙ ap (λ (u : Token). u.pledge) (some_inj (sym w.is-there ∙ e)) ∙ f.is_free))
      (o.bound r₀ d at lasts x₀ a₀)

  -- the shard's ledger after it
  pub register_ok : Ok limits (r ∷ log) p genesis (after_register p l t)
  unfolding after_register newly_known
  register_ok =
      subst (λ (known : List Known). Ok limits (r ∷ log) p genesis (holding l (concluded l.turned (outcome_of k) p t tokens₁) known))
      (sym (append-put k l.known unknown)) (ended_ok l k (settle (outcome_of k) p t tokens₁) (record {
        core = core_enter core₁ k tokens₁ enters₁ keeps;
        flags = o.flags;
        indices = o.indices;
        no_twice = no_twice_enter core₁ k tokens₁ enters₁ keeps (no_twice_pledges t.number (available_here p l.tokens t) l.tokens o.no_twice);
        entered = ent;
        bound = bnd;
        disjoint = dis;
      }))
    where
      ent : (r₀ : Entry) → Memᴰ r₀ (r ∷ log) → r₀.shard ≡ p → (j : Known)
          × (look (put k l.known) r₀.transaction.number ≡ some j) × (j.transaction ≡ r₀.transaction)
      ent r₀ (mathlib.Core.List.Memᴰ.head e) at =
          (k, look-put-same k l.known (ap (λ (c : Entry). c.transaction.number) (sym e)), ap (λ (c : Entry). c.transaction) (sym e))
      ent r₀ (mathlib.Core.List.Memᴰ.tail m) at =
          let h = o.entered r₀ m at in
          (h.0, look-put-other k l.known (λ n. some≢none (ap (look l.known) n ∙ h.1) unknown) ∙ h.1, h.2)

      bnd : Bound (r ∷ log) p l.turned (put k l.known) (settle (outcome_of k) p t tokens₁)
      bnd r₀ (mathlib.Core.List.Memᴰ.head e) at lasts x a =
          let new = pledged-new p l.tokens t o.no_twice x (subst (λ (c : Entry). Memᴰ x c.available) e a) in
          bound_enter core₁ k tokens₁ enters₁ keeps x.token.creator x.token.index r₀.transaction.number
          (subst (Pledged tokens₁ x.token.creator x.token.index) (ap (λ (c : Entry). c.transaction.number) (sym e)) new)
      bnd r₀ (mathlib.Core.List.Memᴰ.tail d) at lasts x a =
          let n = r₀.transaction.number in
          bound-more core₁ k tokens₁ enters₁ keeps x.token.creator x.token.index n
          (⊎_elim inl (λ b. inr (pledged-more p l.tokens t o.no_twice x.token.creator x.token.index n (numbered r₀ d at) b))
          (o.bound r₀ d at (lasted n lasts) x a))

      dis : Disjoint (r ∷ log) p l.turned (put k l.known)
      dis r₁ r₂ (mathlib.Core.List.Memᴰ.head e₁) (mathlib.Core.List.Memᴰ.head e₂) b₁ b₂ n₁ n₂ x₁ x₂ a₁ a₂ em ei = e₁ ∙ sym e₂
      dis r₁ r₂ (mathlib.Core.List.Memᴰ.head e₁) (mathlib.Core.List.Memᴰ.tail d₂) b₁ b₂ n₁ n₂ x₁ x₂ a₁ a₂ em ei =
          absurd (free r₂ d₂ b₂ (lasted r₂.transaction.number n₂) x₁ x₂ (subst (λ (c : Entry). Memᴰ x₁ c.available) e₁ a₁) a₂ em ei)
      dis r₁ r₂ (mathlib.Core.List.Memᴰ.tail d₁) (mathlib.Core.List.Memᴰ.head e₂) b₁ b₂ n₁ n₂ x₁ x₂ a₁ a₂ em ei =
          absurd (free r₁ d₁ b₁ (lasted r₁.transaction.number n₁) x₂ x₁ (subst (λ (c : Entry). Memᴰ x₂ c.available) e₂ a₂) a₁ (sym em) (sym ei))
      dis r₁ r₂ (mathlib.Core.List.Memᴰ.tail d₁) (mathlib.Core.List.Memᴰ.tail d₂) b₁ b₂ n₁ n₂ x₁ x₂ a₁ a₂ em ei =
          o.disjoint r₁ r₂ d₁ d₂ b₁ b₂ (lasted r₁.transaction.number n₁) (lasted r₂.transaction.number n₂) x₁ x₂ a₁ a₂ em ei

  -- nothing that was known is forgotten
  pub register-grows : Grows l.known (after_register p l t).known
  unfolding Grows after_register newly_known
  register-grows n j e = (
    j,
    ap (λ (known : List Known). look known n) (append-put k l.known unknown)
        ∙ look-put-other k l.known (λ z. some≢none (ap (look l.known) z ∙ e) unknown) ∙ e,
    refl,
    λ q h. refl,
  )

  -- the log after it
  pub register-logged : Logged log → Logged (r ∷ log)
  register-logged w = record { once = (first_time, w.once); member = mem; unique = uni }
    where
      first_time : (r₀ : Entry) → Memᴰ r₀ log → r₀.shard ≡ p → r₀.transaction ≡ t → ⊥
      first_time r₀ m at e = let h = o.entered r₀ m at in some≢none (ap (λ (c : Transaction). look l.known c.number) (sym e) ∙ h.1) unknown

      mem : (e : Entry) → Memᴰ e (r ∷ log) → Memᴰ e.shard (shards_of e.transaction)
      mem e (mathlib.Core.List.Memᴰ.head z) = subst (λ (c : Entry). Memᴰ c.shard (shards_of c.transaction)) (sym z) member
      mem e (mathlib.Core.List.Memᴰ.tail d) = w.member e d

      shard-of : {a b : Entry} → a ≡ b → a.shard ≡ b.shard
      shard-of e = ap (λ (c : Entry). c.shard) e

      transaction-of : {a b : Entry} → a ≡ b → a.transaction ≡ b.transaction
      transaction-of e = ap (λ (c : Entry). c.transaction) e

      uni : (r₁ r₂ : Entry) → Memᴰ r₁ (r ∷ log) → Memᴰ r₂ (r ∷ log) → r₁.shard ≡ r₂.shard → r₁.transaction ≡ r₂.transaction → r₁ ≡ r₂
      uni r₁ r₂ (mathlib.Core.List.Memᴰ.head e₁) (mathlib.Core.List.Memᴰ.head e₂) a b = e₁ ∙ sym e₂
      uni r₁ r₂ (mathlib.Core.List.Memᴰ.head e₁) (mathlib.Core.List.Memᴰ.tail m₂) a b =
          absurd (first_time r₂ m₂ (sym a ∙ shard-of e₁) (sym b ∙ transaction-of e₁))
      uni r₁ r₂ (mathlib.Core.List.Memᴰ.tail m₁) (mathlib.Core.List.Memᴰ.head e₂) a b = absurd (first_time r₁ m₁ (a ∙ shard-of e₂) (b ∙ transaction-of e₂))
      uni r₁ r₂ (mathlib.Core.List.Memᴰ.tail m₁) (mathlib.Core.List.Memᴰ.tail m₂) a b = w.unique r₁ r₂ m₁ m₂ a b

-- ---- A fresh vote

module _ {limits : Limits} {log : List Entry} {p : ℕ} {genesis : ℕ → ℕ → Option Value} {l : Ledger} (o : Ok limits log p genesis l) (t : Transaction)
    (known : any (is_for t) l.known ≡ true) (q v : ℕ) (below : q < 8)
    (unheard : heard_from q (entry_of t l.known) ≡ None) (member : Memᴰ q (shards_of t)) (given-vote : Voted log q t (Some (eqb v 1))) where
  -- the entry before the vote
  abbrev k₀ : Known
  k₀ = entry_of t l.known

  -- and with it
  abbrev k' : Known
  k' = hearing q v k₀

  -- it is found by its number
  is_known : look l.known t.number ≡ some k₀
  is_known = (entry-look t l.known o.core.one_each known).0

  -- it is of this transaction
  whole : k₀.transaction ≡ t
  whole = (entry-look t l.known o.core.one_each known).1

  -- and has its number
  num : k₀.transaction.number ≡ t.number
  num = ap (λ (a : Transaction). a.number) whole

  -- the sender has a place in it
  long : q < length k₀.heard
  long = let h : length k₀.heard ≡ 8 = o.core.eight t.number k₀ is_known in omega arith

  -- what the vote enters
  enters₂ : Enters log p l.known k'
  enters₂ = record {
    undecided = λ j e y.
        let same-k : k₀ ≡ j = some_inj (sym is_known ∙ ap (look l.known) (sym num) ∙ e) in
        none-some true
        (sym unheard ∙ outcome_yes k₀ (ap outcome_of same-k ∙ y) q (subst (λ (a : Transaction). Memᴰ q (shards_of a)) (sym whole) member));
    still = λ j e y.
        let same-k : k₀ ≡ j = some_inj (sym is_known ∙ ap (look l.known) (sym num) ∙ e) in
        abort_stays k₀ q v unheard (ap outcome_of same-k ∙ y);
    positive = λ e. o.core.number t.number k₀ is_known (sym num ∙ e);
    distinct = o.core.distinct t.number k₀ is_known;
    eight = length-set k₀.heard q (Some (eqb v 1)) ∙ o.core.eight t.number k₀ is_known;
    own = set-elim (λ a c. a ≡ p → c ≡ None → ⊥) k₀.heard None q (Some (eqb v 1)) long (λ _ z. none-some (eqb v 1) (sym z))
        (λ a n e z. o.core.own t.number k₀ is_known (ap (λ (b : ℕ). heard_from b k₀) (sym e) ∙ z)) p refl;
    votes = set-elim (λ a c. (c ≡ None → ⊥) → Voted log a k₀.transaction c) k₀.heard None q (Some (eqb v 1)) long
        (λ h. subst (λ (a : Transaction). Voted log q a (Some (eqb v 1))) (sym whole) given-vote)
        (λ a n h. o.core.votes t.number k₀ is_known a h);
  }

  -- it is put in its place
  set_known : set l.known (place_of t l.known) k' ≡ put k' l.known
  unfolding place_of
  set_known = set-put t k' l.known o.core.one_each num known

  -- the shard's ledger after it
  pub vote_ok : Ok limits log p genesis (after_vote p l q v t)
  unfolding after_vote
  vote_ok =
      subst (λ (known : List Known). Ok limits log p genesis (holding l (concluded l.turned (outcome_of k') p k₀.transaction l.tokens) known))
      (sym set_known) (ended_ok l k' (settle (outcome_of k') p k₀.transaction l.tokens) (record {
        core = core_enter o.core k' l.tokens enters₂ (λ m i. refl);
        flags = o.flags;
        indices = o.indices;
        no_twice = no_twice_enter o.core k' l.tokens enters₂ (λ m i. refl) o.no_twice;
        entered = ent;
        bound = λ r d at lasts x a.
            bound-more o.core k' l.tokens enters₂ (λ m i. refl) x.token.creator x.token.index r.transaction.number
            (o.bound r d at (lasted r.transaction.number lasts) x a);
        disjoint = λ r₁ r₂ d₁ d₂ b₁ b₂ n₁ n₂.
            o.disjoint r₁ r₂ d₁ d₂ b₁ b₂ (lasted r₁.transaction.number n₁) (lasted r₂.transaction.number n₂);
      }))
    where
      lasted : (n : ℕ) → Lasts l.turned (put k' l.known) n → Lasts l.turned l.known n
      lasted n lasts y b = lasts y (aborted_more o.core k' l.tokens enters₂ (λ m i. refl) n b)

      ent : (r : Entry) → Memᴰ r log → r.shard ≡ p → (j : Known)
          × (look (put k' l.known) r.transaction.number ≡ some j) × (j.transaction ≡ r.transaction)
      ent r m at = let h = o.entered r m at in go h (case (eqb k₀.transaction.number r.transaction.number))
        where
          go : (j : Known) × (look l.known r.transaction.number ≡ some j) × (j.transaction ≡ r.transaction)
              → Case (eqb k₀.transaction.number r.transaction.number)
              → (j : Known) × (look (put k' l.known) r.transaction.number ≡ some j) × (j.transaction ≡ r.transaction)
          go h (yes-case y) =
              let e : k₀.transaction.number ≡ r.transaction.number = eqb-eq k₀.transaction.number r.transaction.number y in (
                k',
                look-put-same k' l.known e,
                ap (λ (j : Known). j.transaction)
                    (some_inj (sym is_known ∙ ap (look l.known) (sym num ∙ e) ∙ h.1)) ∙ h.2,
              )
          go h (no-case y) = (h.0, look-put-other k' l.known (eqb_apart y) ∙ h.1, h.2)

  -- what was heard stays heard
  pub vote-grows : Grows l.known (after_vote p l q v t).known
  unfolding Grows after_vote
  vote-grows n j e = go (case (eqb k₀.transaction.number n))
    where
      moved : look (set l.known (place_of t l.known) k') n ≡ look (put k' l.known) n
      moved = ap (λ (ks : List Known). look ks n) set_known

      go : Case (eqb k₀.transaction.number n)
          → (k'' : Known) × (look (set l.known (place_of t l.known) k') n ≡ some k'')
          × (k''.transaction ≡ j.transaction) × ((a : ℕ) → (heard_from a j ≡ None → ⊥) → heard_from a k'' ≡ heard_from a j)
      go (yes-case y) =
          let en : k₀.transaction.number ≡ n = eqb-eq k₀.transaction.number n y in
          let same-k : k₀ ≡ j = some_inj (sym is_known ∙ ap (look l.known) (sym num ∙ en) ∙ e) in (
            k',
            moved ∙ look-put-same k' l.known en,
            ap (λ (c : Known). c.transaction) same-k,
            set-elim (λ a c. (heard_from a j ≡ None → ⊥) → c ≡ heard_from a j) k₀.heard None q (Some (eqb v 1)) long
                (λ h. absurd (h (ap (heard_from q) (sym same-k) ∙ unheard)))
                (λ a n h. ap (heard_from a) same-k),
          )
      go (no-case y) = (j, moved ∙ look-put-other k' l.known (eqb_apart y) ∙ e, refl, λ a h. refl)

-- ---- A genesis token, at a shard that knows no transaction

module _ {limits : Limits} {log : List Entry} {p : ℕ} {genesis : ℕ → ℕ → Option Value} {l : Ledger} (o : Ok limits log p genesis l) (i owner amount : ℕ)
    (empty : l.known ≡ []) (fits : i < limits.genesis) (ungiven : genesis 0 i ≡ none) where
  -- no number is known
  nothing : (n : ℕ) → look l.known n ≡ none
  nothing n = ap (λ (known : List Known). look known n) empty

  -- this shard registered nothing
  nobody : (r : Entry) → Memᴰ r log → r.shard ≡ p → ⊥
  nobody r m at = some≢none (o.entered r m at).1 (nothing r.transaction.number)

  -- so no input was found available
  vacuous : (g : ℕ → ℕ → Option Value) (r : List Entry) → ((e : Entry) → Memᴰ e r → e.shard ≡ p → ⊥) → Sources p g l.known r
  vacuous g [] h = tt
  vacuous g (e ∷ r) h = (λ at. absurd (h e (mathlib.Core.List.Memᴰ.head refl) at), vacuous g r (λ d m. h d (mathlib.Core.List.Memᴰ.tail m)))

  -- the new token
  abbrev token : Token
  token = genesis_token i owner amount

  -- the value of the new token, and of those before it
  abbrev value : Value
  value = record { owner = owner; amount = amount }

  -- the genesis tokens with it
  abbrev genesis' : ℕ → ℕ → Option Value
  genesis' m j = cond (same_token (id_of p 0 i) (id_of p m j)) (some value) (genesis m j)

  -- its id, at this shard
  spot : (m j : ℕ) → same_token (id_of p 0 i) (id_of p m j) ≡ eqb 0 m && eqb i j
  unfolding same_token
  spot m j = ap (λ (b : Bool). b && eqb 0 m && eqb i j) (eqb_same p)

  -- only genesis tokens were made
  made_plain : (g : ℕ → ℕ → Option Value) (m j : ℕ) → made p g l.known m j ≡ g m j
  unfolding made
  made_plain g m j = (λ t. or_else (g m j) (by_commit p (nothing m t) m j)) ∙ or_else-none (g m j)

  -- the new token beside the others
  one_token : (m j : ℕ) → or_else (genesis m j) (map_option token_value (token_at (token ∷ []) m j)) ≡ genesis' m j
  one_token m j = go (eqb 0 m && eqb i j) refl ∙ sym (ap (λ (b : Bool). cond b (some value) (genesis m j)) (spot m j))
    where
      go : (b : Bool) → eqb 0 m && eqb i j ≡ b → or_else (genesis m j) (map_option token_value (cond b (some token) none)) ≡ cond b (some value) (genesis m j)
      go true e =
          let r = both (eqb 0 m) (eqb i j) e in
          ap (λ (v : Option Value). or_else v (some value)) ((λ t. genesis (sym (eqb-eq 0 m r.0) t) (sym (eqb-eq i j r.1) t)) ∙ ungiven)
      go false e = or_else-none (genesis m j)

  -- the shard's ledger after it
  pub mint_ok : Ok limits log p genesis' (after_mint l i owner amount)
  unfolding after_mint
  mint_ok = record {
    core = record {
      one_each = o.core.one_each;
      number = o.core.number;
      distinct = o.core.distinct;
      eight = o.core.eight;
      own = o.core.own;
      votes = o.core.votes;
      zero-only = λ m j h. ap (λ (b : Bool). cond b (some value) (genesis m j)) (spot m j ∙ ap (λ (b : Bool). b && eqb i j) (eqb_no (λ z. h (sym z))))
          ∙ o.core.zero-only m j h;
      gone = λ m j d. some≢none d.is_known (nothing d.number);
      there = λ m j h.
          ap (map_option token_value) (lookup-append (has_spot m j) l.tokens (token ∷ []))
          ∙ map-or token_value (token_at l.tokens m j) (token_at (token ∷ []) m j)
          ∙ ap (λ (a : Option Value). or_else a (map_option token_value (token_at (token ∷ []) m j))) (o.core.there m j h ∙ made_plain genesis m j)
          ∙ one_token m j ∙ sym (made_plain genesis' m j);
      sources = vacuous genesis' log nobody;
    };
    flags = length-set l.given i true ∙ o.flags;
    indices = indices';
    no_twice = alone-append same_spot l.tokens (token ∷ []) o.no_twice (refl, tt) apart;
    entered = λ r m at. absurd (nobody r m at);
    bound = λ r m at. absurd (nobody r m at);
    disjoint = λ r₁ r₂ m₁ m₂ a₁. absurd (nobody r₁ m₁ a₁);
  }
    where
      -- no token held has the new one's creator and index
      apart : (u : Token) → Memᴰ u l.tokens → token_at (token ∷ []) u.creator u.index ≡ none
      apart u m = ap (λ (b : Bool). cond b (some token) none) (not_yes (λ e.
          let r = both (eqb 0 u.creator) (eqb i u.index) e in
          some≢none (mem_tok l.tokens o.no_twice m)
          (unmade o.core u.creator u.index
          (made_plain genesis u.creator u.index ∙ (λ t. genesis (sym (eqb-eq 0 u.creator r.0) t) (sym (eqb-eq i u.index r.1) t)) ∙ ungiven))))

      long : i < length l.given
      long = let h = o.flags in omega arith

      indices' : (j : ℕ) → get_or (set l.given i true) j false ≡ is_some (genesis' 0 j)
      indices' =
          set-elim (λ j b. b ≡ is_some (genesis' 0 j)) l.given false i true long
          (sym (ap (λ (b : Bool). is_some (cond b (some value) (genesis 0 i))) (spot 0 i ∙ eqb_same i)))
          (λ j n. o.indices j ∙ sym (ap (λ (b : Bool). is_some (cond b (some value) (genesis 0 j))) (spot 0 j ∙ eqb_no (λ z. n (sym z)))))

-- ---- A turn

module _ {limits : Limits} {log : List Entry} {p : ℕ} {genesis : ℕ → ℕ → Option Value} {l : Ledger} (o : Ok limits log p genesis l) where
  -- the shard's ledger after it
  pub turn_ok : Ok limits log p genesis (after_turn l)
  unfolding after_turn
  turn_ok = frees_ok true (freeing (pledged_to_aborted l.known) l.tokens) (λ y. refl) o (frees_turn l.known o.core.one_each l.tokens)

-- ---- One call

-- the invariant after a call, and nothing forgotten
pub record Next (limits : Limits) (model model' : Model) : Type 0 where
  pub inv : Inv limits model'
  pub grows : (p : ℕ) → Grows (ledger_at limits model.shards p).known (ledger_at limits model'.shards p).known

-- where nothing changes
stay : {limits : Limits} {model : Model} → Inv limits model → Next limits model model
stay {limits} {model} w = record { inv = w; grows = λ p. grows-refl (ledger_at limits model.shards p).known }

-- what a sender has given is its vote in the log
pub gave-vote : (limits : Limits) (model : Model) → Inv limits model → (q v : ℕ) (t : Transaction)
    → gave (ledger_at limits model.shards q) q v t ≡ true → Voted model.log q t (Some (eqb v 1))
unfolding gave
gave-vote limits model w q v t e =
    let l : Ledger = ledger_at limits model.shards q in
    let r = any_at (has_given q v t) l.known e in
    let k : Known = r.0 in
    let y = both (is_for t k) (says (heard_from q k) v) r.2 in
    let c : heard_from q k ≡ Some (eqb v 1) = says-verdict (heard_from q k) v y.1 in
    let x = (w.at q).core.votes k.transaction.number k (mem-look l.known (w.at q).core.one_each r.1) q
    (λ z. none-some (eqb v 1) (sym z ∙ c)) in
    subst (λ (a : Transaction). Voted model.log q a (Some (eqb v 1))) (same-eq k.transaction t y.0)
    (subst (λ (a : Said). Voted model.log q k.transaction a) c x)

-- not there
is-none-of : {A : Type 0} (o : Option A) → is_some o ≡ false → o ≡ none
is-none-of none e = refl
is-none-of (some a) e = absurd (true≢false e)

module _ (limits : Limits) (place : ℕ) (model : Model) (w : Inv limits model) where
  -- a shard's ledger
  abbrev at : ℕ → Ledger
  at p = ledger_at limits model.shards p

  -- one shard's ledger replaced: what holds of the new one there, and of each other shard's as it was
  pub at_one : (P : ℕ → Ledger → Type 0) (p : ℕ) (l : Ledger) → shard_fits p ≡ true → P p l → ((q : ℕ) → (q ≡ p → ⊥) → P q (at q))
      → (q : ℕ) → P q (ledger_at limits (set model.shards p l) q)
  at_one P p l fits here others =
      let below : p < length model.shards = let e = w.eight in let b = shard-below p fits in omega arith in
      set-elim P model.shards (empty_ledger limits) p l below here others

  -- with the log and the genesis tokens beside it
  replaced_next : (p : ℕ) (l : Ledger) (log : List Entry) (minted : List Genesis) → shard_fits p ≡ true → Ok limits log p (genesis_at minted p) l
      → ((q : ℕ) → (q ≡ p → ⊥) → Ok limits log q (genesis_at minted q) (at q)) → Logged log → Grows (at p).known l.known
      → Next limits model (replaced limits place model p l log minted)
  replaced_next p l log minted fits here others logged grows = record {
    inv = record {
      eight = length-set model.shards p l ∙ w.eight;
      at = at_one (λ q l. Ok limits log q (genesis_at minted q) l) p l fits here others;
      logged = logged;
    };
    grows = at_one (λ q l. Grows (at q).known l.known) p l fits grows (λ q n. grows-refl (at q).known);
  }

  -- another shard's genesis tokens are what they were
  genesis-other : (g : Genesis) (q : ℕ) → (q ≡ g.shard → ⊥) → genesis_at model.minted q ≡ genesis_at (g ∷ model.minted) q
  unfolding genesis_ledger same_token
  genesis-other g q n = λ j m i. sym
      (ap (λ (b : Bool). cond (b && eqb 0 m && eqb g.index i)
      (some (record { owner = g.owner; amount = g.amount })) (genesis_at model.minted q m i)) (eqb_no (λ z. n (sym z)))) j

  -- by cases on what the call did
  pub step-next : (call : Call) (r : Model × Answer) → Effect limits place model call r → Next limits model r.0
  step-next call _ did_refuse = stay w
  step-next call _ (did_repeat h z) = stay w
  step-next call _ (did_turn {p = p} h) =
      replaced_next p (after_turn (at p)) model.log model.minted h.receiver_fits (turn_ok (w.at p)) (λ q n. w.at q) w.logged
      (unfold after_turn in grows-refl (at p).known)
  step-next call _ (did_mint {p = p} {index = i} {owner = owner} {amount = amount} h) =
      let g : Genesis = record { shard = p; index = i; owner = owner; amount = amount } in
      replaced_next p (after_mint (at p) i owner amount) model.log (g ∷ model.minted) h.receiver_fits
      (unfold genesis_ledger in mint_ok (w.at p) i owner amount h.none-known h.index-fits
      (is-none-of (genesis_at model.minted p 0 i) (sym ((w.at p).indices i) ∙ h.ungiven)))
      (λ q n. subst (λ (f : ℕ → ℕ → Option Value). Ok limits model.log q f (at q)) (genesis-other g q n) (w.at q))
      w.logged (unfold after_mint in grows-refl (at p).known)
  step-next call _ (did_register {p = p} {t = t} h) =
      let below : p < 8 = shard-below p h.form.receiver_fits in
      let positive : t.number ≡ 0 → ⊥ = number-positive limits.genesis t h.form.fields in
      let unknown : look (at p).known t.number ≡ none = number-unknown t (at p).known h.no_other h.unknown in
      let member : Memᴰ p (shards_of t) = part_in p t h.form.is_part in
      let r : Entry = entry_for limits place model.shards p t in
      replaced_next p (after_register p (at p) t) (r ∷ model.log) model.minted h.form.receiver_fits
      (register_ok (w.at p) t positive unknown h.form.distinct member below place) (λ q n. ok_other r (λ z. n (sym z)) (w.at q))
      (register-logged (w.at p) t positive unknown h.form.distinct member below place w.logged)
      (register-grows (w.at p) t positive unknown h.form.distinct member below place)
  step-next call _ (did_hear {p = p} {sender = q} {verdict = v} {t = t} h g z) =
      let known : any (is_for t) (at p).known ≡ true = h.is_known in
      let from : q < 8 = shard-below q h.passes.sender-fits in
      let member : Memᴰ q (shards_of t) = part_in q t h.passes.sender-part in
      let given : Voted model.log q t (Some (eqb v 1)) = gave-vote limits model w q v t g in
      replaced_next p (after_vote p (at p) q v t) model.log model.minted h.passes.form.receiver_fits
      (vote_ok (w.at p) t known q v from z member given) (λ a n. w.at a) w.logged (vote-grows (w.at p) t known q v from z member given)

  -- a vote that brings its transaction
  module _ {p sender verdict : ℕ} {t : Transaction} (h : BringPasses limits p (at p) p sender verdict t)
      (given : gave (at sender) sender verdict t ≡ true) where
    -- the shard's ledger between its two steps, and the model
    abbrev registered : Ledger
    registered = after_register p (at p) t

    abbrev between : Model
    between = replaced limits place model p registered (entry_for limits place model.shards p t ∷ model.log) model.minted

    -- what the vote does then, to a ledger and to the shards
    abbrev heard : Ledger → List Ledger → Model × Answer
    heard l shards =
        (record { shards = shards; log = between.log; minted = between.minted }, carried (Heard (outcome_of (hearing sender verdict (entry_of t l.known)))))

    here : ledger_at limits between.shards p ≡ registered
    here =
        let below : p < length model.shards = let e = w.eight in let b = shard-below p h.passes.form.receiver_fits in omega arith in
        get_or-set_same model.shards p registered (empty_ledger limits) below

    others : ledger_at limits between.shards sender ≡ at sender
    others = get_or-set_other model.shards p sender registered (empty_ledger limits) h.from-other

    -- it is registered
    pub brought-first : Effect limits place model (register p t)
        (between, carried (Registered (vote p (at p).tokens t) (outcome_of (newly_known p (at p).tokens t))))
    brought-first = did_register (brought-registers h)

    -- and then the vote is heard
    pub brought-then : Effect limits place between (deliver p sender verdict t)
        (heard registered (set model.shards p (after_vote p registered sender verdict t)))
    brought-then =
        let passes : DeliverPasses limits p (ledger_at limits between.shards p) p sender verdict t =
        subst (λ (l : Ledger). DeliverPasses limits p l p sender verdict t) (sym here) (brought-hears h) in
        let gives : gave (ledger_at limits between.shards sender) sender verdict t ≡ true = ap (λ (l : Ledger). gave l sender verdict t) others ∙ given in
        let fresh : heard_from sender (entry_of t (ledger_at limits between.shards p).known) ≡ None =
        ap (λ (l : Ledger). heard_from sender (entry_of t l.known)) here ∙ brought-fresh h in
        let once : List Ledger = set between.shards p (after_vote p registered sender verdict t) in
        let done : Effect limits place between (deliver p sender verdict t) (heard registered once) =
        subst (λ (l : Ledger). Effect limits place between (deliver p sender verdict t) (heard l (set between.shards p (after_vote p l sender verdict t))))
        here (did_hear passes gives fresh) in
        subst (λ (shards : List Ledger). Effect limits place between (deliver p sender verdict t) (heard registered shards))
        (set-set model.shards p registered (after_vote p registered sender verdict t)) done

-- what each step keeps
abbrev pub Keeps : Limits → (Model → Type 0) → Type 0
Keeps limits P = (place : ℕ) (model : Model) → Inv limits model → P model → (call : Call) (r : Model × Answer) → Effect limits place model call r → P r.0

-- a call keeps, also one of two steps
module _ (limits : Limits) (P : Model → Type 0) (keeps : Keeps limits P) where
  pub call-keeps : (place : ℕ) (model : Model) → Inv limits model → P model → (call : Call) (r : Model × Answer) → Effects limits place model call r → P r.0
  call-keeps place model w p call r (did_one e) = keeps place model w p call r e
  call-keeps place model w p call _ (did_bring h g) =
      let first = brought-first limits place model w h g in
      let middle = (step-next limits place model w _ _ first).inv in
      keeps place _ middle (keeps place model w p _ _ first) call _ (brought-then limits place model w h g)

-- the invariant after a call
keeps-inv : (limits : Limits) → Keeps limits (Inv limits)
keeps-inv limits place model w _ call r e = (step-next limits place model w call r e).inv

next-inv : (limits : Limits) (place : ℕ) (model : Model) → Inv limits model → (call : Call) → Inv limits (step limits place model call).0
next-inv limits place model w call =
    call-keeps limits (Inv limits) (keeps-inv limits) place model w w call (step limits place model call) (effect limits place model call)

-- ---- Every list of calls

-- each shard of the empty cluster is empty
empty-at : (limits : Limits) (p : ℕ) → ledger_at limits (empty_shards limits) p ≡ empty_ledger limits
empty-at limits p = get_or-same 8 (empty_ledger limits) p

-- of the empty model
pub empty-inv : (limits : Limits) → Inv limits (empty_model limits)
unfolding made genesis_ledger
empty-inv limits = record {
  eight = refl;
  at = λ p. subst (λ (l : Ledger). Ok limits [] p (genesis_at [] p) l) (sym (empty-at limits p)) (record {
    core = record {
      one_each = tt;
      number = λ n k e. some≢none e refl;
      distinct = λ n k e. some≢none e refl;
      eight = λ n k e. some≢none e refl;
      own = λ n k e. some≢none e refl;
      votes = λ n k e. some≢none e refl;
      zero-only = λ m i h. refl;
      gone = λ m i d. refl;
      there = λ m i h. refl;
      sources = tt;
    };
    flags = length-replicate limits.genesis false;
    indices = get_or-same limits.genesis false;
    no_twice = tt;
    entered = λ r m. elim m [ ];
    bound = λ r m. elim m [ ];
    disjoint = λ r₁ r₂ m. elim m [ ];
  });
  logged = record { once = tt; member = λ r m. elim m [ ]; unique = λ r₁ r₂ m. elim m [ ] };
}

-- and so does every list of calls
module _ (limits : Limits) (P : Model → Type 0) (keeps : Keeps limits P) where
  -- one call further
  next-keeps : (place : ℕ) (model : Model) → Inv limits model → P model → (call : Call) → P (step limits place model call).0
  next-keeps place model w p call = call-keeps limits P keeps place model w p call (step limits place model call) (effect limits place model call)

  after-keeps : (place : ℕ) (model : Model) → Inv limits model → P model → (calls : List Call) → P (after limits place model calls)
  unfolding after
  after-keeps place model w p [] = p
  after-keeps place model w p (call ∷ calls) =
      after-keeps (suc place) (step limits place model call).0 (next-inv limits place model w call) (next-keeps place model w p call) calls

  -- from the state that a list leads to, however it goes on
  longer-keeps : (place : ℕ) (model : Model) → Inv limits model → (calls more : List Call)
      → P (after limits place model calls) → P (after limits place model (calls ++ more))
  unfolding after
  longer-keeps place model w [] more p = after-keeps place model w p more
  longer-keeps place model w (call ∷ calls) more p =
      longer-keeps (suc place) (step limits place model call).0 (next-inv limits place model w call) calls more p

  -- of every play
  pub play-keeps : P (empty_model limits) → (calls : List Call) → P (play limits calls)
  unfolding play
  play-keeps p calls = after-keeps 1 (empty_model limits) (empty-inv limits) p calls

  -- and of every longer one
  pub play-longer : (calls more : List Call) → P (play limits calls) → P (play limits (calls ++ more))
  unfolding play
  play-longer calls more p = longer-keeps 1 (empty_model limits) (empty-inv limits) calls more p

-- the invariant of a play
pub play-inv : (limits : Limits) (calls : List Call) → Inv limits (play limits calls)
play-inv limits calls = play-keeps limits (Inv limits) (keeps-inv limits) (empty-inv limits) calls

-- nothing is forgotten in a longer play
pub play-grows : (limits : Limits) (calls more : List Call) (p : ℕ)
    → Grows (ledger_at limits (play limits calls).shards p).known (ledger_at limits (play limits (calls ++ more)).shards p).known
play-grows limits calls more p =
    let known : Model → List Known = λ model. (ledger_at limits model.shards p).known in
    let first : List Known = known (play limits calls) in
    play-longer limits (λ model. Grows first (known model))
    (λ place model w g call r e. grows_trans first (known model) (known r.0) g ((step-next limits place model w call r e).grows p))
    calls more (grows-refl first)
