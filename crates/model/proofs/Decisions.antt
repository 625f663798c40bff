-- Demand 3, the decisions: none differ, none change, and each is the one that the log gives.
use Prim.Native.Nat.{ℕ}
use mathlib.Core.Path.{◌≡◌, refl, ap, sym, ◌∙◌, subst}
use mathlib.Core.Logic.{◌↔◌, ◌≢◌, ◌⊎◌, inl, inr}
use mathlib.Core.Bool.{Bool, true, false, cond, false≢true}
use mathlib.Core.Option.{some}
use mathlib.Core.List.{List, ◌++◌, Memᴰ}
use borrow.Author.Tests.{ltb-true, ltb-false}
use lib.Dec.{ltb}
use lib.ListN.{length, get_or-eq_default}
use Rattle.std.specs.Prelude.{Some, None}
use Rattle.std.proofs.lemmas.Option.{none-some}
use Rattle.transaction.specs.declared.Input.{Input}
use Rattle.transaction.specs.declared.Transaction.{Transaction}
use Rattle.transaction.specs.Lists.{any}
use Rattle.transaction.specs.Tokens.{used_inputs, shards_of}
use Rattle.model.specs.declared.Known.{Known}
use Rattle.model.specs.declared.Outcome.{Outcome}
use Rattle.model.specs.declared.Outcome.TheVariants.{Wait, Commit, Abort}
use Rattle.model.specs.Said.{Said}
use Rattle.model.specs.Steps.{Limits, Ledger, empty_ledger, heard_from, heard_all, outcome_of, is_for, entry_of, inputs_here}
use Rattle.model.specs.Shard.{Call}
use Rattle.model.specs.Cluster.{ledger_at}
use Rattle.model.specs.Model.{Entry, Model, play}
use Rattle.model.specs.Demand.{outcome_in, heard_all_in, outcome_at, heard_all_at, is_commit, commits, committed, WasAvailable}
use Rattle.model.proofs.Basics.{both, any_at, any_of, place_of_mem, get_or-mem, some_inj}
use Rattle.model.proofs.Entries.{look, entry-look, look-entry, look-number}
use Rattle.model.proofs.Said.{no≢yes}
use Rattle.model.proofs.Outcomes.{
  commit≢wait,
  wait≢commit,
  outcome_yes,
  outcome_no,
  all_in-decides,
  CaseOutcome,
  case_wait,
  case-commit,
  case_abort,
  case_outcome,
  outcome_agree,
  outcome_stays,
  abort≢commit,
  abort≢wait,
}
use Rattle.model.proofs.Holdings.{here-shard, in_here}
use Rattle.model.proofs.Invariant.{Voted, voted-available, Aborted, Lasts}
use Rattle.model.proofs.Steps.{Inv, Grows, play-inv, play-grows}

-- only a commit is one
pub is-commit : (o : Outcome) → is_commit o ≡ true → o ≡ Commit
is-commit Wait z = absurd (false≢true z)
is-commit Commit z = refl
is-commit Abort z = absurd (false≢true z)

module _ (limits : Limits) (model : Model) (w : Inv limits model) where
  -- what a shard's outcome for a transaction says of its ledger
  pub record Knows (p : ℕ) (t : Transaction) : Type 0 where
    pub entry : Known
    pub is_known : look (ledger_at limits model.shards p).known t.number ≡ some entry
    pub whole : entry.transaction ≡ t
    pub is_outcome : outcome_at limits model p t ≡ outcome_of entry

  -- an entry that is found tells the outcome
  pub knows-of : (p : ℕ) (t : Transaction) (k : Known) → look (ledger_at limits model.shards p).known t.number ≡ some k → k.transaction ≡ t → Knows p t
  unfolding outcome_in
  knows-of p t k e z =
      let r = look-entry t (ledger_at limits model.shards p).known (w.at p).core.one_each e z in
      record { entry = k; is_known = e; whole = z; is_outcome = λ i. cond (r.0 i) (outcome_of (r.1 i)) Wait }

  -- the outcome at a shard is that of its entry
  pub outcome-of : (p : ℕ) (t : Transaction) (k : Known) → look (ledger_at limits model.shards p).known t.number ≡ some k → k.transaction ≡ t
      → outcome_at limits model p t ≡ outcome_of k
  unfolding knows-of
  outcome-of p t k e z = (knows-of p t k e z).is_outcome

  -- a transaction that is known has an entry
  knows_for : (p : ℕ) (t : Transaction) → any (is_for t) (ledger_at limits model.shards p).known ≡ true → Knows p t
  knows_for p t e =
      let r = entry-look t (ledger_at limits model.shards p).known (w.at p).core.one_each e in
      knows-of p t (entry_of t (ledger_at limits model.shards p).known) r.0 r.1

  -- a shard with an outcome has an entry
  pub knows : (p : ℕ) (t : Transaction) → outcome_at limits model p t ≢ Wait → Knows p t
  unfolding outcome_in
  knows p t h = go (any (is_for t) (ledger_at limits model.shards p).known) refl h
    where
      go : (b : Bool) → any (is_for t) (ledger_at limits model.shards p).known ≡ b
          → (cond b (outcome_of (entry_of t (ledger_at limits model.shards p).known)) Wait ≡ Wait → ⊥) → Knows p t
      go true e h = knows_for p t e
      go false e h = absurd (h refl)

  -- a shard's vote on a transaction is one vote
  pub voted-same : (q : ℕ) (t : Transaction) (c d : Said) → Voted model.log q t c → Voted model.log q t d → c ≡ d
  voted-same q t c d v u = go v.is-vote u.is-vote
    where
      e : v.entry ≡ u.entry
      e = w.logged.unique v.entry u.entry v.logged u.logged (v.at ∙ sym u.at) (v.of ∙ sym u.of)

      forth : c ≡ Some true → d ≡ Some true
      forth y = u.says.1 (λ x m. subst (λ (r : Entry). Memᴰ x r.available) e (v.says.0 y x m))

      back : d ≡ Some true → c ≡ Some true
      back y = v.says.1 (λ x m. subst (λ (r : Entry). Memᴰ x r.available) (sym e) (u.says.0 y x m))

      go : (c ≡ Some false) ⊎ (c ≡ Some true) → (d ≡ Some false) ⊎ (d ≡ Some true) → c ≡ d
      go (inl a) (inl b) = a ∙ sym b
      go (inl a) (inr b) = back b ∙ sym b
      go (inr a) b = a ∙ sym (forth a)

  -- each vote that a shard heard is in the log
  pub votes-at : (p : ℕ) (t : Transaction) (k : Knows p t) (q : ℕ) → (heard_from q k.entry ≡ None → ⊥) → Voted model.log q t (heard_from q k.entry)
  votes-at p t k q h =
      subst (λ (a : Transaction). Voted model.log q a (heard_from q k.entry)) k.whole ((w.at p).core.votes t.number k.entry k.is_known q h)

  -- ---- Agreement

  -- two shards that decided a transaction decided alike
  pub agree_at : (p q : ℕ) (t : Transaction) → outcome_at limits model p t ≢ Wait → outcome_at limits model q t ≢ Wait
      → outcome_at limits model p t ≡ outcome_at limits model q t
  agree_at p q t f g =
      let j = knows p t f in
      let k = knows q t g in
      let same-vote : (a : ℕ) → (heard_from a j.entry ≡ None → ⊥) → (heard_from a k.entry ≡ None → ⊥) → heard_from a j.entry ≡ heard_from a k.entry =
      λ a x y. voted-same a t (heard_from a j.entry) (heard_from a k.entry) (votes-at p t j a x) (votes-at q t k a y) in
      j.is_outcome
      ∙ outcome_agree j.entry k.entry (j.whole ∙ sym k.whole) same-vote (λ e. f (j.is_outcome ∙ e)) (λ e. g (k.is_outcome ∙ e))
      ∙ sym k.is_outcome

  -- ---- The commit rule

  -- where a transaction is committed, each of its shards voted yes
  pub commit-votes : (p : ℕ) (t : Transaction) → outcome_at limits model p t ≡ Commit → (q : ℕ) → Memᴰ q (shards_of t) → Voted model.log q t (Some true)
  commit-votes p t e q m =
      let k = knows p t (λ z. commit≢wait (sym e ∙ z)) in
      let yes : heard_from q k.entry ≡ Some true =
      outcome_yes k.entry (sym k.is_outcome ∙ e) q (subst (λ (s : Transaction). Memᴰ q (shards_of s)) (sym k.whole) m) in
      subst (λ (c : Said). Voted model.log q t c) yes (votes-at p t k q (λ z. none-some true (sym z ∙ yes)))

  -- a committed transaction found each of its inputs available
  commit-available : (p : ℕ) (t : Transaction) → outcome_at limits model p t ≡ Commit → (x : Input) → Memᴰ x (used_inputs t) → WasAvailable model.log t x
  commit-available p t e x m =
      let v = commit-votes p t e x.token.shard (here-shard x.token.shard t x (in_here t x m)).2 in
      record { entry = v.entry; logged = v.logged; at = v.at; of = v.of; found = voted-available v x (in_here t x m) }

  -- where each input was available, every vote is yes
  available-vote : (q : ℕ) (t : Transaction) (c : Said) → Voted model.log q t c
      → ((x : Input) → Memᴰ x (used_inputs t) → WasAvailable model.log t x) → c ≡ Some true
  available-vote q t c v f = v.says.1 (λ x m.
      let h = here-shard q t x m in
      let a = f x h.0 in
      let e : a.entry ≡ v.entry = w.logged.unique a.entry v.entry a.logged v.logged (a.at ∙ h.1 ∙ sym v.at) (a.of ∙ sym v.of) in
      subst (λ (r : Entry). Memᴰ x r.available) e a.found)

  -- a decided transaction is committed exactly if each input was available: what is aborted early could not have been committed
  pub decided_exact : (p : ℕ) (t : Transaction) → outcome_at limits model p t ≢ Wait
      → (outcome_at limits model p t ≡ Commit) ↔ ((x : Input) → Memᴰ x (used_inputs t) → WasAvailable model.log t x)
  decided_exact p t decided = (commit-available p t, λ f. go f (case_outcome k.entry))
    where
      k : Knows p t
      k = knows p t decided

      go : ((x : Input) → Memᴰ x (used_inputs t) → WasAvailable model.log t x) → CaseOutcome k.entry → outcome_at limits model p t ≡ Commit
      go f (case_wait e) = absurd (decided (k.is_outcome ∙ e))
      go f (case-commit e) = k.is_outcome ∙ e
      go f (case_abort e) =
          let no = outcome_no k.entry e in
          let v = votes-at p t k no.sender (λ z. none-some false (sym z ∙ no.said)) in
          absurd (no≢yes (sym no.said ∙ available-vote no.sender t (heard_from no.sender k.entry) v f))

  -- where all votes are in, the transaction is decided
  pub all_in-at : (p : ℕ) (t : Transaction) → heard_all_at limits model p t ≡ true → outcome_at limits model p t ≢ Wait
  unfolding heard_all_in knows-of knows_for
  all_in-at p t h none_yet = all_in-decides entry all-heard (sym k.is_outcome ∙ none_yet)
    where
      known : List Known
      known = (ledger_at limits model.shards p).known

      entry : Known
      entry = entry_of t known

      asked : (any (is_for t) known ≡ true) × (heard_all t entry.heard ≡ true)
      asked = both (any (is_for t) known) (heard_all t entry.heard) h

      k : Knows p t
      k = knows_for p t asked.0

      all-heard : heard_all entry.transaction entry.heard ≡ true
      all-heard = subst (λ (s : Transaction). heard_all s entry.heard ≡ true) (sym k.whole) asked.1

  -- commit exactly if each input was available
  pub exact_at : (p : ℕ) (t : Transaction) → heard_all_at limits model p t ≡ true
      → (outcome_at limits model p t ≡ Commit) ↔ ((x : Input) → Memᴰ x (used_inputs t) → WasAvailable model.log t x)
  exact_at p t h = decided_exact p t (all_in-at p t h)

  -- ---- Committed: some shard has decided commit

  -- a committed transaction is committed at some shard
  pub commit-at : (t : Transaction) → committed model t ≡ true → (p : ℕ) × (outcome_at limits model p t ≡ Commit)
  unfolding committed
  commit-at t c =
      let r = any_at (commits t) model.shards c in
      let a = place_of_mem (empty_ledger limits) r.1 in
      (a.0, ap (λ (l : Ledger). outcome_in l t) a.2 ∙ is-commit (outcome_in r.0 t) r.2)

  -- what is committed at a shard is committed
  pub committed-at : (p : ℕ) (t : Transaction) → outcome_at limits model p t ≡ Commit → committed model t ≡ true
  unfolding committed outcome_in
  committed-at p t e = go (ltb p (length model.shards)) refl
    where
      go : (b : Bool) → ltb p (length model.shards) ≡ b → any (commits t) model.shards ≡ true
      go true z = any_of (commits t) (get_or-mem model.shards p (empty_ledger limits) (ltb-true p (length model.shards) z)) (ap is_commit e)
      go false z =
          let none-there : ledger_at limits model.shards p ≡ empty_ledger limits =
          get_or-eq_default model.shards (empty_ledger limits) (ltb-false p (length model.shards) z) in
          absurd (wait≢commit (sym (ap (λ (l : Ledger). outcome_in l t) none-there) ∙ e))

  -- a known transaction with that outcome is committed
  pub committed-of : (p n : ℕ) (k : Known) → look (ledger_at limits model.shards p).known n ≡ some k → outcome_of k
      ≡ Commit → committed model k.transaction ≡ true
  committed-of p n k e y =
      let known : List Known = (ledger_at limits model.shards p).known in
      committed-at p k.transaction (outcome-of p k.transaction k (ap (look known) (look-number known n e) ∙ e) refl ∙ y)

  -- ---- Of committed transactions, none is aborted at any of its shards, and no two take one token

  -- a registered transaction whose outcome at its shard is not abort is not aborted there
  pub not_aborted : (p : ℕ) (r : Entry) → Memᴰ r model.log → r.shard ≡ p → outcome_at limits model p r.transaction ≢ Abort
      → Aborted (ledger_at limits model.shards p).known r.transaction.number → ⊥
  not_aborted p r m at n a =
      let h = (w.at p).entered r m at in
      let same : h.0 ≡ a.entry = some_inj (sym h.1 ∙ a.is_known) in
      n (outcome-of p r.transaction h.0 h.1 h.2 ∙ ap outcome_of same ∙ a.is_abort)

  -- a committed transaction is aborted nowhere
  pub commit_lives : (t : Transaction) → committed model t ≡ true → (p : ℕ) → outcome_at limits model p t ≢ Abort
  commit_lives t c p e =
      let r = commit-at t c in
      abort≢commit (sym e ∙ agree_at p r.0 t (λ z. abort≢wait (sym e ∙ z)) (λ z. commit≢wait (sym r.1 ∙ z)) ∙ r.1)

  -- so its pledges last
  commit_lasts : (t : Transaction) → committed model t ≡ true → (p : ℕ) (r : Entry) → Memᴰ r model.log → r.shard ≡ p → r.transaction ≡ t
      → Lasts (ledger_at limits model.shards p).turned (ledger_at limits model.shards p).known r.transaction.number
  commit_lasts t c p r m at e y =
      not_aborted p r m at (subst (λ (z : Transaction). outcome_at limits model p z ≢ Abort) (sym e) (commit_lives t c p))

  -- two committed transactions that take one token are one
  pub taken-once : (t s : Transaction) → committed model t ≡ true → committed model s ≡ true → (q : ℕ) (x y : Input)
      → Memᴰ x (inputs_here q t) → Memᴰ y (inputs_here q s)
      → x.token.creator ≡ y.token.creator → x.token.index ≡ y.token.index → t ≡ s
  taken-once t s ct cs q x y mx my em ei =
      let a = commit-at t ct in
      let b = commit-at s cs in
      let v = commit-votes a.0 t a.1 q (here-shard q t x mx).2 in
      let u = commit-votes b.0 s b.1 q (here-shard q s y my).2 in
      let same : v.entry ≡ u.entry =
      (w.at q).disjoint v.entry u.entry v.logged u.logged v.at u.at
      (commit_lasts t ct q v.entry v.logged v.at v.of) (commit_lasts s cs q u.entry u.logged u.at u.of)
      x y (voted-available v x mx) (voted-available u y my) em ei in
      sym v.of ∙ ap (λ (r : Entry). r.transaction) same ∙ u.of

-- ---- Finality

-- a decision stands in every longer list
pub final_at : (limits : Limits) (calls more : List Call) (p : ℕ) (t : Transaction) → outcome_at limits (play limits calls) p t ≢ Wait
    → outcome_at limits (play limits (calls ++ more)) p t ≡ outcome_at limits (play limits calls) p t
unfolding Grows
final_at limits calls more p t f =
    let w = play-inv limits calls in
    let k = knows limits (play limits calls) w p t f in
    let g = play-grows limits calls more p t.number k.entry k.is_known in
    outcome-of limits (play limits (calls ++ more)) (play-inv limits (calls ++ more)) p t g.0 g.1 (g.2 ∙ k.whole)
    ∙ outcome_stays k.entry g.0 (sym g.2) g.3 (λ e. f (k.is_outcome ∙ e))
    ∙ sym k.is_outcome
