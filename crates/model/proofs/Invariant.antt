-- What holds of each shard's ledger beside the log of registrations, and that it still holds once a known transaction is entered:
-- by a registration or by a fresh vote, with the decision that it brings.
use Prim.Native.Nat.{ℕ}
use mathlib.Core.Path.{◌≡◌, refl, ap, sym, ◌∙◌, subst}
use mathlib.Core.Logic.{◌↔◌, ◌⊎◌, inl, inr, ⊎_elim}
use mathlib.Core.Bool.{Bool, true, false, cond, true≢false}
use mathlib.Core.Option.{Option, none, some}
use mathlib.Core.List.{List, [], ◌∷◌, Memᴰ}
use lib.Dec.{eqb}
use lib.ListN.{length, get_or}
use Rattle.std.specs.Prelude.{Some, None}
use Rattle.transaction.specs.declared.Input.{Input}
use Rattle.transaction.specs.declared.Transaction.{Transaction}
use Rattle.transaction.specs.Tokens.{shards_of}
use Rattle.transaction.specs.Checks.{named_twice}
use Rattle.model.specs.declared.Token.{Token}
use Rattle.model.specs.declared.Known.{Known}
use Rattle.model.specs.declared.Outcome.{Outcome}
use Rattle.model.specs.declared.Outcome.TheVariants.{Wait, Commit, Abort}
use Rattle.model.specs.Lists.{map_option}
use Rattle.model.specs.Said.{Said}
use Rattle.model.specs.Steps.{
  Limits,
  Ledger,
  holding,
  inputs_here,
  heard_from,
  outcome_of,
  made_here,
  commit,
  settle,
  is_aborted,
  is_pledged_to,
  freeing,
  ended,
  is_aborted_for,
  pledged_to_aborted,
}
use Rattle.model.specs.Model.{Entry}
use Rattle.model.specs.Demand.{Value, input_value, token_value, token_at}
use Rattle.model.proofs.Basics.{
  eqb-eq,
  eqb_apart,
  not_yes,
  both,
  clash,
  Case,
  yes-case,
  no-case,
  case,
  or_else,
  or_else-none,
  is_some,
  some≢none,
  CaseO,
  is-some,
  is-none,
  case_o,
  map-none,
  map-or,
  any_at,
}
use Rattle.model.proofs.Entries.{look, OneEach, mem-look, put, look-put-same, look-put-other, look-put-elim, one-each-put}
use Rattle.model.proofs.Outcomes.{outcome_yes, abort≢commit, wait≢commit}
use Rattle.model.proofs.Holdings.{
  NoTwice,
  taken,
  taken-by,
  here-shard,
  made-number,
  tok_commit,
  no_twice_commit,
  value_freeing,
  no_twice_freeing,
  tok_unfreed,
}

-- ---- Votes and registrations, as the log has them

-- shard q registered t, and its vote is noted as c: yes exactly if all its inputs there were available
pub record Voted (log : List Entry) (q : ℕ) (t : Transaction) (c : Said) : Type 0 where
  pub entry : Entry
  pub logged : Memᴰ entry log
  pub at : entry.shard ≡ q
  pub of : entry.transaction ≡ t
  pub is-vote : (c ≡ Some false) ⊎ (c ≡ Some true)
  pub says : (c ≡ Some true) ↔ ((x : Input) → Memᴰ x (inputs_here q t) → Memᴰ x entry.available)

-- a vote stays in a longer log
pub voted-more : {log : List Entry} {q : ℕ} {t : Transaction} {c : Said} (r : Entry) → Voted log q t c → Voted (r ∷ log) q t c
voted-more r v = record { entry = v.entry; logged = Memᴰ.tail v.logged; at = v.at; of = v.of; is-vote = v.is-vote; says = v.says }

-- shard q registered t
pub record Registration (log : List Entry) (q : ℕ) (t : Transaction) : Type 0 where
  pub entry : Entry
  pub logged : Memᴰ entry log
  pub at : entry.shard ≡ q
  pub of : entry.transaction ≡ t

-- every shard of t registered it
abbrev pub Complete : List Entry → Transaction → Type 0
Complete log t = (q : ℕ) → Memᴰ q (shards_of t) → Registration log q t

-- ---- What the genesis tokens and the commits of a shard have made; `genesis` is the value of a genesis token by creator and index

-- what a commit makes, and no other outcome
abbrev pub on_commit : {A : Type 0} → Outcome → Option A → Option A
on_commit Wait o = none
on_commit Commit o = o
on_commit Abort o = none

-- the value that t makes at shard p under a creator and an index
abbrev pub gain : ℕ → Transaction → ℕ → ℕ → Option Value
gain p t m i = map_option token_value (token_at (made_here p t) m i)

-- what a known transaction has made
abbrev pub by_commit : ℕ → Option Known → ℕ → ℕ → Option Value
by_commit p none m i = none
by_commit p (some k) m i = on_commit (outcome_of k) (gain p k.transaction m i)

-- what was made under a creator and an index
unfoldable pub made : ℕ → (ℕ → ℕ → Option Value) → List Known → ℕ → ℕ → Option Value
made p genesis known m i = or_else (genesis m i) (by_commit p (look known m) m i)

-- a transaction that is committed here takes the token
pub record Consumed (p : ℕ) (known : List Known) (m i : ℕ) : Type 0 where
  pub number : ℕ
  pub entry : Known
  pub is_known : look known number ≡ some entry
  pub is-commit : outcome_of entry ≡ Commit
  pub is-taken : taken p entry.transaction m i ≡ true

-- the token is held, and pledged to the transaction of that number
pub record Pledged (tokens : List Token) (m i number : ℕ) : Type 0 where
  pub token : Token
  pub is-there : token_at tokens m i ≡ some token
  pub is-pledged : token.pledge ≡ number

-- the transaction of that number is aborted here
pub record Aborted (known : List Known) (number : ℕ) : Type 0 where
  pub entry : Known
  pub is_known : look known number ≡ some entry
  pub is_abort : outcome_of entry ≡ Abort

-- an available input was made before: as a genesis token, or by a transaction committed here that all its shards had registered
pub data Source (p : ℕ) (genesis : ℕ → ℕ → Option Value) (known : List Known) (older : List Entry) (x : Input) : Type 0 where
  from-genesis : genesis x.token.creator x.token.index ≡ some (input_value x) → Source p genesis known older x
  from-commit : (k : Known) → look known x.token.creator ≡ some k → outcome_of k ≡ Commit
      → gain p k.transaction x.token.creator x.token.index ≡ some (input_value x)
      → Complete older k.transaction → Source p genesis known older x

-- and so was each input that a registration of shard p found available
abbrev pub Sources : ℕ → (ℕ → ℕ → Option Value) → List Known → List Entry → Type 0
Sources p genesis known [] = Unit {0}
Sources p genesis known (r ∷ older) =
    (r.shard ≡ p → (x : Input) → Memᴰ x r.available → Source p genesis known older x) × Sources p genesis known older

-- ---- The invariant of one shard

-- the tokens, the known transactions and the log of one shard
pub record Core (log : List Entry) (p : ℕ) (tokens : List Token) (genesis : ℕ → ℕ → Option Value) (known : List Known) : Type 0 where
  -- known transactions have distinct numbers, none of them 0, and name no token twice
  pub one_each : OneEach known
  pub number : (n : ℕ) (k : Known) → look known n ≡ some k → n ≡ 0 → ⊥
  pub distinct : (n : ℕ) (k : Known) → look known n ≡ some k → named_twice k.transaction ≡ false
  -- the own vote is heard, and each vote heard is the sender's own
  pub eight : (n : ℕ) (k : Known) → look known n ≡ some k → length k.heard ≡ 8
  pub own : (n : ℕ) (k : Known) → look known n ≡ some k → heard_from p k ≡ None → ⊥
  pub votes : (n : ℕ) (k : Known) → look known n ≡ some k → (q : ℕ) → (heard_from q k ≡ None → ⊥) → Voted log q k.transaction (heard_from q k)
  -- genesis tokens have creator 0; a consumed token is gone, and any other is there if it was made
  pub zero-only : (m i : ℕ) → (m ≡ 0 → ⊥) → genesis m i ≡ none
  pub gone : (m i : ℕ) → Consumed p known m i → token_at tokens m i ≡ none
  pub there : (m i : ℕ) → (Consumed p known m i → ⊥) → map_option token_value (token_at tokens m i) ≡ made p genesis known m i
  pub sources : Sources p genesis known log

-- the pledges to the transaction of that number last: it is not aborted here, or the shard has not turned
abbrev pub Lasts : Bool → List Known → ℕ → Type 0
Lasts turned known number = turned ≡ true → Aborted known number → ⊥

-- an input once available to a transaction whose pledges last is consumed, or held with its pledge
abbrev pub Bound : List Entry → ℕ → Bool → List Known → List Token → Type 0
Bound log p turned known tokens =
    (r : Entry) → Memᴰ r log → r.shard ≡ p → Lasts turned known r.transaction.number → (x : Input) → Memᴰ x r.available
    → Consumed p known x.token.creator x.token.index ⊎ Pledged tokens x.token.creator x.token.index r.transaction.number

-- two such transactions never found one token available
abbrev pub Disjoint : List Entry → ℕ → Bool → List Known → Type 0
Disjoint log p turned known =
    (r₁ r₂ : Entry) → Memᴰ r₁ log → Memᴰ r₂ log → r₁.shard ≡ p → r₂.shard ≡ p
    → Lasts turned known r₁.transaction.number → Lasts turned known r₂.transaction.number
    → (x₁ x₂ : Input) → Memᴰ x₁ r₁.available → Memᴰ x₂ r₂.available
    → x₁.token.creator ≡ x₂.token.creator → x₁.token.index ≡ x₂.token.index → r₁ ≡ r₂

-- the ledger of one shard
pub record Ok (limits : Limits) (log : List Entry) (p : ℕ) (genesis : ℕ → ℕ → Option Value) (ledger : Ledger) : Type 0 where
  pub core : Core log p ledger.tokens genesis ledger.known
  pub flags : length ledger.given ≡ limits.genesis
  pub indices : (i : ℕ) → get_or ledger.given i false ≡ is_some (genesis 0 i)
  pub no_twice : NoTwice ledger.tokens
  -- what the log has of this shard is known here, and what it found available is bound, to one transaction whose pledges last
  pub entered : (r : Entry) → Memᴰ r log → r.shard ≡ p → (k : Known)
      × (look ledger.known r.transaction.number ≡ some k) × (k.transaction ≡ r.transaction)
  pub bound : Bound log p ledger.turned ledger.known ledger.tokens
  pub disjoint : Disjoint log p ledger.turned ledger.known

-- ---- Sources of the inputs of a yes vote

-- an input that was found available has a source
pub sources-at : (p : ℕ) (genesis : ℕ → ℕ → Option Value) (known : List Known) (log : List Entry) (x : Input) → Sources p genesis known log
    → (r : Entry) → Memᴰ r log → r.shard ≡ p → Memᴰ x r.available → (older : List Entry) × Source p genesis known older x
sources-at p genesis known [] x src r x6 at a = elim x6 [ ]
sources-at p genesis known (r₀ ∷ older) x src r (Memᴰ.head e) at a =
    (older, src.0 (ap (λ (c : Entry). c.shard) (sym e) ∙ at) x (subst (λ (c : Entry). Memᴰ x c.available) e a))
sources-at p genesis known (r₀ ∷ older) x src r (Memᴰ.tail d) at a = sources-at p genesis known older x src.1 r d at a

-- a yes vote found each input available
pub voted-available : {log : List Entry} {p : ℕ} {t : Transaction} (v : Voted log p t (Some true)) (x : Input)
    → Memᴰ x (inputs_here p t) → Memᴰ x v.entry.available
voted-available v x m = v.says.0 refl x m

-- so each input of a yes vote has a source
pub sourced : (p : ℕ) (genesis : ℕ → ℕ → Option Value) (known : List Known) (log : List Entry) (t : Transaction) (x : Input) → Sources p genesis known log
    → Voted log p t (Some true) → Memᴰ x (inputs_here p t) → (older : List Entry) × Source p genesis known older x
sourced p genesis known log t x src v m = sources-at p genesis known log x src v.entry v.logged v.at (voted-available v x m)

-- what has a source is made
pub source_made : (p : ℕ) (genesis : ℕ → ℕ → Option Value) (known : List Known) (older : List Entry) (x : Input)
    → ((n : ℕ) (k : Known) → look known n ≡ some k → n ≡ 0 → ⊥) → ((m i : ℕ) → (m ≡ 0 → ⊥) → genesis m i ≡ none)
    → Source p genesis known older x → made p genesis known x.token.creator x.token.index ≡ some (input_value x)
unfolding made
source_made p genesis known older x h z (from-genesis g) =
    ap (λ (o : Option Value). or_else o (by_commit p (look known x.token.creator) x.token.creator x.token.index)) g
source_made p genesis known older x h z (from-commit k e c g all) =
    (λ j. or_else (z x.token.creator x.token.index (h x.token.creator k e) j) (by_commit p (e j) x.token.creator x.token.index))
    ∙ ap (λ (o : Outcome). on_commit o (gain p k.transaction x.token.creator x.token.index)) c ∙ g

-- ---- Tokens of one shard

module _ {log : List Entry} {p : ℕ} {tokens : List Token} {genesis : ℕ → ℕ → Option Value} {known : List Known} (c : Core log p tokens genesis known) where
  -- what is consumed was made
  pub consumed_made : (m i : ℕ) → Consumed p known m i → made p genesis known m i ≡ none → ⊥
  consumed_made m i d z =
      let t = taken-by p d.entry.transaction m i d.is-taken in
      let yes : heard_from p d.entry ≡ Some true = outcome_yes d.entry d.is-commit p (here-shard p d.entry.transaction t.input t.is-here).2 in
      let v : Voted log p d.entry.transaction (Some true) =
      subst (λ (c : Said). Voted log p d.entry.transaction c) yes
      (c.votes d.number d.entry d.is_known p (c.own d.number d.entry d.is_known)) in
      let s = sourced p genesis known log d.entry.transaction t.input c.sources v t.is-here in
      some≢none (source_made p genesis known s.0 t.input c.number c.zero-only s.1)
      ((λ j. made p genesis known (t.is_creator j) (t.is-index j)) ∙ z)

  -- nothing is held that was not made, and what is held was made with its value
  pub unmade : (m i : ℕ) → made p genesis known m i ≡ none → token_at tokens m i ≡ none
  unmade m i z = go (case_o (token_at tokens m i))
    where
      go : CaseO (token_at tokens m i) → token_at tokens m i ≡ none
      go (is-none e) = e
      go (is-some t e) = map-none token_value (token_at tokens m i) (c.there m i (λ d. some≢none e (c.gone m i d)) ∙ z)

  -- what is held was made, with its value
  pub held-made : (m i : ℕ) {t : Token} → token_at tokens m i ≡ some t → made p genesis known m i ≡ some (token_value t)
  held-made m i {t} e = sym (c.there m i (λ d. some≢none e (c.gone m i d))) ∙ ap (map_option token_value) e

-- ---- A known transaction is entered: k, over tokens of the same values

-- what must hold of the entry
pub record Enters (log : List Entry) (p : ℕ) (known : List Known) (k : Known) : Type 0 where
  pub undecided : (j : Known) → look known k.transaction.number ≡ some j → outcome_of j ≡ Commit → ⊥
  pub still : (j : Known) → look known k.transaction.number ≡ some j → outcome_of j ≡ Abort → outcome_of k ≡ Abort
  pub positive : k.transaction.number ≡ 0 → ⊥
  pub distinct : named_twice k.transaction ≡ false
  pub eight : length k.heard ≡ 8
  pub own : heard_from p k ≡ None → ⊥
  pub votes : (q : ℕ) → (heard_from q k ≡ None → ⊥) → Voted log q k.transaction (heard_from q k)

module _ {log : List Entry} {p : ℕ} {tokens : List Token} {genesis : ℕ → ℕ → Option Value} {known : List Known} (c : Core log p tokens genesis known)
    (k : Known) (tokens₁ : List Token) (en : Enters log p known k)
    (keeps : (m i : ℕ) → map_option token_value (token_at tokens₁ m i) ≡ map_option token_value (token_at tokens m i)) where
  -- the known transactions with k
  abbrev new : List Known
  new = put k known

  -- the tokens with its outcome
  abbrev after : List Token
  after = settle (outcome_of k) p k.transaction tokens₁

  -- what was aborted stays so
  pub aborted_more : (n : ℕ) → Aborted known n → Aborted new n
  aborted_more n a = go (case (eqb k.transaction.number n))
    where
      go : Case (eqb k.transaction.number n) → Aborted new n
      go (yes-case y) =
          let e : k.transaction.number ≡ n = eqb-eq k.transaction.number n y in
          record { entry = k; is_known = look-put-same k known e; is_abort = en.still a.entry (ap (look known) e ∙ a.is_known) a.is_abort }
      go (no-case y) = record { entry = a.entry; is_known = look-put-other k known (eqb_apart y) ∙ a.is_known; is_abort = a.is_abort }

  -- before, nothing had the number
  unmade-number : (m i : ℕ) → m ≡ k.transaction.number → made p genesis known m i ≡ none
  unfolding made
  unmade-number m i e =
      (λ j. or_else (c.zero-only m i (λ z. en.positive (sym e ∙ z)) j) (by_commit p (look known m) m i))
      ∙ go (case_o (look known m))
    where
      stop : (j : Known) (o : Outcome) → outcome_of j ≡ o → (o ≡ Commit → ⊥) → on_commit o (gain p j.transaction m i) ≡ none
      stop j Wait z h = refl
      stop j Commit z h = absurd (h refl)
      stop j Abort z h = refl

      go : CaseO (look known m) → by_commit p (look known m) m i ≡ none
      go (is-none z) = ap (λ (o : Option Known). by_commit p o m i) z
      go (is-some j z) = ap (λ (o : Option Known). by_commit p o m i) z ∙ stop j (outcome_of j) refl (λ y. en.undecided j (ap (look known) (sym e) ∙ z) y)

  -- a commit makes its outputs, and makes nothing under another number
  made-new : (m i : ℕ) → made p genesis new m i ≡ or_else (made p genesis known m i) (on_commit (outcome_of k) (gain p k.transaction m i))
  unfolding made
  made-new m i = go (case (eqb k.transaction.number m))
    where
      none-gain : (o : Outcome) (v : Option Value) → v ≡ none → on_commit o v ≡ none
      none-gain Wait v e = refl
      none-gain Commit v e = e
      none-gain Abort v e = refl

      no-gain : (k.transaction.number ≡ m → ⊥) → gain p k.transaction m i ≡ none
      no-gain h = cut (case_o (token_at (made_here p k.transaction) m i))
        where
          cut : CaseO (token_at (made_here p k.transaction) m i) → gain p k.transaction m i ≡ none
          cut (is-none z) = ap (map_option token_value) z
          cut (is-some t z) = absurd (h (sym (made-number p k.transaction m i z)))

      go : Case (eqb k.transaction.number m) → made p genesis new m i
          ≡ or_else (made p genesis known m i) (on_commit (outcome_of k) (gain p k.transaction m i))
      go (yes-case e) =
          let n : k.transaction.number ≡ m = eqb-eq k.transaction.number m e in
          (λ j. or_else (c.zero-only m i (λ z. en.positive (n ∙ z)) j) (by_commit p (look-put-same k known n j) m i))
          ∙ sym (ap (λ (o : Option Value). or_else o (on_commit (outcome_of k) (gain p k.transaction m i))) (unmade-number m i (sym n)))
      go (no-case e) =
          let n : k.transaction.number ≡ m → ⊥ = eqb_apart e in
          (λ j. or_else (genesis m i) (by_commit p (look-put-other k known n j) m i))
          ∙ sym (or_else-none (made p genesis known m i))
          ∙ sym (ap (λ (o : Option Value). or_else (made p genesis known m i) o) (none-gain (outcome_of k) (gain p k.transaction m i) (no-gain n)))

  -- the tokens consumed are those of before and, if this is a commit, its inputs here
  consumed_more : (m i : ℕ) → Consumed p known m i → Consumed p new m i
  consumed_more m i d = record {
    number = d.number;
    entry = d.entry;
    is-commit = d.is-commit;
    is-taken = d.is-taken;
    is_known = look-put-other k known (λ e. en.undecided d.entry (ap (look known) e ∙ d.is_known) d.is-commit) ∙ d.is_known;
  }

  -- its inputs here are consumed
  consumed_new : (m i : ℕ) → outcome_of k ≡ Commit → taken p k.transaction m i ≡ true → Consumed p new m i
  consumed_new m i y t = record { number = k.transaction.number; entry = k; is_known = look-put-same k known refl; is-commit = y; is-taken = t }

  -- nothing else is
  consumed_cases : (m i : ℕ) → Consumed p new m i → Consumed p known m i ⊎ ((outcome_of k ≡ Commit) × (taken p k.transaction m i ≡ true))
  consumed_cases m i d =
      look-put-elim (λ n j. outcome_of j ≡ Commit → taken p j.transaction m i ≡ true → Consumed p known m i
      ⊎ ((outcome_of k ≡ Commit) × (taken p k.transaction m i ≡ true)))
      k known (λ y t. inr (y, t))
      (λ n j e y t. inl (record { number = n; entry = j; is_known = e; is-commit = y; is-taken = t }))
      d.number d.entry d.is_known d.is-commit d.is-taken

  -- an input of the committed transaction was made before
  commit-made : outcome_of k ≡ Commit → (m i : ℕ) → taken p k.transaction m i ≡ true → made p genesis known m i ≡ none → ⊥
  commit-made y m i t z =
      let w = taken-by p k.transaction m i t in
      let yes : heard_from p k ≡ Some true = outcome_yes k y p (here-shard p k.transaction w.input w.is-here).2 in
      let s = sourced p genesis known log k.transaction w.input c.sources
      (subst (λ (c : Said). Voted log p k.transaction c) yes (en.votes p en.own)) w.is-here in
      some≢none (source_made p genesis known s.0 w.input c.number c.zero-only s.1)
      ((λ j. made p genesis known (w.is_creator j) (w.is-index j)) ∙ z)

  -- what is consumed was made before
  made-before : (m i : ℕ) → Consumed p new m i → made p genesis known m i ≡ none → ⊥
  made-before m i d z = ⊎_elim (λ e. consumed_made c m i e z) (λ e. commit-made e.0 m i e.1 z) (consumed_cases m i d)

  -- what was consumed before is not there
  gone_same : (m i : ℕ) → Consumed p known m i → token_at tokens₁ m i ≡ none
  gone_same m i d = map-none token_value (token_at tokens₁ m i) (keeps m i ∙ ap (map_option token_value) (c.gone m i d))

  -- what is consumed is not there afterwards
  gone-new : (m i : ℕ) → Consumed p new m i → token_at after m i ≡ none
  gone-new m i d = go (outcome_of k) refl
    where
      open_cases : (o : Outcome) → outcome_of k ≡ o → (o ≡ Commit → ⊥) → token_at tokens₁ m i ≡ none
      open_cases o e h = ⊎_elim (gone_same m i) (λ y. absurd (h (sym e ∙ y.0))) (consumed_cases m i d)

      taken_none : (b : Bool) (t : Option Token) → (b ≡ false → t ≡ none) → cond b none t ≡ none
      taken_none true t h = refl
      taken_none false t h = h refl

      go : (o : Outcome) → outcome_of k ≡ o → token_at (settle o p k.transaction tokens₁) m i ≡ none
      go Wait e = open_cases Wait e wait≢commit
      go Abort e = open_cases Abort e abort≢commit
      go Commit e =
          tok_commit p k.transaction tokens₁ m i
          ∙ ap (λ (o : Option Token). or_else o (token_at (made_here p k.transaction) m i))
          (taken_none (taken p k.transaction m i) (token_at tokens₁ m i) (λ f. ⊎_elim (gone_same m i) (λ y. clash y.1 f) (consumed_cases m i d)))
          ∙ made_none (case_o (token_at (made_here p k.transaction) m i))
        where
          made_none : CaseO (token_at (made_here p k.transaction) m i) → token_at (made_here p k.transaction) m i ≡ none
          made_none (is-none z) = z
          made_none (is-some t z) = absurd (made-before m i d (unmade-number m i (made-number p k.transaction m i z)))

  -- what is not consumed is there if it was made
  there-new : (m i : ℕ) → (Consumed p new m i → ⊥) → map_option token_value (token_at after m i) ≡ made p genesis new m i
  there-new m i f = go (outcome_of k) refl ∙ sym (made-new m i)
    where
      old : map_option token_value (token_at tokens₁ m i) ≡ made p genesis known m i
      old = keeps m i ∙ c.there m i (λ d. f (consumed_more m i d))

      go : (o : Outcome) → outcome_of k ≡ o
          → map_option token_value (token_at (settle o p k.transaction tokens₁) m i)
          ≡ or_else (made p genesis known m i) (on_commit o (gain p k.transaction m i))
      go Wait e = old ∙ sym (or_else-none (made p genesis known m i))
      go Abort e = old ∙ sym (or_else-none (made p genesis known m i))
      go Commit e =
          ap (map_option token_value) (tok_commit p k.transaction tokens₁ m i)
          ∙ map-or token_value (cond (taken p k.transaction m i) none (token_at tokens₁ m i)) (token_at (made_here p k.transaction) m i)
          ∙ (λ j. or_else (map_option token_value (cond (not_yes (λ t. f (consumed_new m i e t)) j) none (token_at tokens₁ m i))) (gain p k.transaction m i))
          ∙ ap (λ (o : Option Value). or_else o (gain p k.transaction m i)) old

  -- sources stay sources
  source_new : (older : List Entry) (x : Input) → Source p genesis known older x → Source p genesis new older x
  source_new older x (from-genesis g) = from-genesis g
  source_new older x (from-commit j e y g all) =
      from-commit j (look-put-other k known (λ n. en.undecided j (ap (look known) n ∙ e) y) ∙ e) y g all

  -- and so do those of the whole log
  sources-new : (r : List Entry) → Sources p genesis known r → Sources p genesis new r
  sources-new [] s = tt
  sources-new (r ∷ older) s = (λ e x a. source_new older x (s.0 e x a), sources-new older s.1)

  -- the invariant once k is entered
  pub core_enter : Core log p after genesis new
  core_enter = record {
    one_each = one-each-put k known c.one_each;
    number = look-put-elim (λ n j. n ≡ 0 → ⊥) k known en.positive c.number;
    distinct = look-put-elim (λ n j. named_twice j.transaction ≡ false) k known en.distinct c.distinct;
    eight = look-put-elim (λ n j. length j.heard ≡ 8) k known en.eight c.eight;
    own = look-put-elim (λ n j. heard_from p j ≡ None → ⊥) k known en.own c.own;
    votes = look-put-elim (λ n j. (q : ℕ) → (heard_from q j ≡ None → ⊥) → Voted log q j.transaction (heard_from q j)) k known en.votes c.votes;
    zero-only = c.zero-only;
    gone = gone-new;
    there = there-new;
    sources = sources-new log c.sources;
  }

  -- a pledged token is consumed or stays pledged
  pub bound_enter : (m i number : ℕ) → Pledged tokens₁ m i number → Consumed p new m i ⊎ Pledged after m i number
  bound_enter m i number t = go (outcome_of k) refl
    where
      go : (o : Outcome) → outcome_of k ≡ o → Consumed p new m i ⊎ Pledged (settle o p k.transaction tokens₁) m i number
      go Wait e = inr t
      go Abort e = inr t
      go Commit e = cut (case (taken p k.transaction m i))
        where
          cut : Case (taken p k.transaction m i) → Consumed p new m i ⊎ Pledged (commit p k.transaction tokens₁) m i number
          cut (yes-case y) = inl (consumed_new m i e y)
          cut (no-case n) = inr (record {
            token = t.token;
            is-pledged = t.is-pledged;
            is-there = tok_commit p k.transaction tokens₁ m i ∙ (λ j. or_else (cond (n j) none (t.is-there j)) (token_at (made_here p k.transaction) m i));
          })

  -- an input once available stays consumed or pledged
  pub bound-more : (m i number : ℕ) → Consumed p known m i ⊎ Pledged tokens₁ m i number → Consumed p new m i ⊎ Pledged after m i number
  bound-more m i number b = ⊎_elim (λ d. inl (consumed_more m i d)) (bound_enter m i number) b

  -- no token twice, once k is entered
  pub no_twice_enter : NoTwice tokens₁ → NoTwice after
  no_twice_enter n = go (outcome_of k)
    where
      absent : (i : ℕ) → token_at tokens₁ k.transaction.number i ≡ none
      absent i =
          map-none token_value (token_at tokens₁ k.transaction.number i)
          (keeps k.transaction.number i ∙ ap (map_option token_value) (unmade c k.transaction.number i (unmade-number k.transaction.number i refl)))

      go : (o : Outcome) → NoTwice (settle o p k.transaction tokens₁)
      go Wait = n
      go Abort = n
      go Commit = no_twice_commit p k.transaction tokens₁ n absent

-- ---- Pledges to aborted transactions end

-- tokens that differ only in pledges that need not last
pub record Frees (turned : Bool) (known : List Known) (tokens freed : List Token) : Type 0 where
  pub same_value : (m i : ℕ) → map_option token_value (token_at freed m i) ≡ map_option token_value (token_at tokens m i)
  pub once : NoTwice tokens → NoTwice freed
  pub keeps : (m i n : ℕ) → Lasts turned known n → Pledged tokens m i n → Pledged freed m i n

-- where nothing changes
frees_none : (turned : Bool) (known : List Known) (tokens : List Token) → Frees turned known tokens tokens
frees_none turned known tokens = record { same_value = λ m i. refl; once = λ s. s; keeps = λ m i n f b. b }

-- tokens come free that are pledged to aborted transactions alone, at a turned shard
frees_those : (known : List Known) (f : Token → Bool) (tokens : List Token) → ((t : Token) → f t ≡ true → Aborted known t.pledge)
    → Frees true known tokens (freeing f tokens)
frees_those known f tokens a = record {
  same_value = value_freeing f tokens;
  once = no_twice_freeing f tokens;
  keeps = λ m i n lasts b.
      let bound : f b.token ≡ false = not_yes (λ y. lasts refl (subst (Aborted known) b.is-pledged (a b.token y))) in
      record { token = b.token; is-pledged = b.is-pledged; is-there = tok_unfreed f tokens m i b.is-there bound };
}

-- those of an abort
frees_ended : (known : List Known) (turned : Bool) (o : Outcome) (number : ℕ) (tokens : List Token) → (o ≡ Abort → Aborted known number)
    → Frees turned known tokens (ended turned o number tokens)
frees_ended known turned Wait number tokens a = frees_none turned known tokens
frees_ended known turned Commit number tokens a = frees_none turned known tokens
frees_ended known false Abort number tokens a = frees_none false known tokens
frees_ended known true Abort number tokens a =
    frees_those known (is_pledged_to number) tokens (λ t y. subst (Aborted known) (sym (eqb-eq t.pledge number y)) (a refl))

-- an outcome that is abort
aborted_is : (o : Outcome) → is_aborted o ≡ true → o ≡ Abort
aborted_is Wait e = absurd (true≢false (sym e))
aborted_is Commit e = absurd (true≢false (sym e))
aborted_is Abort e = refl

-- those of a turn
pub frees_turn : (known : List Known) → OneEach known → (tokens : List Token)
    → Frees true known tokens (freeing (pledged_to_aborted known) tokens)
frees_turn known s tokens = frees_those known (pledged_to_aborted known) tokens (λ t y.
    let r = any_at (is_aborted_for t) known y in
    let k : Known = r.0 in
    let b = both (is_aborted (outcome_of k)) (is_pledged_to k.transaction.number t) r.2 in
    subst (Aborted known) (sym (eqb-eq t.pledge k.transaction.number b.1))
    (record { entry = k; is_known = mem-look known s r.1; is_abort = aborted_is (outcome_of k) b.0 }))

-- the invariant does not depend on them
pub frees_ok : {limits : Limits} {log : List Entry} {p : ℕ} {genesis : ℕ → ℕ → Option Value} {l : Ledger} (turned : Bool) (freed : List Token)
    → (l.turned ≡ true → turned ≡ true) → Ok limits log p genesis l → Frees turned l.known l.tokens freed
    → Ok limits log p genesis (record { tokens = freed; given = l.given; known = l.known; turned = turned })
frees_ok turned freed stays o f = record {
  core = record {
    one_each = o.core.one_each;
    number = o.core.number;
    distinct = o.core.distinct;
    eight = o.core.eight;
    own = o.core.own;
    votes = o.core.votes;
    zero-only = o.core.zero-only;
    gone = λ m i d. map-none token_value (token_at freed m i) (f.same_value m i ∙ ap (map_option token_value) (o.core.gone m i d));
    there = λ m i h. f.same_value m i ∙ o.core.there m i h;
    sources = o.core.sources;
  };
  flags = o.flags;
  indices = o.indices;
  no_twice = f.once o.no_twice;
  entered = o.entered;
  bound = λ r d at lasts x a.
      ⊎_elim inl (λ b. inr (f.keeps x.token.creator x.token.index r.transaction.number lasts b)) (o.bound r d at (λ y. lasts (stays y)) x a);
  disjoint = λ r₁ r₂ d₁ d₂ b₁ b₂ n₁ n₂. o.disjoint r₁ r₂ d₁ d₂ b₁ b₂ (λ y. n₁ (stays y)) (λ y. n₂ (stays y));
}

-- once a known transaction is entered and settled, its abort may free its tokens
pub ended_ok : {limits : Limits} {log : List Entry} {p : ℕ} {genesis : ℕ → ℕ → Option Value} (l : Ledger) (k : Known) (settled : List Token)
    → Ok limits log p genesis (holding l settled (put k l.known))
    → Ok limits log p genesis (holding l (ended l.turned (outcome_of k) k.transaction.number settled) (put k l.known))
ended_ok l k settled o =
    let freed = ended l.turned (outcome_of k) k.transaction.number settled in
    frees_ok l.turned freed (λ y. y) o
    (frees_ended (put k l.known) l.turned (outcome_of k) k.transaction.number settled
    (λ e. record { entry = k; is_known = look-put-same k l.known refl; is_abort = e }))
