-- A shard's limits: what holds of every ledger that the calls build, at a lone shard and in a cluster. Held tokens plus reserved outputs never pass
-- the limit, known transactions never pass theirs, and what is stored passed the field checks.
use Prim.Native.Nat.{ℕ, zero, suc, ◌+◌, ◌<◌, ◌≤◌}
use native.Mathlib.Omega.{arith}
use mathlib.Core.Path.{◌≡◌, refl, ap, sym, ◌∙◌, subst}
use mathlib.Core.Logic.{◌⊎◌, inl, inr, ⊎_elim}
use mathlib.Core.Bool.{Bool, true, false, cond, ◌||◌, true≢false, false≢true}
use mathlib.Core.List.Memᴰ
use mathlib.Core.List.{List, [], ◌∷◌, ◌++◌, Memᴰ}
use lib.Dec.{eqb}
use lib.ListN.{length, get_or, set, replicate, length-append, length-map, length-set, length-replicate}
use Rattle.transaction.specs.declared.Output.{Output}
use Rattle.std.specs.Prelude.{Some, None, Ok}
use Rattle.std.proofs.lemmas.Option.{none-some}
use Rattle.transaction.specs.declared.Transaction.{Transaction}
use Rattle.transaction.specs.Lists.{any, total}
use Rattle.transaction.specs.Tokens.{used_outputs, shards_of}
use Rattle.transaction.specs.Checks.{fields_fit, named_twice, balanced, cause_of}
use Rattle.transaction.proofs.Slots.{total-append}
use Rattle.model.specs.declared.Token.{Token}
use Rattle.model.specs.declared.Known.{Known}
use Rattle.model.specs.declared.Outcome.{Outcome}
use Rattle.model.specs.declared.Outcome.TheVariants.{Wait, Commit, Abort}
use Rattle.model.specs.Answers.{Answer}
use Rattle.model.specs.Lists.{keep, find}
use Rattle.model.specs.Steps.{
  Limits,
  Ledger,
  empty_ledger,
  genesis_token,
  inputs_here,
  available_here,
  pledges,
  vote,
  newly_known,
  heard_from,
  hearing,
  outcome_of,
  output_here,
  outputs_here,
  token_of,
  tokens_from,
  made_here,
  stays,
  commit,
  settle,
  is_for,
  nothing_known,
  place_of,
  entry_of,
  after_mint,
  after_register,
  after_vote,
  freeing,
  pledge_when,
  ended,
  pledged_to_aborted,
  after_turn,
  is_pledged_to,
}
use Rattle.model.specs.Shard.{Call, if_undecided, reserved_by, reserved, shard_step}
use Rattle.model.specs.Fit.{is_set, counted, Fit}
use Rattle.model.specs.Cluster.{ledger_at}
use Rattle.model.specs.Model.{Model, play}
use Rattle.model.proofs.Basics.{keep-length, find_at, get_or-same}
use Rattle.model.proofs.Entries.{same-eq}
use Rattle.model.proofs.Outcomes.{outcome_yes, CaseOutcome, case_wait, case-commit, case_abort, case_outcome, abort_stays}
use Rattle.model.proofs.Refusals.{part_in, MintPasses, RegisterPasses, DeliverPasses, brought-registers, brought-hears, brought-fresh}
use Rattle.model.proofs.Effects.{
  ShardEffect,
  shard-refused,
  shard-minted,
  shard-registered,
  shard-heard,
  shard-again,
  shard-effect,
  Effect,
  did_refuse,
  did_mint,
  did_register,
  did_hear,
  did_repeat,
  shard-turned,
  did_turn,
  shard-brought,
}
use Rattle.model.proofs.Steps.{Inv, at_one, play-keeps}

-- ---- Lengths and sums

-- how many are kept, counted one by one
-- Stays: no proof cites it, and no other law says it.
pub keep-count : {A : Type 0} (f : A → Bool) (l : List A) → length (keep f l) ≡ total (λ (x : A). cond (f x) 1 0) l
keep-count f [] = refl
keep-count f (x ∷ l) = go (f x) (keep-count f l)
  where
    go : (b : Bool) → length (keep f l) ≡ total (λ x. cond (f x) 1 0) l → length (cond b (x ∷ keep f l) (keep f l)) ≡ cond b 1 0 + total (λ x. cond (f x) 1 0) l
    go true h = omega arith
    go false h = omega arith

-- a sum after one element was replaced
pub total-set : {A : Type 0} (f : A → ℕ) (l : List A) (i : ℕ) (a d : A) → i < length l → total f (set l i a) + f (get_or l i d) ≡ total f l + f a
total-set f [] i a d h = absurd (omega arith)
total-set f (x ∷ l) zero a d h = omega arith
total-set f (x ∷ l) (suc i) a d h = let r = total-set f l i a d (omega arith) in omega arith

-- a found place is within the list
pub find-below : {A : Type 0} (f : A → Bool) (l : List A) → any f l ≡ true → find f l < length l
find-below f [] e = absurd (false≢true e)
find-below f (x ∷ l) e = go (f x) e (find-below f l)
  where
    go : (b : Bool) → b || any f l ≡ true → (any f l ≡ true → find f l < length l) → cond b 0 (suc (find f l)) < suc (length l)
    go true e h = omega arith
    go false e h = let r = h e in omega arith

-- an element of a list with one replaced is the new one or an old one
pub mem-set : {A : Type 0} (l : List A) (i : ℕ) (a : A) {x : A} → Memᴰ x (set l i a) → (x ≡ a) ⊎ Memᴰ x l
mem-set [] i a m = elim m [ ]
mem-set (y ∷ l) zero a (Memᴰ.head e) = inl e
mem-set (y ∷ l) zero a (Memᴰ.tail m) = inr (Memᴰ.tail m)
mem-set (y ∷ l) (suc i) a (Memᴰ.head e) = inr (Memᴰ.head e)
mem-set (y ∷ l) (suc i) a (Memᴰ.tail m) = ⊎_elim (λ e. inl e) (λ d. inr (Memᴰ.tail d)) (mem-set l i a m)

-- a flag newly set counts one more
counted-set : (l : List Bool) (i : ℕ) → i < length l → get_or l i false ≡ false → counted (set l i true) ≡ counted l + 1
counted-set [] i h e = absurd (omega arith)
counted-set (b ∷ l) zero h e = go b e
  where
    go : (b : Bool) → b ≡ false → suc (counted l) ≡ length (cond b (b ∷ keep is_set l) (keep is_set l)) + 1
    go true e = absurd (true≢false e)
    go false e = omega arith
counted-set (b ∷ l) (suc i) h e = go b (counted-set l i (omega arith) e)
  where
    go : (b : Bool) → counted (set l i true) ≡ counted l + 1
        → length (cond b (b ∷ keep is_set (set l i true)) (keep is_set (set l i true))) ≡ length (cond b (b ∷ keep is_set l) (keep is_set l)) + 1
    go true r = omega arith
    go false r = r

-- as many tokens are made here as there are outputs here
pub made-length : (me : ℕ) (t : Transaction) → length (made_here me t) ≡ length (outputs_here me t)
unfolding made_here outputs_here
made-length me t = from 0 (used_outputs t)
  where
    from : (i : ℕ) (ys : List Output) → length (tokens_from me t.number i ys) ≡ length (keep (output_here me) ys)
    from i [] = refl
    from i (y ∷ ys) = go (output_here me y) (from (suc i) ys)
      where
        go : (b : Bool) → length (tokens_from me t.number (suc i) ys) ≡ length (keep (output_here me) ys)
            → length (cond b (token_of t.number i y ∷ tokens_from me t.number (suc i) ys) (tokens_from me t.number (suc i) ys))
            ≡ length (cond b (y ∷ keep (output_here me) ys) (keep (output_here me) ys))
        go true h = ap suc h
        go false h = h

-- a commit leaves at most the tokens held and the outputs here
commit-length : (me : ℕ) (t : Transaction) (tokens : List Token) → length (commit me t tokens) ≤ length tokens + length (outputs_here me t)
unfolding commit
commit-length me t tokens =
    let a = length-append (keep (stays (inputs_here me t)) tokens) (made_here me t) in
    let b = keep-length (stays (inputs_here me t)) tokens in
    let c = made-length me t in
    omega arith

-- what an outcome does to the tokens and to the reserved outputs takes no more room than the outputs here
settle-room : (o : Outcome) (me : ℕ) (t : Transaction) (tokens : List Token)
    → length (settle o me t tokens) + if_undecided o (length (outputs_here me t)) ≤ length tokens + length (outputs_here me t)
settle-room Wait me t tokens = omega arith
settle-room Commit me t tokens = let h = commit-length me t tokens in omega arith
settle-room Abort me t tokens = omega arith

-- a fresh vote takes no more room than was reserved: the transaction waited, or it was aborted and stays so
hear-room : (me : ℕ) (k : Known) (q v : ℕ) (tokens : List Token) → Memᴰ q (shards_of k.transaction) → heard_from q k ≡ None
    → length (settle (outcome_of (hearing q v k)) me k.transaction tokens) + reserved_by me (hearing q v k) ≤ length tokens + reserved_by me k
unfolding reserved_by
hear-room me k q v tokens m fresh = go (case_outcome k)
  where
    outputs : ℕ
    outputs = length (outputs_here me k.transaction)

    after : Outcome
    after = outcome_of (hearing q v k)

    Room : Outcome → Outcome → Type 0
    Room o o' = length (settle o' me k.transaction tokens) + if_undecided o' outputs ≤ length tokens + if_undecided o outputs

    go : CaseOutcome k → Room (outcome_of k) after
    go (case_wait e) = subst (λ (o : Outcome). Room o after) (sym e) (settle-room after me k.transaction tokens)
    go (case-commit e) = absurd (none-some true (sym fresh ∙ outcome_yes k e q m))
    go (case_abort e) = subst (λ (o : Outcome). Room o after) (sym e) (subst (Room Abort) (sym (abort_stays k q v fresh e)) (omega arith))

-- tokens that come free are still held
pub freeing-length : (f : Token → Bool) (tokens : List Token) → length (freeing f tokens) ≡ length tokens
unfolding freeing
freeing-length f tokens = length-map tokens (pledge_when 0 f)

-- so the end of pledges leaves as many tokens
ended-length : (turned : Bool) (o : Outcome) (number : ℕ) (tokens : List Token) → length (ended turned o number tokens) ≡ length tokens
ended-length turned Wait number tokens = refl
ended-length turned Commit number tokens = refl
ended-length false Abort number tokens = refl
ended-length true Abort number tokens = freeing-length (is_pledged_to number) tokens

-- ---- What holds of a ledger

-- the empty ledger is fit
pub empty-fit : (limits : Limits) (me : ℕ) → Fit limits me (empty_ledger limits)
unfolding reserved
empty-fit limits me = record {
  token-room = omega arith;
  known-room = omega arith;
  flags = length-replicate limits.genesis false;
  only-given = λ e. omega arith;
  checked = λ k m. elim m [ ];
  eight = λ k m. elim m [ ];
}

-- the checks passed, as one
form-checked : (genesis : ℕ) (t : Transaction) → fields_fit genesis t ≡ true → named_twice t ≡ false → balanced t ≡ true → cause_of genesis t ≡ Ok tt
unfolding cause_of
form-checked genesis t a b c = rw (a, b, c) refl

-- a list with one more element is not empty
not-nothing : (l : List Known) (k : Known) → l ++ (k ∷ []) ≡ [] → ⊥
not-nothing l k e = let h = length-append l (k ∷ []) in let z : length (l ++ (k ∷ [])) ≡ 0 = ap length e in omega arith

module _ (limits : Limits) (sized : limits.genesis ≤ limits.tokens) (me : ℕ) (ledger : Ledger) (f : Fit limits me ledger) where
  -- a genesis token keeps a ledger fit
  mint-fit : {receiver index owner amount : ℕ} → MintPasses limits me ledger receiver index owner amount → Fit limits me (after_mint ledger index owner amount)
  unfolding after_mint reserved
  mint-fit {index = index} {owner = owner} {amount = amount} h =
      let held = length-append ledger.tokens (genesis_token index owner amount ∷ []) in
      let long : length ledger.given ≡ limits.genesis = f.flags in
      let i : index < length ledger.given = let z = h.index-fits in omega arith in
      let more : counted (set ledger.given index true) ≡ counted ledger.given + 1 = counted-set ledger.given index i h.ungiven in
      let most = keep-length is_set (set ledger.given index true) in
      let same = length-set ledger.given index true in
      let before = f.only-given h.none-known in
      let nothing : reserved me ledger.known ≡ 0 = ap (reserved me) h.none-known in
      record {
        token-room = omega arith;
        known-room = f.known-room;
        flags = same ∙ long;
        only-given = λ e. omega arith;
        checked = f.checked;
        eight = f.eight;
      }

  -- a registration keeps it fit
  register-fit : {receiver : ℕ} {t : Transaction} → RegisterPasses limits me ledger receiver t → Fit limits me (after_register me ledger t)
  unfolding after_register newly_known reserved reserved_by pledges
  register-fit {t = t} h =
      let k : Known = newly_known me ledger.tokens t in
      let tokens : List Token = pledges t.number (available_here me ledger.tokens t) ledger.tokens in
      let held : length tokens ≡ length ledger.tokens = length-map ledger.tokens _ in
      let room = h.token-room in
      let after = settle-room (outcome_of k) me t tokens in
      let same = ended-length ledger.turned (outcome_of k) t.number (settle (outcome_of k) me t tokens) in
      let sum = total-append (reserved_by me) ledger.known (k ∷ []) in
      let count = length-append ledger.known (k ∷ []) in
      let below = h.known-room in
      record {
        token-room = omega arith;
        known-room = omega arith;
        flags = f.flags;
        only-given = λ e. absurd (not-nothing ledger.known k e);
        checked = λ j m. ⊎_elim (f.checked j)
            (λ d. ap (λ (a : Known). cause_of limits.genesis a.transaction) (Memᴰ.eq_of_singleton d)
            ∙ form-checked limits.genesis t h.form.fields h.form.distinct h.form.balances) (Memᴰ.append_cases ledger.known m);
        eight = λ j m. ⊎_elim (f.eight j)
            (λ d. ap (λ (a : Known). length a.heard) (Memᴰ.eq_of_singleton d)
            ∙ length-set (replicate 8 None) me (Some (vote me ledger.tokens t))) (Memᴰ.append_cases ledger.known m);
      }

  -- a fresh vote keeps it fit
  vote-fit : {receiver sender verdict : ℕ} {t : Transaction} → DeliverPasses limits me ledger receiver sender verdict t
      → heard_from sender (entry_of t ledger.known) ≡ None
      → Fit limits me (after_vote me ledger sender verdict t)
  unfolding after_vote reserved reserved_by entry_of place_of
  vote-fit {sender = sender} {verdict = verdict} {t = t} h fresh =
      let known : List Known = ledger.known in
      let there : any (is_for t) known ≡ true = h.is_known in
      let k : Known = entry_of t known in
      let k' : Known = hearing sender verdict k in
      let at = find_at (is_for t) known nothing_known there in
      let whole : k.transaction ≡ t = same-eq k.transaction t at.1 in
      let below = find-below (is_for t) known there in
      let sum = total-set (reserved_by me) known (find (is_for t) known) k' nothing_known below in
      let room = f.token-room in
      let part = subst (λ (s : Transaction). Memᴰ sender (shards_of s)) (sym whole) (part_in sender t h.passes.sender-part) in
      let after = hear-room me k sender verdict ledger.tokens part fresh in
      let same = ended-length ledger.turned (outcome_of k') k.transaction.number (settle (outcome_of k') me k.transaction ledger.tokens) in
      let count = length-set known (find (is_for t) known) k' in
      let most = f.known-room in
      record {
        token-room = omega arith;
        known-room = omega arith;
        flags = f.flags;
        only-given = λ e. let z : length (set known (find (is_for t) known) k') ≡ 0 = ap length e in absurd (omega arith);
        checked = λ j m. ⊎_elim (λ e. ap (λ (a : Known). cause_of limits.genesis a.transaction) e ∙ f.checked k at.0)
            (f.checked j) (mem-set known (find (is_for t) known) k' m);
        eight = λ j m. ⊎_elim (λ e. ap (λ (a : Known). length a.heard) e ∙ length-set k.heard sender (Some (eqb verdict 1)) ∙ f.eight k at.0)
            (f.eight j) (mem-set known (find (is_for t) known) k' m);
      }

  -- a turn keeps it fit
  turn-fit : Fit limits me (after_turn ledger)
  unfolding after_turn
  turn-fit =
      let held = freeing-length (pledged_to_aborted ledger.known) ledger.tokens in
      record {
        token-room = let h = f.token-room in omega arith;
        known-room = f.known-room;
        flags = f.flags;
        only-given = λ e. let h = f.only-given e in omega arith;
        checked = f.checked;
        eight = f.eight;
      }

-- a call at a lone shard keeps it, also a vote that brings its transaction: the registration keeps it, and then the vote
pub shard-fit : (limits : Limits) → limits.genesis ≤ limits.tokens → (me : ℕ) (ledger : Ledger) → Fit limits me ledger
    → (call : Call) (r : Ledger × Answer) → ShardEffect limits me ledger call r → Fit limits me r.0
shard-fit limits sized me ledger f call _ shard-refused = f
shard-fit limits sized me ledger f call _ (shard-minted h) = mint-fit limits sized me ledger f h
shard-fit limits sized me ledger f call _ (shard-registered h) = register-fit limits sized me ledger f h
shard-fit limits sized me ledger f call _ (shard-heard h e z) = vote-fit limits sized me ledger f h z
shard-fit limits sized me ledger f call _ (shard-again h z) = f
shard-fit limits sized me ledger f call _ (shard-turned h) = turn-fit limits sized me ledger f
shard-fit limits sized me ledger f call _ (shard-brought {t = t} h e) =
    vote-fit limits sized me (after_register me ledger t) (register-fit limits sized me ledger f (brought-registers h)) (brought-hears h) (brought-fresh h)

-- every call at a lone shard keeps its ledger fit
pub fit-step : (limits : Limits) → limits.genesis ≤ limits.tokens → (me : ℕ) (ledger : Ledger) → Fit limits me ledger
    → (call : Call) → Fit limits me (shard_step limits me ledger call).0
fit-step limits sized me ledger f call = shard-fit limits sized me ledger f call (shard_step limits me ledger call) (shard-effect limits me ledger call)

-- ---- In a cluster

module _ (limits : Limits) (sized : limits.genesis ≤ limits.tokens) where
  -- a call at the cluster keeps every shard's ledger fit
  step-fit : (place : ℕ) (model : Model) → Inv limits model → ((p : ℕ) → Fit limits p (ledger_at limits model.shards p))
      → (call : Call) (r : Model × Answer) → Effect limits place model call r → (p : ℕ) → Fit limits p (ledger_at limits r.0.shards p)
  step-fit place model w f call _ did_refuse = f
  step-fit place model w f call _ (did_repeat h z) = f
  step-fit place model w f call _ (did_mint {p = p} h) =
      at_one limits place model w (Fit limits) p _ h.receiver_fits (mint-fit limits sized p (ledger_at limits model.shards p) (f p) h) (λ q n. f q)
  step-fit place model w f call _ (did_register {p = p} h) =
      at_one limits place model w (Fit limits) p _ h.form.receiver_fits
      (register-fit limits sized p (ledger_at limits model.shards p) (f p) h) (λ q n. f q)
  step-fit place model w f call _ (did_turn {p = p} h) =
      at_one limits place model w (Fit limits) p _ h.receiver_fits (turn-fit limits sized p (ledger_at limits model.shards p) (f p)) (λ q n. f q)
  step-fit place model w f call _ (did_hear {p = p} h g z) =
      at_one limits place model w (Fit limits) p _ h.passes.form.receiver_fits
      (vote-fit limits sized p (ledger_at limits model.shards p) (f p) h z) (λ q n. f q)

  -- every shard of every play keeps its limits
  pub play-fit : (calls : List Call) (p : ℕ) → Fit limits p (ledger_at limits (play limits calls).shards p)
  play-fit =
      play-keeps limits (λ model. (p : ℕ) → Fit limits p (ledger_at limits model.shards p)) step-fit
      (λ p. subst (Fit limits p) (sym (get_or-same 8 (empty_ledger limits) p)) (empty-fit limits p))

  -- held tokens plus reserved outputs never pass the limit
  pub never_passes : (calls : List Call) (p : ℕ)
      → length (ledger_at limits (play limits calls).shards p).tokens + reserved p (ledger_at limits (play limits calls).shards p).known ≤ limits.tokens
  never_passes calls p = (play-fit calls p).token-room
