-- Document 02, 2, about every list of calls. What a pledge names is known at its shard. What a shard reports are the findings of the registration, and
-- each is its token's true state right before it.
use Prim.Native.Nat.{ℕ, suc, ◌≤◌}
use native.Mathlib.Omega.{arith}
use mathlib.Core.Path.{◌≡◌, refl, ap, sym, ◌∙◌, subst}
use mathlib.Core.Logic.{◌↔◌, ◌≢◌, ◌⊎◌, inl, inr, ⊎_elim}
use mathlib.Core.Bool.{Bool, true, false}
use mathlib.Core.Option.{Option, none, some}
use mathlib.Core.List.Memᴰ
use mathlib.Core.List.{List, [], ◌∷◌, ◌++◌, append-nil, append_assoc, Memᴰ}
use lib.Dec.{eqb}
use lib.ListN.{length, take}
use Rattle.transaction.specs.declared.Input.{Input}
use Rattle.transaction.specs.declared.Transaction.{Transaction}
use Rattle.transaction.specs.Lists.{any, first_of}
use Rattle.model.specs.declared.Token.{Token}
use Rattle.model.specs.declared.Finding.{Finding}
use Rattle.model.specs.declared.Finding.TheVariants.{Pledged}
use Rattle.model.specs.declared.Known.{Known}
use Rattle.model.specs.declared.Outcome.{Outcome}
use Rattle.model.specs.declared.Findings.{Findings}
use Rattle.model.specs.Answers.{Answer, Report, registers, finding_number, pledging_number, told_count}
use Rattle.model.specs.Steps.{
  Limits,
  Ledger,
  empty_ledger,
  genesis_token,
  inputs_here,
  names,
  available,
  available_here,
  findings,
  keeping,
  named_in,
  pledges,
  vote,
  newly_known,
  heard_from,
  hearing,
  outcome_of,
  settle,
  concluded,
  is_for,
  nothing_known,
  place_of,
  entry_of,
  after_mint,
  after_register,
  after_vote,
  pledged_to_aborted,
  after_turn,
}
use Rattle.model.specs.Shard.{Call, mint, register, deliver, turn, is_numbered}
use Rattle.model.specs.Cluster.{ledger_at}
use Rattle.model.specs.Model.{Entry, Model, empty_model, note_if, entry_for, log_after, step, after, play}
use Rattle.model.specs.Demand.{has_spot, token_at}
use Rattle.model.specs.Findings.{
  State,
  is-available,
  is-not-held,
  has_other_owner,
  has_other_amount,
  is-pledged,
  States,
  no_more,
  and_more,
  Knows,
  numbered,
  report_refusals,
  told,
  reported,
  report_at,
  TrueFindings,
}
use Rattle.model.proofs.Basics.{eqb-eq, eqb_apart, Case, yes-case, no-case, case, or_else, some≢none, all_of, find_at, get_or-same}
use Rattle.model.proofs.Lookups.{lookup-mem, lookup-append}
use Rattle.model.proofs.Entries.{look, look-number, mem-look, look-put-same, append-put, number-unknown}
use Rattle.model.proofs.Holdings.{mem_tok}
use Rattle.model.proofs.Invariant.{Pledged as PledgedTo}
use Rattle.model.proofs.Local.{available-here, yes-finds}
use Rattle.model.proofs.Refusals.{RegisterPasses, brought-registers, brought-hears}
use Rattle.model.proofs.Effects.{Effect, did_refuse, did_mint, did_register, did_hear, did_repeat, did_turn, Effects, did_one, did_bring, effect}
use Rattle.model.proofs.Steps.{Inv, Grows, at_one, step-next, Keeps, play-keeps, play-inv}
use Rattle.model.proofs.Capacity.{mem-set}
use Rattle.model.proofs.Laws.{after-append}
use Rattle.model.proofs.Turned.{when_back, freeing-back, settle-back, ended-back}
use Rattle.std.specs.Prelude.{Some, Ok}
use Rattle.model.proofs.Reported.{refused_by, vote-findings, findings-length, few-inputs, kept_back, findings-states, report-number, report-told, told-known}

-- ---- What a pledge names is known

-- a transaction of that number is known
abbrev Entered : List Known → ℕ → Type 0
Entered known n = (k : Known) × (look known n ≡ some k)

-- each pledge is to a known transaction
abbrev PledgesKnown : Ledger → Type 0
PledgesKnown l = (m i n : ℕ) → n ≢ 0 → PledgedTo l.tokens m i n → Entered l.known n

-- a pledge of the second ledger was there in the first, or is to a transaction that the second knows
abbrev Backs : Ledger → Ledger → Type 0
Backs l l' = (m i n : ℕ) → n ≢ 0 → PledgedTo l'.tokens m i n → PledgedTo l.tokens m i n ⊎ Entered l'.known n

-- a pledge was there before a decision
concluded-back : (turned : Bool) (o : Outcome) (p : ℕ) (t : Transaction) (tokens : List Token) (m i n : ℕ) → n ≢ 0
    → PledgedTo (concluded turned o p t tokens) m i n → PledgedTo tokens m i n
concluded-back turned o p t tokens m i n positive b =
    settle-back o p t tokens m i n positive (ended-back turned o t.number (settle o p t tokens) m i n positive b)

-- an opening pledges nothing
mint_backs : (l : Ledger) (index owner amount : ℕ) → Backs l (after_mint l index owner amount)
unfolding after_mint
mint_backs l index owner amount m i n positive b =
    go (token_at l.tokens m i) refl (sym (lookup-append (has_spot m i) l.tokens (new ∷ [])) ∙ b.is-there)
  where
    new : Token
    new = genesis_token index owner amount

    go : (o : Option Token) → token_at l.tokens m i ≡ o → or_else o (token_at (new ∷ []) m i) ≡ some b.token
        → PledgedTo l.tokens m i n ⊎ Entered l.known n
    go (some token) e q = inl (record { token = b.token; is-there = e ∙ q; is-pledged = b.is-pledged })
    go none e q =
        let is-new = Memᴰ.eq_of_singleton (lookup-mem (has_spot m i) (new ∷ []) q) in
        absurd (positive (sym b.is-pledged ∙ ap (λ (token : Token). token.pledge) is-new))

-- a registration pledges to its own transaction, which is known then
register_backs : (p : ℕ) (l : Ledger) (t : Transaction) → look l.known t.number ≡ none → Backs l (after_register p l t)
unfolding after_register pledges newly_known
register_backs p l t unknown m i n positive b = go (case (eqb n t.number))
  where
    k : Known
    k = newly_known p l.tokens t

    go : Case (eqb n t.number) → PledgedTo l.tokens m i n ⊎ Entered (l.known ++ (k ∷ [])) n
    go (yes-case y) =
        inr (k, ap (λ (known : List Known). look known n) (append-put k l.known unknown) ∙ look-put-same k l.known (sym (eqb-eq n t.number y)))
    go (no-case y) =
        let here = available_here p l.tokens t in
        let pledged = pledges t.number here l.tokens in
        inl (when_back t.number (named_in here) l.tokens m i n (eqb_apart y)
        (concluded-back l.turned (outcome_of k) p t pledged m i n positive b))

-- a vote pledges nothing
vote_backs : (p : ℕ) (l : Ledger) (sender verdict : ℕ) (t : Transaction) → Backs l (after_vote p l sender verdict t)
unfolding after_vote
vote_backs p l sender verdict t m i n positive b =
    let k = hearing sender verdict (entry_of t l.known) in
    inl (concluded-back l.turned (outcome_of k) p k.transaction l.tokens m i n positive b)

-- nor does a turn
turn_backs : (l : Ledger) → Backs l (after_turn l)
unfolding after_turn
turn_backs l m i n positive b =
    let r = freeing-back (pledged_to_aborted l.known) l.tokens m i n positive b in
    inl (record { token = r.0; is-there = r.1; is-pledged = r.2 })

-- where nothing changes
backs_refl : (l : Ledger) → Backs l l
backs_refl l m i n positive b = inl b

module _ (limits : Limits) where
  -- from the shard's ledger in the model
  abbrev BacksFrom : Model → ℕ → Ledger → Type 0
  BacksFrom model p l = Backs (ledger_at limits model.shards p) l

  -- by cases on what a call did
  step_backs : (place : ℕ) (model : Model) → Inv limits model → (call : Call) (r : Model × Answer) → Effect limits place model call r
      → (p : ℕ) → BacksFrom model p (ledger_at limits r.0.shards p)
  step_backs place model w call _ did_refuse = λ q. backs_refl (ledger_at limits model.shards q)
  step_backs place model w call _ (did_repeat h z) = λ q. backs_refl (ledger_at limits model.shards q)
  step_backs place model w call _ (did_mint {p = p} h) =
      at_one limits place model w (BacksFrom model) p _ h.receiver_fits
      (mint_backs (ledger_at limits model.shards p) _ _ _) (λ q n. backs_refl (ledger_at limits model.shards q))
  step_backs place model w call _ (did_register {p = p} {t = t} h) =
      let ledger = ledger_at limits model.shards p in
      at_one limits place model w (BacksFrom model) p _ h.form.receiver_fits
      (register_backs p ledger t (number-unknown t ledger.known h.no_other h.unknown)) (λ q n. backs_refl (ledger_at limits model.shards q))
  step_backs place model w call _ (did_hear {p = p} {sender = q} {verdict = v} {t = t} h g z) =
      at_one limits place model w (BacksFrom model) p _ h.passes.form.receiver_fits
      (vote_backs p (ledger_at limits model.shards p) q v t) (λ q n. backs_refl (ledger_at limits model.shards q))
  step_backs place model w call _ (did_turn {p = p} h) =
      at_one limits place model w (BacksFrom model) p _ h.receiver_fits
      (turn_backs (ledger_at limits model.shards p)) (λ q n. backs_refl (ledger_at limits model.shards q))

  -- so each pledge stays one to a known transaction
  keeps-pledges : Keeps limits (λ model. (p : ℕ) → PledgesKnown (ledger_at limits model.shards p))
  unfolding Grows
  keeps-pledges place model w f call r e p m i n positive b =
      ⊎_elim (λ a. let old = f p m i n positive a in let new = (step-next limits place model w call r e).grows p n old.0 old.1 in (new.0, new.1))
      (λ a. a) (step_backs place model w call r e p m i n positive b)

  -- of every play
  play-pledges : (calls : List Call) (p : ℕ) → PledgesKnown (ledger_at limits (play limits calls).shards p)
  play-pledges =
      play-keeps limits (λ model. (p : ℕ) → PledgesKnown (ledger_at limits model.shards p)) keeps-pledges
      (λ p. subst PledgesKnown (sym (get_or-same 8 (empty_ledger limits) p)) (λ m i n z b. some≢none b.is-there refl))

  -- in every play, the transaction that a held token is pledged to is known at its shard
  pub pledge_known : (calls : List Call) (p : ℕ) → let ledger = ledger_at limits (play limits calls).shards p in
      (token : Token) → Memᴰ token ledger.tokens → token.pledge ≢ 0 → Knows ledger.known token.pledge
  pledge_known calls p token m positive =
      let ledger = ledger_at limits (play limits calls).shards p in
      let there = mem_tok ledger.tokens ((play-inv limits calls).at p).no_twice m in
      let k = play-pledges calls p token.creator token.index token.pledge positive
      (record { token = token; is-there = there; is-pledged = refl }) in
      record {
        entry = k.0;
        is_known = lookup-mem (is_numbered token.pledge) ledger.known k.1;
        has-number = look-number ledger.known token.pledge k.1;
      }

-- ---- Where a known transaction and its findings come from

-- known before, with these findings
record WasKnown (known : List Known) (t : Transaction) (found : List Finding) : Type 0 where
  entry : Known
  is_known : Memᴰ entry known
  same-transaction : entry.transaction ≡ t
  same-findings : entry.findings ≡ found

-- registered by the call at that place, on these ledgers, with these findings
record Taken (limits : Limits) (place : ℕ) (shards : List Ledger) (log : List Entry) (p : ℕ) (t : Transaction) (found : List Finding) : Type 0 where
  logged : Memᴰ (entry_for limits place shards p t) log
  kept : found ≡ keeping (findings p (ledger_at limits shards p).tokens t)
  few : length (inputs_here p t) ≤ 4

-- what holds of a known transaction and its findings before holds after
carried : {known : List Known} {t : Transaction} {found : List Finding} (P : Transaction → List Finding → Type 0) (b : WasKnown known t found)
    → P b.entry.transaction b.entry.findings → P t found
carried {t = t} P b h = subst (P t) b.same-findings (subst (λ (s : Transaction). P s b.entry.findings) b.same-transaction h)

-- what is known still is
still : {known : List Known} {k : Known} → Memᴰ k known → WasKnown known k.transaction k.findings
still {k = k} m = record { entry = k; is_known = m; same-transaction = refl; same-findings = refl }

-- a vote changes neither a transaction nor its findings
vote_was : (p : ℕ) (l : Ledger) (sender verdict : ℕ) (t : Transaction) → any (is_for t) l.known ≡ true
    → (k : Known) → Memᴰ k (after_vote p l sender verdict t).known → WasKnown l.known k.transaction k.findings
unfolding after_vote entry_of place_of
vote_was p l sender verdict t known k m =
    let j = entry_of t l.known in
    ⊎_elim (λ e. subst (λ (k : Known). WasKnown l.known k.transaction k.findings) (sym e)
    (record { entry = j; is_known = (find_at (is_for t) l.known nothing_known known).0; same-transaction = refl; same-findings = refl }))
    still (mem-set l.known (place_of t l.known) (hearing sender verdict j) m)

-- a note more takes none away
noted_more : {A : Type 0} (noted : Bool) (note : A) {a : A} {notes : List A} → Memᴰ a notes → Memᴰ a (note_if noted note notes)
noted_more true note m = Memᴰ.tail m
noted_more false note m = m

module _ (limits : Limits) (place : ℕ) (model : Model) where
  -- a shard's ledger
  abbrev at : ℕ → Ledger
  at p = ledger_at limits model.shards p

  -- what the shard knows in that ledger it knew before the call, or the call has registered it
  abbrev Comes : List Entry → ℕ → Ledger → Type 0
  Comes log p l = (k : Known) → Memᴰ k l.known
      → WasKnown (at p).known k.transaction k.findings ⊎ Taken limits place model.shards log p k.transaction k.findings

  -- a registration
  register_comes : (p : ℕ) (t : Transaction) → RegisterPasses limits p (at p) p t
      → Comes (entry_for limits place model.shards p t ∷ model.log) p (after_register p (at p) t)
  unfolding after_register newly_known
  register_comes p t h k m =
      let log : List Entry = entry_for limits place model.shards p t ∷ model.log in
      ⊎_elim (λ d. inl (still d))
      (λ d. inr (subst (λ (k : Known). Taken limits place model.shards log p k.transaction k.findings) (sym (Memᴰ.eq_of_singleton d))
      (record { logged = Memᴰ.head refl; kept = refl; few = few-inputs limits.genesis p t h.form.fields })))
      (Memᴰ.append_cases (at p).known m)

  -- by cases on what the call did
  step_comes : Inv limits model → (call : Call) (r : Model × Answer) → Effects limits place model call r
      → (p : ℕ) → Comes r.0.log p (ledger_at limits r.0.shards p)
  step_comes w call _ (did_one did_refuse) = λ q k m. inl (still m)
  step_comes w call _ (did_one (did_repeat h z)) = λ q k m. inl (still m)
  step_comes w call _ (did_one (did_mint {p = p} h)) =
      at_one limits place model w (Comes model.log) p _ h.receiver_fits (unfold after_mint in λ k m. inl (still m)) (λ q n k m. inl (still m))
  step_comes w call _ (did_one (did_turn {p = p} h)) =
      at_one limits place model w (Comes model.log) p _ h.receiver_fits (unfold after_turn in λ k m. inl (still m)) (λ q n k m. inl (still m))
  step_comes w call _ (did_one (did_hear {p = p} {sender = q} {verdict = v} {t = t} h g z)) =
      at_one limits place model w (Comes model.log) p _ h.passes.form.receiver_fits
      (λ k m. inl (vote_was p (at p) q v t h.is_known k m)) (λ q n k m. inl (still m))
  step_comes w call _ (did_one (did_register {p = p} {t = t} h)) =
      at_one limits place model w (Comes (entry_for limits place model.shards p t ∷ model.log)) p _ h.form.receiver_fits
      (register_comes p t h) (λ q n k m. inl (still m))
  step_comes w call _ (did_bring {p = p} {sender = q} {verdict = v} {t = t} h g) =
      let log : List Entry = entry_for limits place model.shards p t ∷ model.log in
      at_one limits place model w (Comes log) p _ h.passes.form.receiver_fits
      (λ k m.
      let b = vote_was p (after_register p (at p) t) q v t (brought-hears h).is_known k m in
      carried (λ t found. WasKnown (at p).known t found ⊎ Taken limits place model.shards log p t found) b
      (register_comes p t (brought-registers h) b.entry b.is_known))
      (λ q n k m. inl (still m))

  -- the log only grows
  log-more : (call : Call) (answer : Answer) {e : Entry} → Memᴰ e model.log → Memᴰ e (log_after limits place model call answer)
  unfolding log_after
  log-more (mint p index owner amount) answer m = m
  log-more (turn p) answer m = m
  log-more (register p t) answer m = noted_more (registers answer) (entry_for limits place model.shards p t) m
  log-more (deliver p sender verdict t) answer m = noted_more (registers answer) (entry_for limits place model.shards p t) m

-- what holds of no call, and of one more behind those of which it holds, holds of every list
each_list : (P : List Call → Type 0) → P [] → ((calls : List Call) (call : Call) → P calls → P (calls ++ (call ∷ []))) → (calls : List Call) → P calls
each_list P first more calls = go [] calls first
  where
    go : (done rest : List Call) → P done → P (done ++ rest)
    go done [] h = subst P (sym (append-nil done)) h
    go done (call ∷ rest) h = subst P (append_assoc done (call ∷ []) rest) (go (done ++ (call ∷ [])) rest (more done call h))

-- registered by one of the calls, with these findings
record Registered (limits : Limits) (calls : List Call) (p : ℕ) (t : Transaction) (found : List Finding) : Type 0 where
  before : List Call
  call : Call
  later : List Call
  split : calls ≡ before ++ (call ∷ later)
  taken : Taken limits (suc (length before)) (play limits before).shards (play limits calls).log p t found

module _ (limits : Limits) where
  -- one call more
  play-more : (calls : List Call) (call : Call) → play limits (calls ++ (call ∷ [])) ≡ (step limits (suc (length calls)) (play limits calls) call).0
  unfolding play after
  play-more calls call =
      after-append limits 1 (empty_model limits) calls (call ∷ [])
      ∙ ap (λ (place : ℕ). (step limits place (after limits 1 (empty_model limits) calls) call).0) (omega arith)

  -- what every shard knows was registered by one of the calls
  abbrev AllRegistered : List Call → Type 0
  AllRegistered calls = (p : ℕ) (k : Known) → Memᴰ k (ledger_at limits (play limits calls).shards p).known
      → Registered limits calls p k.transaction k.findings

  -- and still is, one call later
  registered-more : (calls : List Call) (call : Call) {p : ℕ} {t : Transaction} {found : List Finding}
      → Registered limits calls p t found → Registered limits (calls ++ (call ∷ [])) p t found
  unfolding step
  registered-more calls call {p} {t} r =
      let place = suc (length calls) in
      let model = play limits calls in
      let e = entry_for limits (suc (length r.before)) (play limits r.before).shards p t in
      record {
        before = r.before;
        call = r.call;
        later = r.later ++ (call ∷ []);
        split = ap (λ (l : List Call). l ++ (call ∷ [])) r.split ∙ append_assoc r.before (r.call ∷ r.later) (call ∷ []);
        taken = record {
          logged = subst (λ (m : Model). Memᴰ e m.log) (sym (play-more calls call))
              (log-more limits place model call (step limits place model call).1 r.taken.logged);
          kept = r.taken.kept;
          few = r.taken.few;
        };
      }

  -- in every play
  play-registered : (calls : List Call) → AllRegistered calls
  play-registered = each_list AllRegistered
      (unfold play after in λ p k m. elim (subst (λ (l : Ledger). Memᴰ k l.known) (get_or-same 8 (empty_ledger limits) p) m) [ ])
      (λ calls call h p k m.
      let place = suc (length calls) in
      let model = play limits calls in
      let r = step limits place model call in
      let known = subst (λ (m : Model). Memᴰ k (ledger_at limits m.shards p).known) (play-more calls call) m in
      ⊎_elim
      (λ b. registered-more calls call (carried (Registered limits calls p) b (h p b.entry b.is_known)))
      (λ t. record {
        before = calls;
        call = call;
        later = [];
        split = refl;
        taken = subst (λ (m : Model). Taken limits place model.shards m.log p k.transaction k.findings) (sym (play-more calls call)) t;
      })
      (step_comes limits place model (play-inv limits calls) call r (effect limits place model call) p k known))

-- ---- Every list of calls

-- where a finding is 'pledged', a token is held that is pledged to the number that it names
pledge_held : {tokens : List Token} {inputs : List Input} {found : List Finding} → States tokens inputs found → (n : ℕ) → Memᴰ (Pledged n) found
    → (token : Token) × Memᴰ token tokens × (token.pledge ≡ n) × (token.pledge ≢ 0)
pledge_held no_more n m = elim m [ ]
pledge_held (and_more state more) n (Memᴰ.tail m) = pledge_held more n m
pledge_held {tokens} (and_more state more) n (Memᴰ.head e) = go state e
  where
    go : {x : Input} {one : Finding} → State tokens x one → Pledged n ≡ one
        → (token : Token) × Memᴰ token tokens × (token.pledge ≡ n) × (token.pledge ≢ 0)
    go (is-available token there owner amount free) e = absurd (eqb_apart {m = 5} {n = 1} refl (ap finding_number e))
    go (is-not-held there) e = absurd (eqb_apart {m = 5} {n = 2} refl (ap finding_number e))
    go (has_other_owner token there owner) e = absurd (eqb_apart {m = 5} {n = 3} refl (ap finding_number e))
    go (has_other_amount token there owner amount) e = absurd (eqb_apart {m = 5} {n = 4} refl (ap finding_number e))
    go {x = x} (is-pledged token there owner amount bound) e = (token, lookup-mem (names x) tokens there, sym (ap pledging_number e), bound)

module _ (limits : Limits) (calls : List Call) (p : ℕ) (k : Known) (known : Memᴰ k (ledger_at limits (play limits calls).shards p).known) where
  -- its registration
  abbrev registration : Registered limits calls p k.transaction k.findings
  registration = play-registered limits calls p k known

  -- the tokens right before it, and what was found
  abbrev held : List Token
  held = (ledger_at limits (play limits registration.before).shards p).tokens

  abbrev found_before : List Finding
  found_before = findings p held k.transaction

  -- what is told of it is what was found
  told-found : reported (Ok (told p k)) ≡ found_before
  told-found =
      let count = findings-length p held k.transaction in
      (λ i. take (sym count i) (registration.taken.kept i))
      ∙ kept_back found_before (let few = registration.taken.few in omega arith)

  -- the own vote that is heard is the one of the registration
  own-heard : (heard_from p k ≡ Some true) ↔ (vote p held k.transaction ≡ true)
  unfolding vote
  own-heard =
      let t = k.transaction in
      let w = play-inv limits calls in
      let core = (w.at p).core in
      let here = mem-look (ledger_at limits (play limits calls).shards p).known core.one_each known in
      let own = core.votes t.number k here p (core.own t.number k here) in
      let logged = entry_for limits (suc (length registration.before)) (play limits registration.before).shards p t in
      let same : own.entry ≡ logged = w.logged.unique own.entry logged own.logged registration.taken.logged own.at own.of in
      let says = subst (λ (e : Entry). (heard_from p k ≡ Some true) ↔ ((x : Input) → Memᴰ x (inputs_here p t) → Memᴰ x e.available)) same own.says in (
        λ two. all_of (available held) (inputs_here p t) (λ x m. ((available-here p held t x).0 (says.0 two x m)).1),
        λ yes-here. says.1 (yes-finds p held t yes-here),
      )

  -- what was found is true
  found_true : (number : ℕ) → k.transaction.number ≡ number → TrueFindings limits calls p number found_before
  found_true number is_number =
      let t = k.transaction in
      let states = findings-states p held t ((play-inv limits registration.before).at p).no_twice in
      let All-there = vote-findings p held t in
      record {
        knows = record { entry = k; is_known = known; has-number = is_number };
        before = registration.before;
        call = registration.call;
        later = registration.later;
        split = registration.split;
        logged = registration.taken.logged;
        states = states;
        own-vote = (λ two. All-there ∙ own-heard.0 two, λ each. own-heard.1 (sym All-there ∙ each));
        pledging = λ pledge m.
            let r = pledge_held states pledge m in
            subst (Knows (ledger_at limits (play limits registration.before).shards p).known) r.2
            (pledge_known limits registration.before p r.0 r.1 r.3);
      }

module _ (limits : Limits) (calls : List Call) (p number : ℕ) (found : Findings) where
  -- what the shard answers after the calls
  abbrev asked : Report
  asked = report_at limits (play limits calls).shards p number

  module _ (answered : asked ≡ Ok found) where
    -- the shard's ledger, and the transaction that is asked for
    abbrev ledger : Ledger
    ledger = ledger_at limits (play limits calls).shards p

    abbrev entry : Known
    entry = numbered number ledger.known

    -- no test refuses the call, so it is known
    passes : first_of (report_refusals p ledger p number) ≡ Ok tt
    passes = sym (report-number p ledger p number) ∙ ap refused_by answered

    known : Memᴰ entry ledger.known
    known = (told-known p ledger p number passes).0

    -- it reports what was found
    reports : reported asked ≡ found_before limits calls p entry known
    reports = ap reported (report-told p ledger p number passes) ∙ told-found limits calls p entry known

    -- as many findings as it says
    pub reported-count : length (reported asked) ≡ found.count
    reported-count =
        ap length reports ∙ findings-length p (held limits calls p entry known) entry.transaction
        ∙ ap told_count (sym (report-told p ledger p number passes)) ∙ ap told_count answered

    -- and each of them is true
    pub true_findings : TrueFindings limits calls p number (reported asked)
    true_findings =
        subst (TrueFindings limits calls p number) (sym reports)
        (found_true limits calls p entry known number (told-known p ledger p number passes).1)
