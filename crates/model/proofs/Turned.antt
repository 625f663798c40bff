-- Document 02, 4. A turn changes no token but its pledge, and an unturned shard's steps are document 01's. At a turned shard no token is pledged to
-- a transaction that the shard has aborted: turning frees those that are, each later abort frees its own, and a turned shard stays so.
use Prim.Native.Nat.{ℕ}
use mathlib.Core.Path.{◌≡◌, refl, ap, sym, ◌∙◌, subst}
use mathlib.Core.Logic.{◌≢◌}
use mathlib.Core.Bool.{Bool, true, false, cond, true≢false}
use mathlib.Core.Option.{Option, none, some}
use mathlib.Core.List.{List, [], ◌∷◌, ◌++◌, map, Memᴰ}
use lib.Dec.{eqb}
use lib.ListN.{set}
use Rattle.transaction.specs.declared.Transaction.{Transaction}
use Rattle.transaction.specs.Lists.{any}
use Rattle.model.specs.declared.Token.{Token}
use Rattle.model.specs.declared.Known.{Known}
use Rattle.model.specs.declared.Outcome.{Outcome}
use Rattle.model.specs.declared.Outcome.TheVariants.{Wait, Commit, Abort}
use Rattle.model.specs.Answers.{Answer}
use Rattle.model.specs.declared.Done.TheVariants.{Heard}
use Rattle.model.specs.Lists.{find, map_option}
use Rattle.model.specs.Steps.{
  Limits,
  Ledger,
  empty_ledger,
  holding,
  available_here,
  pledged_to,
  pledge_when,
  named_in,
  pledges,
  vote,
  findings,
  keeping,
  known_with,
  newly_known,
  heard_from,
  hearing,
  outcome_of,
  made_here,
  settle,
  is_aborted,
  is_pledged_to,
  freeing,
  ended,
  concluded,
  is_for,
  place_of,
  entry_of,
  after_mint,
  after_register,
  after_vote,
  is_aborted_for,
  pledged_to_aborted,
  after_turn,
}
use Rattle.model.specs.Shard.{Call, hear}
use Rattle.model.specs.Cluster.{ledger_at}
use Rattle.model.specs.Model.{Entry, Model, play}
use Rattle.model.specs.Demand.{Value, token_at}
use Rattle.model.proofs.Basics.{
  eqb-eq,
  eqb_yes,
  eqb_no,
  eqb_apart,
  and_intro,
  any_of,
  Case,
  yes-case,
  no-case,
  case,
  or_else,
  some≢none,
  some_inj,
  get_or-same,
}
use Rattle.model.proofs.Lookups.{lookup-mem}
use Rattle.model.proofs.Entries.{
  numbered,
  look,
  look-number,
  put,
  look-put-same,
  look-put-other,
  append-put,
  set-put,
  number-unknown,
  entry-look,
  mem-look,
}
use Rattle.model.proofs.Holdings.{taken, mem_tok, tok_when, made_unpledged, tok_commit}
use Rattle.model.proofs.Invariant.{Pledged, Aborted, Ok}
use Rattle.model.proofs.Refusals.{number-positive}
use Rattle.model.proofs.Effects.{Effect, did_refuse, did_mint, did_register, did_hear, did_repeat, did_turn}
use Rattle.model.proofs.Steps.{Inv, play-inv, at_one, play-keeps, play-longer}
use Rattle.model.proofs.OneNo.{late-vote}
use Rattle.std.specs.Prelude.{None, Ok as carried}

-- ---- What turning leaves as it was

-- freeing changes no token but its pledge: with the pledges left out, the tokens are the same, in the same order
freeing-same : (f : Token → Bool) (tokens : List Token) → map (pledged_to 0) (freeing f tokens) ≡ map (pledged_to 0) tokens
unfolding freeing
freeing-same f [] = refl
freeing-same f (t ∷ tokens) = λ i. one (f t) i ∷ freeing-same f tokens i
  where
    one : (b : Bool) → pledged_to 0 (cond b (pledged_to 0 t) t) ≡ pledged_to 0 t
    one true = refl
    one false = refl

-- turning changes no token but its pledge
pub turn-same : (ledger : Ledger) → map (pledged_to 0) (after_turn ledger).tokens ≡ map (pledged_to 0) ledger.tokens
unfolding after_turn
turn-same ledger = freeing-same (pledged_to_aborted ledger.known) ledger.tokens

-- and nothing else that the shard notes, but that it has turned
pub turn_notes : (ledger : Ledger) → ((after_turn ledger).given ≡ ledger.given)
    × ((after_turn ledger).known ≡ ledger.known) × ((after_turn ledger).turned ≡ true)
unfolding after_turn
turn_notes ledger = (refl, refl, refl)

-- where the test holds of no token, nothing is freed
pub freeing-none : (f : Token → Bool) (tokens : List Token) → ((t : Token) → Memᴰ t tokens → f t ≡ false) → freeing f tokens ≡ tokens
unfolding freeing
freeing-none f [] h = refl
freeing-none f (t ∷ tokens) h =
    λ i. cond (h t (Memᴰ.head refl) i) (pledged_to 0 t) t ∷ freeing-none f tokens (λ u m. h u (Memᴰ.tail m)) i

-- ---- An unturned shard behaves as before: its steps are document 01's

-- no outcome frees a token
unturned-ended : (turned : Bool) (o : Outcome) (number : ℕ) (tokens : List Token) → turned ≡ false → ended turned o number tokens ≡ tokens
unturned-ended turned Wait number tokens e = refl
unturned-ended turned Commit number tokens e = refl
unturned-ended turned Abort number tokens e = ap (λ (b : Bool). cond b (freeing (is_pledged_to number) tokens) tokens) e

-- a registration
pub unturned-register : (me : ℕ) (ledger : Ledger) (t : Transaction) → ledger.turned ≡ false
    → let k = newly_known me ledger.tokens t in
    let tokens = pledges t.number (available_here me ledger.tokens t) ledger.tokens in
    after_register me ledger t ≡ holding ledger (settle (outcome_of k) me t tokens) (ledger.known ++ (k ∷ []))
unfolding after_register
unturned-register me ledger t e =
    let k = newly_known me ledger.tokens t in
    let tokens = pledges t.number (available_here me ledger.tokens t) ledger.tokens in
    ap (λ (l : List Token). holding ledger l (ledger.known ++ (k ∷ [])))
    (unturned-ended ledger.turned (outcome_of k) t.number (settle (outcome_of k) me t tokens) e)

-- a fresh vote
pub unturned-vote : (me : ℕ) (ledger : Ledger) (sender verdict : ℕ) (t : Transaction) → ledger.turned ≡ false
    → let k = hearing sender verdict (entry_of t ledger.known) in
    after_vote me ledger sender verdict t
    ≡ holding ledger (settle (outcome_of k) me k.transaction ledger.tokens) (set ledger.known (place_of t ledger.known) k)
unfolding after_vote
unturned-vote me ledger sender verdict t e =
    let k = hearing sender verdict (entry_of t ledger.known) in
    ap (λ (l : List Token). holding ledger l (set ledger.known (place_of t ledger.known) k))
    (unturned-ended ledger.turned (outcome_of k) k.transaction.number (settle (outcome_of k) me k.transaction ledger.tokens) e)

-- ---- Where a pledge comes from

-- a pledge to another number was there before a change of pledges
pub when_back : (n : ℕ) (f : Token → Bool) (tokens : List Token) (m i c : ℕ) → (c ≡ n → ⊥) → Pledged (map (pledge_when n f) tokens) m i c → Pledged tokens m i c
when_back n f tokens m i c apart b = go (token_at tokens m i) refl (sym (tok_when n f tokens m i) ∙ b.is-there)
  where
    go : (o : Option Token) → token_at tokens m i ≡ o → map_option (pledge_when n f) o ≡ some b.token → Pledged tokens m i c
    go none e q = some≢none q refl
    go (some t) e q = cut (f t) (some_inj q)
      where
        cut : (a : Bool) → cond a (pledged_to n t) t ≡ b.token → Pledged tokens m i c
        cut true z = absurd (apart (sym b.is-pledged ∙ sym (ap (λ (u : Token). u.pledge) z)))
        cut false z = record { token = t; is-there = e; is-pledged = ap (λ (u : Token). u.pledge) z ∙ b.is-pledged }

-- a token that is still pledged was not freed
pub freeing-back : (f : Token → Bool) (tokens : List Token) (m i c : ℕ) → (c ≡ 0 → ⊥) → Pledged (freeing f tokens) m i c
    → (t : Token) × (token_at tokens m i ≡ some t) × (t.pledge ≡ c) × (f t ≡ false)
unfolding freeing
freeing-back f tokens m i c positive b = go (token_at tokens m i) refl (sym (tok_when 0 f tokens m i) ∙ b.is-there)
  where
    Before : Type 0
    Before = (t : Token) × (token_at tokens m i ≡ some t) × (t.pledge ≡ c) × (f t ≡ false)

    go : (o : Option Token) → token_at tokens m i ≡ o → map_option (pledge_when 0 f) o ≡ some b.token → Before
    go none e q = some≢none q refl
    go (some t) e q = cut (f t) refl (some_inj q)
      where
        cut : (a : Bool) → f t ≡ a → cond a (pledged_to 0 t) t ≡ b.token → Before
        cut true y z = absurd (positive (sym b.is-pledged ∙ sym (ap (λ (u : Token). u.pledge) z)))
        cut false y z = (t, e, ap (λ (u : Token). u.pledge) z ∙ b.is-pledged, y)

-- a pledge was there before the outcome
pub settle-back : (o : Outcome) (p : ℕ) (t : Transaction) (tokens : List Token) (m i c : ℕ) → (c ≡ 0 → ⊥)
    → Pledged (settle o p t tokens) m i c → Pledged tokens m i c
settle-back Wait p t tokens m i c positive b = b
settle-back Abort p t tokens m i c positive b = b
settle-back Commit p t tokens m i c positive b = go (taken p t m i) (token_at tokens m i) refl (sym (tok_commit p t tokens m i) ∙ b.is-there)
  where
    late : token_at (made_here p t) m i ≡ some b.token → Pledged tokens m i c
    late e = absurd (positive (sym b.is-pledged ∙ made_unpledged p t m i e))

    go : (a : Bool) (o : Option Token) → token_at tokens m i ≡ o → or_else (cond a none o) (token_at (made_here p t) m i) ≡ some b.token → Pledged tokens m i c
    go true o e q = late q
    go false none e q = late q
    go false (some u) e q = record { token = b.token; is-there = e ∙ q; is-pledged = b.is-pledged }

-- and before the end of pledges
pub ended-back : (turned : Bool) (o : Outcome) (number : ℕ) (tokens : List Token) (m i c : ℕ) → (c ≡ 0 → ⊥)
    → Pledged (ended turned o number tokens) m i c → Pledged tokens m i c
ended-back turned Wait number tokens m i c positive b = b
ended-back turned Commit number tokens m i c positive b = b
ended-back false Abort number tokens m i c positive b = b
ended-back true Abort number tokens m i c positive b =
    let r = freeing-back (is_pledged_to number) tokens m i c positive b in
    record { token = r.0; is-there = r.1; is-pledged = r.2 }

-- an abort at a turned shard leaves no pledge to its number
ended_clear : (o : Outcome) (number : ℕ) (tokens : List Token) (m i : ℕ) → o ≡ Abort → (number ≡ 0 → ⊥)
    → Pledged (ended true o number tokens) m i number → ⊥
ended_clear o number tokens m i e positive b =
    let freed : Pledged (freeing (is_pledged_to number) tokens) m i number =
    subst (λ (a : Outcome). Pledged (ended true a number tokens) m i number) e b in
    let r = freeing-back (is_pledged_to number) tokens m i number positive freed in
    eqb_apart {m = r.0.pledge} {n = number} r.3 r.2

-- ---- One shard

-- no token is pledged to an aborted transaction
abbrev Clear : List Known → List Token → Type 0
Clear known tokens = (m i n : ℕ) → Aborted known n → Pledged tokens m i n → ⊥

-- at a turned shard
abbrev TurnedClear : Ledger → Type 0
TurnedClear l = l.turned ≡ true → Clear l.known l.tokens

-- a known transaction is entered, over tokens whose other pledges were there before
clear_enter : (p : ℕ) (known : List Known) (k : Known) (tokens tokens₁ : List Token) → (k.transaction.number ≡ 0 → ⊥)
    → ((n : ℕ) (j : Known) → look known n ≡ some j → n ≡ 0 → ⊥)
    → ((m i n : ℕ) → (n ≡ k.transaction.number → ⊥) → Pledged tokens₁ m i n → Pledged tokens m i n) → Clear known tokens
    → Clear (put k known) (concluded true (outcome_of k) p k.transaction tokens₁)
clear_enter p known k tokens tokens₁ positive numbers back clear m i n a b = go (case (eqb k.transaction.number n))
  where
    settled : List Token
    settled = settle (outcome_of k) p k.transaction tokens₁

    go : Case (eqb k.transaction.number n) → ⊥
    go (yes-case y) =
        let e : k.transaction.number ≡ n = eqb-eq k.transaction.number n y in
        let same : k ≡ a.entry = some_inj (sym (look-put-same k known e) ∙ a.is_known) in
        ended_clear (outcome_of k) k.transaction.number settled m i (ap outcome_of same ∙ a.is_abort) positive
        (subst (Pledged (ended true (outcome_of k) k.transaction.number settled) m i) (sym e) b)
    go (no-case y) =
        let apart : k.transaction.number ≡ n → ⊥ = eqb_apart y in
        let old : look known n ≡ some a.entry = sym (look-put-other k known apart) ∙ a.is_known in
        let n₀ : n ≡ 0 → ⊥ = numbers n a.entry old in
        let before = ended-back true (outcome_of k) k.transaction.number settled m i n n₀ b in
        clear m i n (record { entry = a.entry; is_known = old; is_abort = a.is_abort })
        (back m i n (λ z. apart (sym z)) (settle-back (outcome_of k) p k.transaction tokens₁ m i n n₀ before))

module _ {limits : Limits} {log : List Entry} {p : ℕ} {genesis : ℕ → ℕ → Option Value} {l : Ledger} (o : Ok limits log p genesis l) where
  -- a registration
  register_clear : (t : Transaction) → (t.number ≡ 0 → ⊥) → look l.known t.number ≡ none → TurnedClear l → TurnedClear (after_register p l t)
  unfolding after_register newly_known pledges
  register_clear t positive unknown c y =
      let here = available_here p l.tokens t in
      let tokens₁ : List Token = pledges t.number here l.tokens in
      let k : Known = known_with p (keeping (findings p l.tokens t)) (vote p l.tokens t) t in
      subst (λ (b : Bool). Clear (l.known ++ (k ∷ [])) (concluded b (outcome_of k) p t tokens₁)) (sym y)
      (subst (λ (known : List Known). Clear known (concluded true (outcome_of k) p t tokens₁)) (sym (append-put k l.known unknown))
      (clear_enter p l.known k l.tokens tokens₁ positive o.core.number (when_back t.number (named_in here) l.tokens) (c y)))

  -- a fresh vote
  vote_clear : (t : Transaction) (q v : ℕ) → any (is_for t) l.known ≡ true → TurnedClear l → TurnedClear (after_vote p l q v t)
  unfolding after_vote place_of
  vote_clear t q v known c y =
      let r = entry-look t l.known o.core.one_each known in
      let num : (entry_of t l.known).transaction.number ≡ t.number = ap (λ (a : Transaction). a.number) r.1 in
      let k : Known = hearing q v (entry_of t l.known) in
      subst (λ (b : Bool). Clear (set l.known (find (is_for t) l.known) k) (concluded b (outcome_of k) p k.transaction l.tokens)) (sym y)
      (subst (λ (known : List Known). Clear known (concluded true (outcome_of k) p k.transaction l.tokens))
      (sym (set-put t k l.known o.core.one_each num known))
      (clear_enter p l.known k l.tokens l.tokens (λ z. o.core.number t.number (entry_of t l.known) r.0 (sym num ∙ z))
      o.core.number (λ m i n h b. b) (c y)))

  -- a turn
  turn_clear : TurnedClear (after_turn l)
  unfolding after_turn
  turn_clear y m i n a b =
      let k : Known = a.entry in
      let r = freeing-back (pledged_to_aborted l.known) l.tokens m i n (o.core.number n k a.is_known) b in
      let t : Token = r.0 in
      let to : t.pledge ≡ k.transaction.number = r.2 ∙ sym (look-number l.known n a.is_known) in
      let aborted : is_aborted (outcome_of k) ≡ true = ap is_aborted a.is_abort in
      true≢false (sym (any_of (is_aborted_for t) (lookup-mem (numbered n) l.known a.is_known) (and_intro aborted (eqb_yes to))) ∙ r.3)

  -- where nothing is pledged to an aborted transaction, its abort frees nothing more
  clear_ended : TurnedClear l → (n : ℕ) → Aborted l.known n → ended l.turned Abort n l.tokens ≡ l.tokens
  clear_ended c n a = go l.turned c
    where
      go : (turned : Bool) → (turned ≡ true → Clear l.known l.tokens) → ended turned Abort n l.tokens ≡ l.tokens
      go false h = refl
      go true h = freeing-none (is_pledged_to n) l.tokens (λ t m. eqb_no (λ e.
          h refl t.creator t.index n a (record { token = t; is-there = mem_tok l.tokens o.no_twice m; is-pledged = e })))

-- ---- Every list of calls

module _ (limits : Limits) where
  -- by cases on what a call did
  step_clear : (place : ℕ) (model : Model) → Inv limits model → ((p : ℕ) → TurnedClear (ledger_at limits model.shards p))
      → (call : Call) (r : Model × Answer) → Effect limits place model call r → (p : ℕ) → TurnedClear (ledger_at limits r.0.shards p)
  step_clear place model w f call _ did_refuse = f
  step_clear place model w f call _ (did_repeat h z) = f
  step_clear place model w f call _ (did_mint {p = p} h) =
      at_one limits place model w (λ q l. TurnedClear l) p _ h.receiver_fits
      (unfold after_mint in λ y m i n a b. some≢none a.is_known (ap (λ (known : List Known). look known n) h.none-known)) (λ q n. f q)
  step_clear place model w f call _ (did_register {p = p} {t = t} h) =
      let unknown = number-unknown t (ledger_at limits model.shards p).known h.no_other h.unknown in
      at_one limits place model w (λ q l. TurnedClear l) p _ h.form.receiver_fits
      (register_clear (w.at p) t (number-positive limits.genesis t h.form.fields) unknown (f p)) (λ q n. f q)
  step_clear place model w f call _ (did_hear {p = p} {sender = q} {verdict = v} {t = t} h g z) =
      at_one limits place model w (λ q l. TurnedClear l) p _ h.passes.form.receiver_fits (vote_clear (w.at p) t q v h.is_known (f p)) (λ q n. f q)
  step_clear place model w f call _ (did_turn {p = p} h) =
      at_one limits place model w (λ q l. TurnedClear l) p _ h.receiver_fits (turn_clear (w.at p)) (λ q n. f q)

  -- of every play
  play_clear : (calls : List Call) (p : ℕ) → TurnedClear (ledger_at limits (play limits calls).shards p)
  play_clear =
      play-keeps limits (λ model. (p : ℕ) → TurnedClear (ledger_at limits model.shards p)) step_clear
      (λ p. subst TurnedClear (sym (get_or-same 8 (empty_ledger limits) p)) (λ y. absurd (true≢false (sym y))))

  -- at a turned shard of every play, no token held is pledged to a transaction that the shard has aborted
  pub turned_clear : (calls : List Call) (p : ℕ) → let ledger = ledger_at limits (play limits calls).shards p in
      ledger.turned ≡ true → (token : Token) → Memᴰ token ledger.tokens → (k : Known) → Memᴰ k ledger.known
      → outcome_of k ≡ Abort → token.pledge ≢ k.transaction.number
  turned_clear calls p y token t k m e z =
      let ledger : Ledger = ledger_at limits (play limits calls).shards p in
      let o = (play-inv limits calls).at p in
      play_clear calls p y token.creator token.index k.transaction.number
      (record { entry = k; is_known = mem-look ledger.known o.core.one_each m; is_abort = e })
      (record { token = token; is-there = mem_tok ledger.tokens o.no_twice t; is-pledged = z })

  -- ---- A turned shard stays so

  -- turned already, so turned in that ledger
  abbrev Stays : Model → ℕ → Ledger → Type 0
  Stays model q l = (ledger_at limits model.shards q).turned ≡ true → l.turned ≡ true

  -- by cases on what a call did
  step-turned : (place : ℕ) (model : Model) → Inv limits model → (call : Call) (r : Model × Answer) → Effect limits place model call r
      → (p : ℕ) → Stays model p (ledger_at limits r.0.shards p)
  step-turned place model w call _ did_refuse = λ q y. y
  step-turned place model w call _ (did_repeat h z) = λ q y. y
  step-turned place model w call _ (did_mint {p = p} h) =
      at_one limits place model w (Stays model) p _ h.receiver_fits (unfold after_mint in λ y. y) (λ q n y. y)
  step-turned place model w call _ (did_register {p = p} h) =
      at_one limits place model w (Stays model) p _ h.form.receiver_fits (unfold after_register in λ y. y) (λ q n y. y)
  step-turned place model w call _ (did_hear {p = p} h g z) =
      at_one limits place model w (Stays model) p _ h.passes.form.receiver_fits (unfold after_vote in λ y. y) (λ q n y. y)
  step-turned place model w call _ (did_turn {p = p} h) =
      at_one limits place model w (Stays model) p _ h.receiver_fits (unfold after_turn in λ y. refl) (λ q n y. y)

  -- a shard that has turned stays turned for the rest of the play
  pub stays-turned : (calls more : List Call) (p : ℕ) → (ledger_at limits (play limits calls).shards p).turned ≡ true
      → (ledger_at limits (play limits (calls ++ more)).shards p).turned ≡ true
  stays-turned calls more p =
      play-longer limits (λ model. (ledger_at limits model.shards p).turned ≡ true)
      (λ place model w y call r e. step-turned place model w call r e p y) calls more

  -- ---- A late vote on an aborted transaction changes no token, at a turned shard either: its tokens are free already

  pub late_vote_in : (calls : List Call) (p sender verdict : ℕ) (t : Transaction)
      → let ledger = ledger_at limits (play limits calls).shards p in
      let k = entry_of t ledger.known in
      any (is_for t) ledger.known ≡ true → heard_from sender k ≡ None → outcome_of k ≡ Abort
      → hear p ledger sender verdict t
      ≡ (holding ledger ledger.tokens (set ledger.known (place_of t ledger.known) (hearing sender verdict k)), carried (Heard Abort))
  late_vote_in calls p sender verdict t known fresh e =
      let ledger : Ledger = ledger_at limits (play limits calls).shards p in
      let k : Known = entry_of t ledger.known in
      let o = (play-inv limits calls).at p in
      let r = entry-look t ledger.known o.core.one_each known in
      let found : look ledger.known k.transaction.number ≡ some k =
      ap (λ (a : Transaction). look ledger.known a.number) r.1 ∙ r.0 in
      let aborted : Aborted ledger.known k.transaction.number = record { entry = k; is_known = found; is_abort = e } in
      let noted = set ledger.known (place_of t ledger.known) (hearing sender verdict k) in
      let kept = clear_ended o (play_clear calls p) k.transaction.number aborted in
      late-vote p ledger sender verdict t fresh e ∙ ap (λ (l : List Token). (holding ledger l noted, carried (Heard Abort))) kept
