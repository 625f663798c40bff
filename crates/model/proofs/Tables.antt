-- The tables of refusals: a call from what its table answers, the one table of a vote at a cluster, and 12 and 11, which a cluster never answers.
use Prim.Native.Nat.{ℕ, suc}
use native.Mathlib.Omega.{arith}
use mathlib.Core.Path.{◌≡◌, refl, ap, sym, ◌∙◌, subst}
use mathlib.Core.Logic.{◌≢◌}
use mathlib.Core.Bool.{Bool, true, false, cond, ◌&&◌, not}
use mathlib.Core.List.{List, [], ◌∷◌, ◌++◌, Memᴰ}
use lib.Dec.{eqb}
use lib.ListN.{set}
use lib.Seq.{set-get_or}
use Rattle.transaction.specs.declared.Transaction.{Transaction}
use Rattle.transaction.specs.Lists.{any, all, first_of}
use Rattle.transaction.specs.Checks.{shard_fits, index_fits, value_fits, mint_fits}
use Rattle.model.specs.declared.Known.{Known}
use Rattle.model.specs.Answers.{Answer}
use Rattle.model.specs.declared.Done.TheVariants.{Minted, Registered, Heard, Again, Turned}
use Rattle.model.specs.Said.{Said, says}
use Rattle.model.specs.Steps.{
  Limits,
  Ledger,
  empty_ledger,
  heard_from,
  hearing,
  outcome_of,
  is_for,
  entry_of,
  vote,
  newly_known,
  after_mint,
  after_register,
  after_vote,
  after_turn,
}
use Rattle.model.specs.Shard.{
  Call,
  mint,
  register,
  deliver,
  mint_refusals,
  register_refusals,
  has_number,
  is_other,
  other_verdict,
  deliver_form,
  deliver_rest,
  deliver_refusals,
  unless,
  hear,
  shard_step,
  turn,
  turn_refusals,
  is_unknown,
  entry_refusals,
  bring_rest,
  hear_rest,
  bring,
  delivered,
}
use Rattle.model.specs.Cluster.{ledger_at, gave, not_given, at_shard, cluster_step, has_given}
use Rattle.model.specs.Model.{Model, play, empty_model, step, answers, play_answers}
use Rattle.model.proofs.Basics.{eqb_same, both, not-no, not_is, clash, is_row, passed, number_behind, eqb-eq, never_answers, any_at, any_of}
use Rattle.model.proofs.Said.{something-said, says-verdict}
use Rattle.model.proofs.Entries.{whole-known, entry-look, known-number}
use Rattle.model.proofs.Invariant.{Voted}
use Rattle.model.proofs.Effects.{was-given, deliver-elim}
use Rattle.model.proofs.Steps.{Inv, play-inv, gave-vote}
use Rattle.model.proofs.Decisions.{voted-same}
use Rattle.std.specs.Prelude.{Some, is_some, Result, Ok, Err, is_ok}
use Rattle.transaction.specs.declared.refusal.Refusal.{Refusal}
use Rattle.transaction.specs.declared.refusal.Refusal.TheVariants.{OutOfRange, NumberTaken, NumberUnknown, OtherVerdict, VoteNotGiven}

-- ---- One call, from what its table answers

-- what the table refuses it for
pub unless-refused : {A : Type 0} {refusal : Refusal} (cause : Result Unit Refusal) (before : A) (done : A × Answer) → cause ≡ Err refusal
    → unless cause before done ≡ (before, Err refusal)
unless-refused cause before done h = ap (λ (found : Result Unit Refusal). unless found before done) h

-- or, where it refuses nothing, the step
pub unless-done : {A : Type 0} (cause : Result Unit Refusal) (before : A) (done : A × Answer) → cause ≡ Ok tt → unless cause before done ≡ done
unless-done cause before done h = ap (λ (found : Result Unit Refusal). unless found before done) h

-- a call that is refused, where its step never is, is refused by the table
pub unless-number : {A : Type 0} (cause : Result Unit Refusal) (before : A) (done : A × Answer) (refusal : Refusal) → done.1 ≢ Err refusal
    → (unless cause before done).1 ≡ Err refusal → cause ≡ Err refusal
unless-number (Ok tt) before done refusal never e = absurd (never e)
unless-number (Err k) before done refusal never e = cc

-- and never for what no row of the table says
pub unless_never : {A : Type 0} (refusal : Refusal) (table : List (Bool × Refusal)) → all (λ row. not (is_row refusal row && row.0)) table ≡ true
    → (before : A) (done : A × Answer) → done.1 ≢ Err refusal → (unless (first_of table) before done).1 ≢ Err refusal
unless_never refusal table none before done never e =
    never_answers refusal table none (unless-number (first_of table) before done refusal never e)

-- the first of two answers that refuses
abbrev first_refusal : Result Unit Refusal → Result Unit Refusal → Result Unit Refusal
first_refusal (Ok passed) behind = behind
first_refusal (Err refusal) behind = Err refusal

-- two tables one behind the other
first-of-both : (a b : List (Bool × Refusal)) → first_of (a ++ b) ≡ first_refusal (first_of a) (first_of b)
first-of-both [] b = refl
first-of-both ((true, k) ∷ a) b = refl
first-of-both ((false, k) ∷ a) b = first-of-both a b

-- kind 2 in a cluster, in the paper's order: 3, 4, 5, 6, 16, then what the receiver's ledger says
unfoldable pub cluster_refusals : Limits → List Ledger → ℕ → ℕ → ℕ → Transaction → List (Bool × Refusal)
cluster_refusals limits shards p sender verdict t =
    deliver_form limits p p sender verdict t
    ++ (not (gave (ledger_at limits shards sender) sender verdict t), VoteNotGiven)
    ∷ deliver_rest limits p (ledger_at limits shards p) sender verdict t

-- a vote at the cluster is answered by this one table
pub cluster_deliver : (limits : Limits) (shards : List Ledger) (p sender verdict : ℕ) (t : Transaction)
    → cluster_step limits shards (deliver p sender verdict t)
    ≡ unless (first_of (cluster_refusals limits shards p sender verdict t)) shards
    (set shards p (delivered p (ledger_at limits shards p) sender verdict t).0, (delivered p (ledger_at limits shards p) sender verdict t).1)
unfolding cluster_step at_shard shard_step not_given cluster_refusals deliver_refusals deliver_form
cluster_deliver limits shards p sender verdict t =
    (λ i. cond (not_given limits shards p sender verdict t) (shards, Err VoteNotGiven) (at (first-of-both form rest i)))
    ∙ go (first_of form) (gave (ledger_at limits shards sender) sender verdict t)
    ∙ sym (ap result (first-of-both form ((not (gave (ledger_at limits shards sender) sender verdict t), VoteNotGiven) ∷ rest)))
  where
    form : List (Bool × Refusal)
    form = deliver_form limits p p sender verdict t

    rest : List (Bool × Refusal)
    rest = deliver_rest limits p (ledger_at limits shards p) sender verdict t

    heard : Ledger × Answer
    heard = delivered p (ledger_at limits shards p) sender verdict t

    -- the receiving shard's answer, and the cluster's, where the table says this
    at : Result Unit Refusal → List Ledger × Answer
    at cause = (set shards p (unless cause (ledger_at limits shards p) heard).0, (unless cause (ledger_at limits shards p) heard).1)

    result : Result Unit Refusal → List Ledger × Answer
    result cause = unless cause shards (set shards p heard.0, heard.1)

    same : (cause : Result Unit Refusal) → at cause ≡ result cause
    same (Ok tt) = refl
    same (Err refusal) = λ i. (set-get_or shards p (empty_ledger limits) i, Err refusal)

    go : (found : Result Unit Refusal) (g : Bool) → cond (is_ok found && not g) (shards, Err VoteNotGiven) (at (first_refusal found (first_of rest)))
        ≡ result (first_refusal found (cond (not g) (Err VoteNotGiven) (first_of rest)))
    go (Ok tt) true = same (first_of rest)
    go (Ok tt) false = refl
    go (Err refusal) g = same (Err refusal)

-- ---- Refusal 12 is met at a lone shard only: in a cluster, a sender that has given a vote has given no other

-- who has given a vote has it noted, yes or no
gave-says : (ledger : Ledger) (sender verdict : ℕ) (t : Transaction) → gave ledger sender verdict t ≡ true → says (Some (eqb verdict 1)) verdict ≡ true
unfolding gave
gave-says ledger sender verdict t e =
    let r = any_at (has_given sender verdict t) ledger.known e in
    let y = both (is_for t r.0) (says (heard_from sender r.0) verdict) r.2 in
    ap (λ (c : Said). says c verdict) (sym (says-verdict (heard_from sender r.0) verdict y.1)) ∙ y.1

-- the votes that shards have heard and given are of one mind
no-other_verdict : (limits : Limits) (model : Model) → Inv limits model → (p sender verdict : ℕ) (t : Transaction)
    → any (is_for t) (ledger_at limits model.shards p).known ≡ true
    → gave (ledger_at limits model.shards sender) sender verdict t ≡ true
    → other_verdict (heard_from sender (entry_of t (ledger_at limits model.shards p).known)) verdict ≡ true → ⊥
no-other_verdict limits model w p sender verdict t known given other =
    let l : List Known = (ledger_at limits model.shards p).known in
    let r = entry-look t l (w.at p).core.one_each known in
    let c : Said = heard_from sender (entry_of t l) in
    let h = both (is_some c) (not (says c verdict)) other in
    let v = subst (λ (s : Transaction). Voted model.log sender s c) r.1
    ((w.at p).core.votes t.number (entry_of t l) r.0 sender (something-said c h.0)) in
    let same : c ≡ Some (eqb verdict 1) = voted-same limits model w sender t c (Some (eqb verdict 1)) v (gave-vote limits model w sender verdict t given) in
    clash (ap (λ (c : Said). says c verdict) same ∙ gave-says (ledger_at limits model.shards sender) sender verdict t given) (not_is h.1)

module _ (limits : Limits) (p : ℕ) (ledger : Ledger) (sender verdict : ℕ) (t : Transaction) where
  -- the two tables of what the ledger says
  abbrev on-unknown : List (Bool × Refusal)
  on-unknown = bring_rest limits p ledger sender t

  abbrev on-known : List (Bool × Refusal)
  on-known = hear_rest ledger sender verdict t

  -- what a vote is refused for at a shard is what its table says
  pub deliver-number : (refusal : Refusal) → (shard_step limits p ledger (deliver p sender verdict t)).1 ≡ Err refusal
      → first_of (deliver_refusals limits p ledger p sender verdict t) ≡ Err refusal
  unfolding shard_step hear bring
  deliver-number refusal e =
      unless-number (first_of (deliver_refusals limits p ledger p sender verdict t)) ledger (delivered p ledger sender verdict t) refusal
      (carried (is_unknown t ledger.known) (is_some (heard_from sender (entry_of t ledger.known)))) e
    where
      fresh : Ledger × Answer
      fresh = (after_vote p ledger sender verdict t, Ok (Heard (outcome_of (hearing sender verdict (entry_of t ledger.known)))))

      again : Ledger × Answer
      again = (ledger, Ok (Again (outcome_of (entry_of t ledger.known))))

      carried : (a b : Bool) → (cond a (bring p ledger sender verdict t) (cond b again fresh)).1 ≢ Err refusal
      carried true b e = let z : ◌≡◌ {A = ℕ} 0 1 = cc in omega arith
      carried false true e = let z : ◌≡◌ {A = ℕ} 0 1 = cc in omega arith
      carried false false e = let z : ◌≡◌ {A = ℕ} 0 1 = cc in omega arith

  -- where a shard's table says 12, the vote passed 3 to 6, the transaction is known, and the other verdict was heard
  twelve_says : first_of (deliver_refusals limits p ledger p sender verdict t) ≡ Err OtherVerdict
      → (first_of (deliver_form limits p p sender verdict t) ≡ Ok tt) × (any (is_for t) ledger.known ≡ true)
      × (other_verdict (heard_from sender (entry_of t ledger.known)) verdict ≡ true)
  unfolding deliver_refusals deliver_form
  twelve_says e =
      let r = number_behind OtherVerdict (deliver_form limits p p sender verdict t) (deliver_rest limits p ledger sender verdict t) refl e in
      let s = go (is_unknown t ledger.known) refl r.1 in
      (r.0, s.0, s.1)
    where
      other : Bool
      other = other_verdict (heard_from sender (entry_of t ledger.known)) verdict

      last : (b : Bool) → first_of ((b, OtherVerdict) ∷ []) ≡ Err OtherVerdict → b ≡ true
      last true e = refl
      last false e = absurd cc

      go : (unknown : Bool) → is_unknown t ledger.known ≡ unknown → first_of (cond unknown on-unknown on-known) ≡ Err OtherVerdict
          → (any (is_for t) ledger.known ≡ true) × (other ≡ true)
      go true u e = absurd (never_answers OtherVerdict on-unknown refl e)
      go false u e =
          let s = number_behind OtherVerdict ((any (is_other t) ledger.known, NumberTaken) ∷ []) ((other, OtherVerdict) ∷ []) refl e in
          let g = passed ((any (is_other t) ledger.known, NumberTaken) ∷ []) s.0 in
          (whole-known t ledger.known (not-no (any (has_number t) ledger.known) u) g.0, last other s.1)

  -- where it says 11, the vote passed 3 to 6, the number is unknown, and sender and receiver are one
  pub eleven_says : first_of (deliver_refusals limits p ledger p sender verdict t) ≡ Err NumberUnknown
      → (first_of (deliver_form limits p p sender verdict t) ≡ Ok tt) × (is_unknown t ledger.known ≡ true) × (sender ≡ p)
  unfolding deliver_refusals deliver_form
  eleven_says e =
      let r = number_behind NumberUnknown (deliver_form limits p p sender verdict t) (deliver_rest limits p ledger sender verdict t) refl e in
      let s = go (is_unknown t ledger.known) refl r.1 in
      (r.0, s.0, s.1)
    where
      own : (b : Bool) → eqb sender p ≡ b → first_of ((b, NumberUnknown) ∷ entry_refusals limits p ledger t) ≡ Err NumberUnknown → sender ≡ p
      own true y e = eqb-eq sender p y
      own false y e = absurd (never_answers NumberUnknown (entry_refusals limits p ledger t) refl e)

      go : (unknown : Bool) → is_unknown t ledger.known ≡ unknown → first_of (cond unknown on-unknown on-known) ≡ Err NumberUnknown
          → (is_unknown t ledger.known ≡ true) × (sender ≡ p)
      go true u e = (u, own (eqb sender p) refl e)
      go false u e = absurd (never_answers NumberUnknown on-known refl e)

-- 12 is never answered in a cluster
pub never_twelve : (limits : Limits) (calls : List Call) (p sender verdict : ℕ) (t : Transaction)
    → (cluster_step limits (play limits calls).shards (deliver p sender verdict t)).1 ≢ Err OtherVerdict
unfolding at_shard
never_twelve limits calls p sender verdict t =
    deliver-elim limits shards p sender verdict t (λ r. r.1 ≢ Err OtherVerdict) (λ e. let z : ◌≡◌ {A = ℕ} 0 1 = cc in omega arith) answered
  where
    shards : List Ledger
    shards = (play limits calls).shards

    answered : not_given limits shards p sender verdict t ≡ false
        → (shard_step limits p (ledger_at limits shards p) (deliver p sender verdict t)).1 ≢ Err OtherVerdict
    answered g e =
        let r = twelve_says limits p (ledger_at limits shards p) sender verdict t
        (deliver-number limits p (ledger_at limits shards p) sender verdict t OtherVerdict e) in
        let given = was-given limits shards p sender verdict t g r.0 in
        no-other_verdict limits (play limits calls) (play-inv limits calls) p sender verdict t r.1 given r.2

-- ---- Refusal 11 is met at a lone shard only, for its own vote: in a cluster, who has given a vote knows the transaction

-- who has given a vote knows its number
gave-known : (ledger : Ledger) (sender verdict : ℕ) (t : Transaction) → gave ledger sender verdict t ≡ true → is_unknown t ledger.known ≡ false
unfolding gave
gave-known ledger sender verdict t e =
    let r = any_at (has_given sender verdict t) ledger.known e in
    let y = both (is_for t r.0) (says (heard_from sender r.0) verdict) r.2 in
    ap not (known-number t ledger.known (any_of (is_for t) r.1 y.0))

-- no call of a cluster is answered with 11, whatever its shards hold
pub no_eleven : (limits : Limits) (shards : List Ledger) (call : Call) → (cluster_step limits shards call).1 ≢ Err NumberUnknown
unfolding cluster_step at_shard shard_step mint_refusals register_refusals turn_refusals
no_eleven limits shards (mint p index owner amount) e =
    let ledger = ledger_at limits shards p in
    unless_never NumberUnknown (mint_refusals limits p ledger p index owner amount) refl ledger (after_mint ledger index owner amount, Ok Minted)
    (λ y. let z : ◌≡◌ {A = ℕ} 0 1 = cc in omega arith) e
no_eleven limits shards (register p t) e =
    let ledger = ledger_at limits shards p in
    let answer = Ok (Registered (vote p ledger.tokens t) (outcome_of (newly_known p ledger.tokens t))) in
    unless_never NumberUnknown (register_refusals limits p ledger p t) refl ledger (after_register p ledger t, answer)
    (λ y. let z : ◌≡◌ {A = ℕ} 0 1 = cc in omega arith) e
no_eleven limits shards (turn p) e =
    let ledger = ledger_at limits shards p in
    unless_never NumberUnknown (turn_refusals p ledger p) refl ledger (after_turn ledger, Ok Turned)
    (λ y. let z : ◌≡◌ {A = ℕ} 0 1 = cc in omega arith) e
no_eleven limits shards (deliver p sender verdict t) e =
    deliver-elim limits shards p sender verdict t (λ r. r.1 ≢ Err NumberUnknown) (λ y. let z : ◌≡◌ {A = ℕ} 0 1 = cc in omega arith) answered e
  where
    ledger : Ledger
    ledger = ledger_at limits shards p

    answered : not_given limits shards p sender verdict t ≡ false → (shard_step limits p ledger (deliver p sender verdict t)).1 ≢ Err NumberUnknown
    answered g e =
        let r = eleven_says limits p ledger sender verdict t (deliver-number limits p ledger sender verdict t NumberUnknown e) in
        let given = was-given limits shards p sender verdict t g r.0 in
        let own : gave ledger sender verdict t ≡ true = subst (λ (q : ℕ). gave (ledger_at limits shards q) sender verdict t ≡ true) r.2 given in
        clash r.1 (gave-known ledger sender verdict t own)

-- so that in a cluster 11 is never met, whatever list of calls it is
pub never_eleven : (limits : Limits) (calls : List Call) → Memᴰ (Err NumberUnknown) (play_answers limits calls) → ⊥
unfolding play_answers answers step
never_eleven limits calls = go 1 (empty_model limits) calls
  where
    go : (place : ℕ) (model : Model) (calls : List Call) → Memᴰ (Err NumberUnknown) (answers limits place model calls) → ⊥
    go place model [] m = elim m [ ]
    go place model (call ∷ calls) (Memᴰ.head e) = no_eleven limits model.shards call (sym e)
    go place model (call ∷ calls) (Memᴰ.tail m) = go (suc place) (step limits place model call).0 calls m

-- ---- A record for a shard that does not exist

-- the shard that a call is addressed to
abbrev pub receiver_of : Call → ℕ
receiver_of (mint receiver index owner amount) = receiver
receiver_of (register receiver t) = receiver
receiver_of (deliver receiver sender verdict t) = receiver
receiver_of (turn receiver) = receiver

-- the first two tests of a table, where the second is met
three-first : (r : ℕ) (c : Bool) (rest : Result Unit Refusal) → c ≡ true
    → cond (not (eqb r r)) (Err OutOfRange) (cond c (Err OutOfRange) rest) ≡ Err OutOfRange
three-first r c rest h = λ i. cond (not (eqb_same r i)) (Err OutOfRange) (cond (h i) (Err OutOfRange) rest)

-- the table of a genesis token for it says 3
mint-three : (limits : Limits) (p : ℕ) (ledger : Ledger) (index owner amount : ℕ) → shard_fits p ≡ false
    → first_of (mint_refusals limits p ledger p index owner amount) ≡ Err OutOfRange
unfolding mint_refusals mint_fits
mint-three limits p ledger index owner amount h =
    three-first p (not (shard_fits p && index_fits limits.genesis 0 index && value_fits owner amount)) _
    (λ i. not (h i && index_fits limits.genesis 0 index && value_fits owner amount))

-- and so does that of a registration
register-three : (limits : Limits) (p : ℕ) (ledger : Ledger) (t : Transaction) → shard_fits p ≡ false
    → first_of (register_refusals limits p ledger p t) ≡ Err OutOfRange
unfolding register_refusals
register-three limits p ledger t h = three-first p (not (shard_fits p)) _ (ap not h)

-- and that of a vote, among 3 to 6
form-three : (limits : Limits) (p sender verdict : ℕ) (t : Transaction) → shard_fits p ≡ false
    → first_of (deliver_form limits p p sender verdict t) ≡ Err OutOfRange
unfolding deliver_form
form-three limits p sender verdict t h = three-first p (not (shard_fits p)) _ (ap not h)

-- and in the whole
deliver-three : (limits : Limits) (p : ℕ) (ledger : Ledger) (sender verdict : ℕ) (t : Transaction) → shard_fits p ≡ false
    → first_of (deliver_refusals limits p ledger p sender verdict t) ≡ Err OutOfRange
unfolding deliver_refusals deliver_form
deliver-three limits p ledger sender verdict t h = three-first p (not (shard_fits p)) _ (ap not h)

-- and that of a turn
turn_three : (p : ℕ) (ledger : Ledger) → shard_fits p ≡ false → first_of (turn_refusals p ledger p) ≡ Err OutOfRange
unfolding turn_refusals
turn_three p ledger h = three-first p (not (shard_fits p)) _ (ap not h)

-- the receiving shard's refusal is the cluster's
refused-at : (limits : Limits) (shards : List Ledger) (p : ℕ) (call : Call) (refusal : Refusal)
    → shard_step limits p (ledger_at limits shards p) call ≡ (ledger_at limits shards p, Err refusal)
    → at_shard limits shards p call ≡ (shards, Err refusal)
unfolding at_shard
refused-at limits shards p call refusal e =
    (λ i. (set shards p (e i).0, (e i).1)) ∙ (λ i. (set-get_or shards p (empty_ledger limits) i, Err refusal))

-- a call to a shard that does not exist is refused with 3
pub no_such_shard : (limits : Limits) (shards : List Ledger) (call : Call) → shard_fits (receiver_of call) ≡ false
    → cluster_step limits shards call ≡ (shards, Err OutOfRange)
unfolding cluster_step shard_step not_given
no_such_shard limits shards (mint p index owner amount) h =
    refused-at limits shards p (mint p index owner amount) OutOfRange
    (ap (λ (found : Result Unit Refusal). unless found (ledger_at limits shards p) (after_mint (ledger_at limits shards p) index owner amount, Ok Minted))
    (mint-three limits p (ledger_at limits shards p) index owner amount h))
no_such_shard limits shards (register p t) h =
    refused-at limits shards p (register p t) OutOfRange
    (ap (λ (found : Result Unit Refusal). unless found (ledger_at limits shards p) (
      after_register p (ledger_at limits shards p) t,
      Ok (Registered (vote p (ledger_at limits shards p).tokens t)
          (outcome_of (newly_known p (ledger_at limits shards p).tokens t))),
    ))
    (register-three limits p (ledger_at limits shards p) t h))
no_such_shard limits shards (turn p) h =
    let ledger = ledger_at limits shards p in
    refused-at limits shards p (turn p) OutOfRange
    (ap (λ (found : Result Unit Refusal). unless found ledger (after_turn ledger, Ok Turned)) (turn_three p ledger h))
no_such_shard limits shards (deliver p sender verdict t) h =
    ap (λ (found : Result Unit Refusal). cond (is_ok found && not (gave (ledger_at limits shards sender) sender verdict t)) (shards, Err VoteNotGiven)
    (at_shard limits shards p (deliver p sender verdict t))) (form-three limits p sender verdict t h)
    ∙ refused-at limits shards p (deliver p sender verdict t) OutOfRange
    (ap (λ (found : Result Unit Refusal). unless found (ledger_at limits shards p) (delivered p (ledger_at limits shards p) sender verdict t))
    (deliver-three limits p (ledger_at limits shards p) sender verdict t h))
