-- What one call does to the model: it is refused and changes nothing, or it has passed its table and does its step; a vote that brings its
-- transaction does two steps.
use Prim.Native.Nat.{ℕ}
use mathlib.Core.Path.{◌≡◌, refl, ap, sym, subst}
use mathlib.Core.Bool.{Bool, true, false, cond}
use mathlib.Core.List.{List, ◌∷◌}
use lib.ListN.{set}
use lib.Seq.{set-get_or}
use Rattle.transaction.specs.declared.Transaction.{Transaction}
use Rattle.transaction.specs.Lists.{first_of}
use Rattle.model.specs.Answers.{Answer}
use Rattle.model.specs.declared.Done.TheVariants.{Minted, Registered, Heard, Again, Turned, Brought}
use Rattle.model.specs.Steps.{
  Limits,
  Ledger,
  empty_ledger,
  vote,
  newly_known,
  entry_of,
  heard_from,
  hearing,
  outcome_of,
  after_mint,
  after_register,
  after_vote,
  after_turn,
}
use Rattle.model.specs.Shard.{
  Call,
  mint,
  register,
  deliver,
  turn,
  mint_refusals,
  register_refusals,
  deliver_form,
  deliver_refusals,
  turn_refusals,
  unless,
  hear,
  shard_step,
  is_unknown,
  bring,
}
use Rattle.model.specs.Cluster.{ledger_at, gave, not_given, at_shard, cluster_step}
use Rattle.model.specs.Model.{Entry, Genesis, Model, entry_for, log_after, minted_after, step}
use Rattle.model.proofs.Said.{nothing-said, something-said}
use Rattle.model.proofs.Basics.{clash, and_intro, not_yes, not-no}
use Rattle.model.proofs.Refusals.{
  MintPasses,
  mint-passes,
  RegisterPasses,
  register-passes,
  DeliverPasses,
  deliver-passes,
  form-passes,
  TurnPasses,
  turn-passes,
  BringPasses,
  bring-passes,
}
use Rattle.std.specs.Prelude.{None, is_some, Result, Ok, Err, is_ok}
use Rattle.transaction.specs.declared.refusal.Refusal.{Refusal}
use Rattle.transaction.specs.declared.refusal.Refusal.TheVariants.{VoteNotGiven}

-- ---- At one shard

module _ (limits : Limits) (me : ℕ) (ledger : Ledger) where
  -- what a call can do at a shard, with its answer
  pub data ShardEffect : Call → Ledger × Answer → Type 0 where
    shard-refused : {call : Call} {refusal : Refusal} → ShardEffect call (ledger, Err refusal)
    shard-minted : {receiver index owner amount : ℕ} → MintPasses limits me ledger receiver index owner amount
        → ShardEffect (mint receiver index owner amount) (after_mint ledger index owner amount, Ok Minted)
    shard-registered : {receiver : ℕ} {t : Transaction} → RegisterPasses limits me ledger receiver t
        → ShardEffect (register receiver t)
        (after_register me ledger t, Ok (Registered (vote me ledger.tokens t) (outcome_of (newly_known me ledger.tokens t))))
    shard-heard : {receiver sender verdict : ℕ} {t : Transaction} → DeliverPasses limits me ledger receiver sender verdict t
        → first_of (deliver_form limits me receiver sender verdict t) ≡ Ok tt
        → heard_from sender (entry_of t ledger.known) ≡ None
        → ShardEffect (deliver receiver sender verdict t)
        (after_vote me ledger sender verdict t, Ok (Heard (outcome_of (hearing sender verdict (entry_of t ledger.known)))))
    shard-again : {receiver sender verdict : ℕ} {t : Transaction} → DeliverPasses limits me ledger receiver sender verdict t
        → (heard_from sender (entry_of t ledger.known) ≡ None → ⊥)
        → ShardEffect (deliver receiver sender verdict t) (ledger, Ok (Again (outcome_of (entry_of t ledger.known))))
    shard-turned : {receiver : ℕ} → TurnPasses limits me ledger receiver → ShardEffect (turn receiver) (after_turn ledger, Ok Turned)
    shard-brought : {receiver sender verdict : ℕ} {t : Transaction} → BringPasses limits me ledger receiver sender verdict t
        → first_of (deliver_form limits me receiver sender verdict t) ≡ Ok tt
        → ShardEffect (deliver receiver sender verdict t) (
          after_vote me (after_register me ledger t) sender verdict t,
          Ok (Brought (vote me ledger.tokens t) (outcome_of (hearing sender verdict (entry_of t (after_register me ledger t).known)))),
        )

  -- every call does one of these
  pub shard-effect : (call : Call) → ShardEffect call (shard_step limits me ledger call)
  unfolding shard_step hear bring
  shard-effect (mint receiver index owner amount) = go (first_of (mint_refusals limits me ledger receiver index owner amount)) refl
    where
      go : (found : Result Unit Refusal) → first_of (mint_refusals limits me ledger receiver index owner amount) ≡ found
          → ShardEffect (mint receiver index owner amount) (unless found ledger (after_mint ledger index owner amount, Ok Minted))
      go (Ok tt) e = shard-minted (mint-passes limits me ledger receiver index owner amount e)
      go (Err refusal) e = shard-refused
  shard-effect (register receiver t) = go (first_of (register_refusals limits me ledger receiver t)) refl
    where
      go : (found : Result Unit Refusal) → first_of (register_refusals limits me ledger receiver t) ≡ found
          → ShardEffect (register receiver t) (unless found ledger
          (after_register me ledger t, Ok (Registered (vote me ledger.tokens t) (outcome_of (newly_known me ledger.tokens t)))))
      go (Ok tt) e = shard-registered (register-passes limits me ledger receiver t e)
      go (Err refusal) e = shard-refused
  shard-effect (deliver receiver sender verdict t) =
      go (first_of (deliver_refusals limits me ledger receiver sender verdict t)) refl (is_unknown t ledger.known) refl
      (is_some (heard_from sender (entry_of t ledger.known))) refl
    where
      go : (found : Result Unit Refusal) → first_of (deliver_refusals limits me ledger receiver sender verdict t) ≡ found
          → (unknown : Bool) → is_unknown t ledger.known ≡ unknown
          → (heard : Bool) → is_some (heard_from sender (entry_of t ledger.known)) ≡ heard
          → ShardEffect (deliver receiver sender verdict t) (unless found ledger
          (cond unknown (bring me ledger sender verdict t)
          (cond heard (ledger, Ok (Again (outcome_of (entry_of t ledger.known))))
          (after_vote me ledger sender verdict t, Ok (Heard (outcome_of (hearing sender verdict (entry_of t ledger.known))))))))
      go (Ok tt) e true u heard f =
          shard-brought (bring-passes limits me ledger receiver sender verdict t e u) (form-passes limits me ledger receiver sender verdict t e)
      go (Ok tt) e false u false f =
          shard-heard (deliver-passes limits me ledger receiver sender verdict t e u)
          (form-passes limits me ledger receiver sender verdict t e) (nothing-said (heard_from sender (entry_of t ledger.known)) f)
      go (Ok tt) e false u true f =
          shard-again (deliver-passes limits me ledger receiver sender verdict t e u) (something-said (heard_from sender (entry_of t ledger.known)) f)
      go (Err refusal) e unknown u heard f = shard-refused
  shard-effect (turn receiver) = go (first_of (turn_refusals me ledger receiver)) refl
    where
      go : (found : Result Unit Refusal) → first_of (turn_refusals me ledger receiver) ≡ found
          → ShardEffect (turn receiver) (unless found ledger (after_turn ledger, Ok Turned))
      go (Ok tt) e = shard-turned (turn-passes limits me ledger receiver e)
      go (Err refusal) e = shard-refused

-- ---- At the cluster, with the model's notes

-- what holds where a vote is refused with 16, and of its receiver's answer where it is not, holds of what the cluster does with it
pub deliver-elim : (limits : Limits) (shards : List Ledger) (p sender verdict : ℕ) (t : Transaction) (P : List Ledger × Answer → Type 0)
    → P (shards, Err VoteNotGiven) → (not_given limits shards p sender verdict t ≡ false → P (at_shard limits shards p (deliver p sender verdict t)))
    → P (cluster_step limits shards (deliver p sender verdict t))
unfolding cluster_step
deliver-elim limits shards p sender verdict t P refused answered = go (not_given limits shards p sender verdict t) refl
  where
    go : (b : Bool) → not_given limits shards p sender verdict t ≡ b
        → P (cond b (shards, Err VoteNotGiven) (at_shard limits shards p (deliver p sender verdict t)))
    go true g = refused
    go false g = answered g

-- a vote that is not refused with 16 and has passed 3 to 6 was given
pub was-given : (limits : Limits) (shards : List Ledger) (p sender verdict : ℕ) (t : Transaction) → not_given limits shards p sender verdict t ≡ false
    → first_of (deliver_form limits p p sender verdict t) ≡ Ok tt → gave (ledger_at limits shards sender) sender verdict t ≡ true
unfolding not_given
was-given limits shards p sender verdict t g f =
    not-no (gave (ledger_at limits shards sender) sender verdict t) (not_yes (λ n. clash (and_intro (ap is_ok f) n) g))

module _ (limits : Limits) (place : ℕ) (model : Model) where
  -- a shard's ledger
  abbrev pub at : ℕ → Ledger
  at shard = ledger_at limits model.shards shard

  -- the model with one shard's ledger replaced
  abbrev pub replaced : ℕ → Ledger → List Entry → List Genesis → Model
  replaced shard ledger log minted = record { shards = set model.shards shard ledger; log = log; minted = minted }

  -- what a call can do to the model in one step, with its answer
  pub data Effect : Call → Model × Answer → Type 0 where
    did_refuse : {call : Call} {refusal : Refusal} → Effect call (model, Err refusal)
    did_mint : {p index owner amount : ℕ} → MintPasses limits p (at p) p index owner amount
        → Effect (mint p index owner amount) (
          replaced p (after_mint (at p) index owner amount) model.log
              (record { shard = p; index = index; owner = owner; amount = amount } ∷ model.minted),
          Ok Minted,
        )
    did_register : {p : ℕ} {t : Transaction} → RegisterPasses limits p (at p) p t
        → Effect (register p t) (
          replaced p (after_register p (at p) t) (entry_for limits place model.shards p t ∷ model.log) model.minted,
          Ok (Registered (vote p (at p).tokens t) (outcome_of (newly_known p (at p).tokens t))),
        )
    did_hear : {p sender verdict : ℕ} {t : Transaction} → DeliverPasses limits p (at p) p sender verdict t
        → gave (at sender) sender verdict t ≡ true → heard_from sender (entry_of t (at p).known) ≡ None
        → Effect (deliver p sender verdict t)
        (replaced p (after_vote p (at p) sender verdict t) model.log model.minted, Ok (Heard (outcome_of (hearing sender verdict (entry_of t (at p).known)))))
    did_repeat : {p sender verdict : ℕ} {t : Transaction} → DeliverPasses limits p (at p) p sender verdict t
        → (heard_from sender (entry_of t (at p).known) ≡ None → ⊥)
        → Effect (deliver p sender verdict t) (model, Ok (Again (outcome_of (entry_of t (at p).known))))
    did_turn : {p : ℕ} → TurnPasses limits p (at p) p → Effect (turn p) (replaced p (after_turn (at p)) model.log model.minted, Ok Turned)

  -- and what in two: a vote that brings its transaction does what its registration does, and then what the vote does (Steps: `brought-first`, `brought-then`)
  pub data Effects : Call → Model × Answer → Type 0 where
    did_one : {call : Call} {r : Model × Answer} → Effect call r → Effects call r
    did_bring : {p sender verdict : ℕ} {t : Transaction} → BringPasses limits p (at p) p sender verdict t → gave (at sender) sender verdict t ≡ true
        → Effects (deliver p sender verdict t) (
          replaced p (after_vote p (after_register p (at p) t) sender verdict t) (entry_for limits place model.shards p t ∷ model.log) model.minted,
          Ok (Brought (vote p (at p).tokens t) (outcome_of (hearing sender verdict (entry_of t (after_register p (at p) t).known)))),
        )

  -- a ledger put back where it was changes nothing
  put_back : (p : ℕ) → replaced p (at p) model.log model.minted ≡ model
  put_back p = λ i. record { shards = set-get_or model.shards p (empty_ledger limits) i; log = model.log; minted = model.minted }

  -- an effect that leaves the model, put back
  back : {call : Call} (p : ℕ) {answer : Answer} → Effect call (model, answer) → Effect call (replaced p (at p) model.log model.minted, answer)
  back {call} p {answer} h = subst (λ (m : Model). Effect call (m, answer)) (sym (put_back p)) h

  -- the model's step from the receiving shard's
  abbrev noted-at : ℕ → Call → Ledger × Answer → Model × Answer
  noted-at p call done = (replaced p done.0 (log_after limits place model call done.1) (minted_after model call done.1), done.1)

  -- a genesis token's effect from that at its shard
  mint-effect : (p index owner amount : ℕ) (r : Ledger × Answer) → ShardEffect limits p (at p) (mint p index owner amount) r
      → Effect (mint p index owner amount) (noted-at p (mint p index owner amount) r)
  unfolding log_after minted_after
  mint-effect p index owner amount _ shard-refused = back p did_refuse
  mint-effect p index owner amount _ (shard-minted h) = did_mint h

  -- a registration's effect from that at its shard
  register-effect : (p : ℕ) (t : Transaction) (r : Ledger × Answer) → ShardEffect limits p (at p) (register p t) r
      → Effect (register p t) (noted-at p (register p t) r)
  unfolding log_after minted_after
  register-effect p t _ shard-refused = back p did_refuse
  register-effect p t _ (shard-registered h) = did_register h

  -- a turn's effect from that at its shard
  turn-effect : (p : ℕ) (r : Ledger × Answer) → ShardEffect limits p (at p) (turn p) r → Effect (turn p) (noted-at p (turn p) r)
  unfolding log_after minted_after
  turn-effect p _ shard-refused = back p did_refuse
  turn-effect p _ (shard-turned h) = did_turn h

  -- a vote's effect from that at its shard
  deliver-effect : (p sender verdict : ℕ) (t : Transaction) → not_given limits model.shards p sender verdict t ≡ false
      → (r : Ledger × Answer) → ShardEffect limits p (at p) (deliver p sender verdict t) r
      → Effects (deliver p sender verdict t) (noted-at p (deliver p sender verdict t) r)
  unfolding log_after minted_after
  deliver-effect p sender verdict t g _ shard-refused = did_one (back p did_refuse)
  deliver-effect p sender verdict t g _ (shard-heard h f z) = did_one (did_hear h (was-given limits model.shards p sender verdict t g f) z)
  deliver-effect p sender verdict t g _ (shard-again h z) = did_one (back p (did_repeat h z))
  deliver-effect p sender verdict t g _ (shard-brought h f) = did_bring h (was-given limits model.shards p sender verdict t g f)

  -- every call does one of these
  pub effect : (call : Call) → Effects call (step limits place model call)
  unfolding step cluster_step at_shard log_after minted_after
  effect (mint p index owner amount) = did_one (mint-effect p index owner amount _ (shard-effect limits p (at p) (mint p index owner amount)))
  effect (register p t) = did_one (register-effect p t _ (shard-effect limits p (at p) (register p t)))
  effect (turn p) = did_one (turn-effect p _ (shard-effect limits p (at p) (turn p)))
  effect (deliver p sender verdict t) = go (not_given limits model.shards p sender verdict t) refl
    where
      done : List Ledger × Answer
      done = at_shard limits model.shards p (deliver p sender verdict t)

      go : (b : Bool) → not_given limits model.shards p sender verdict t ≡ b
          → Effects (deliver p sender verdict t) (
            record {
              shards = (cond {A = List Ledger × Answer} b (model.shards, Err VoteNotGiven) done).0;
              log = log_after limits place model (deliver p sender verdict t) (cond {A = List Ledger × Answer} b (model.shards, Err VoteNotGiven) done).1;
              minted = model.minted;
            },
            (cond {A = List Ledger × Answer} b (model.shards, Err VoteNotGiven) done).1,
          )
      go true e = did_one did_refuse
      go false e = deliver-effect p sender verdict t e _ (shard-effect limits p (at p) (deliver p sender verdict t))
