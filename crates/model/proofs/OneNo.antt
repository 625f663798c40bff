-- Laws of the abort that one no brings (document 02, 5): a registration is answered NO ABORT, YES WAIT or YES COMMIT; an aborted transaction reserves
-- nothing and holds nobody off; later fresh votes are noted, answer abort and change no token; where all votes are in, the transaction is decided; and
-- the commit rule holds of every decision.
use Prim.Native.Nat.{ℕ, ◌<◌}
use native.Mathlib.Omega.{arith}
use mathlib.Core.Path.{◌≡◌, ap, sym, ◌∙◌, subst}
use mathlib.Core.Logic.{◌↔◌, ◌≢◌}
use mathlib.Core.Bool.{Bool, true, false, cond, ◌&&◌}
use mathlib.Core.List.{List, Memᴰ}
use lib.ListN.{length, set}
use Rattle.transaction.specs.declared.Input.{Input}
use Rattle.transaction.specs.declared.Transaction.{Transaction}
use Rattle.transaction.specs.Lists.{any}
use Rattle.transaction.specs.Tokens.{used_inputs, shards_of}
use Rattle.model.specs.declared.Known.{Known}
use Rattle.model.specs.declared.Outcome.{Outcome}
use Rattle.model.specs.declared.Outcome.TheVariants.{Wait, Commit, Abort}
use Rattle.model.specs.Answers.{Answer}
use Rattle.model.specs.declared.Done.TheVariants.{Registered, Heard, Again}
use Rattle.model.specs.Steps.{
  Limits,
  Ledger,
  holding,
  names,
  vote,
  newly_known,
  heard_from,
  hearing,
  outcome_of,
  outputs_here,
  made_here,
  place_of,
  entry_of,
  after_vote,
  ended,
  concluded,
}
use Rattle.model.specs.Shard.{Call, mint, register, deliver, is_undecided, if_undecided, reserved_by, awaits, hear, shard_step, turn}
use Rattle.model.specs.Cluster.{ledger_at, at_shard, cluster_step}
use Rattle.model.specs.Model.{play}
use Rattle.model.specs.Demand.{outcome_at, heard_all_at, WasAvailable}
use Rattle.model.proofs.Outcomes.{abort_stays}
use Rattle.model.proofs.Refusals.{shard-below, part_in}
use Rattle.model.proofs.Effects.{
  ShardEffect,
  shard-refused,
  shard-minted,
  shard-registered,
  shard-heard,
  shard-again,
  shard-effect,
  shard-turned,
  shard-brought,
  deliver-elim,
}
use Rattle.model.proofs.Steps.{play-inv}
use Rattle.model.proofs.Decisions.{decided_exact, all_in-at}
use Rattle.model.proofs.Votes.{own-no, own-yes}
use Rattle.std.specs.Prelude.{None, is_some, Ok}

-- ---- What a registration is answered

-- a no aborts at once, and a yes never: NO ABORT, YES WAIT and YES COMMIT are all that there is
abbrev pub AtOnce : Bool → Outcome → Type 0
AtOnce verdict o = (verdict ≡ false → o ≡ Abort) × (verdict ≡ true → o ≢ Abort)

-- by cases on what a call did at a shard
at-once-by : (limits : Limits) (me : ℕ) (ledger : Ledger) (call : Call) (r : Ledger × Answer)
    → ShardEffect limits me ledger call r → (verdict : Bool) (o : Outcome) → r.1 ≡ Ok (Registered verdict o) → AtOnce verdict o
at-once-by limits me ledger call _ (shard-registered {receiver = receiver} {t = t} h) verdict o e =
    let addressed : receiver ≡ me = h.form.addressed in
    let here : me < 8 = subst (λ (p : ℕ). p < 8) addressed (shard-below receiver h.form.receiver_fits) in
    let part : Memᴰ me (shards_of t) = subst (λ (p : ℕ). Memᴰ p (shards_of t)) addressed (part_in receiver t h.form.is_part) in
    let voted : vote me ledger.tokens t ≡ verdict = cc in
    let outcome : outcome_of (newly_known me ledger.tokens t) ≡ o = cc in
    (λ f. sym outcome ∙ own-no me ledger.tokens t here part (voted ∙ f), λ f a. own-yes me ledger.tokens t here (voted ∙ f) (outcome ∙ a))
at-once-by limits me ledger call _ shard-refused verdict o e = let z : ◌≡◌ {A = ℕ} 0 1 = cc in absurd (omega arith)
at-once-by limits me ledger call _ (shard-minted h) verdict o e = let z : ◌≡◌ {A = ℕ} 0 1 = cc in absurd (omega arith)
at-once-by limits me ledger call _ (shard-heard h f z) verdict o e = let y : ◌≡◌ {A = ℕ} 0 1 = cc in absurd (omega arith)
at-once-by limits me ledger call _ (shard-again h z) verdict o e = let y : ◌≡◌ {A = ℕ} 0 1 = cc in absurd (omega arith)
at-once-by limits me ledger call _ (shard-turned h) verdict o e = let y : ◌≡◌ {A = ℕ} 0 1 = cc in absurd (omega arith)
at-once-by limits me ledger call _ (shard-brought h f) verdict o e = let y : ◌≡◌ {A = ℕ} 0 1 = cc in absurd (omega arith)

-- at a lone shard
pub at_once : (limits : Limits) (me : ℕ) (ledger : Ledger) (call : Call) (verdict : Bool) (o : Outcome)
    → (shard_step limits me ledger call).1 ≡ Ok (Registered verdict o) → AtOnce verdict o
at_once limits me ledger call = at-once-by limits me ledger call (shard_step limits me ledger call) (shard-effect limits me ledger call)

-- and in a cluster
pub at_once_in : (limits : Limits) (shards : List Ledger) (call : Call) (verdict : Bool) (o : Outcome)
    → (cluster_step limits shards call).1 ≡ Ok (Registered verdict o) → AtOnce verdict o
unfolding cluster_step at_shard
at_once_in limits shards (mint p index owner amount) verdict o e = at_once limits p (ledger_at limits shards p) (mint p index owner amount) verdict o e
at_once_in limits shards (register p t) verdict o e = at_once limits p (ledger_at limits shards p) (register p t) verdict o e
at_once_in limits shards (turn p) verdict o e = at_once limits p (ledger_at limits shards p) (turn p) verdict o e
at_once_in limits shards (deliver p sender said t) verdict o e =
    deliver-elim limits shards p sender said t (λ r. r.1 ≡ Ok (Registered verdict o) → AtOnce verdict o)
    (λ y. let z : ◌≡◌ {A = ℕ} 0 1 = cc in absurd (omega arith))
    (λ given y. at_once limits p (ledger_at limits shards p) (deliver p sender said t) verdict o y) e

-- ---- What an aborted transaction still does: nothing

-- it reserves no room (10)
pub abort_reserves : (me : ℕ) (k : Known) → outcome_of k ≡ Abort → reserved_by me k ≡ 0
unfolding reserved_by
abort_reserves me k e = ap (λ (o : Outcome). if_undecided o (length (outputs_here me k.transaction))) e

-- it holds nobody off (17)
pub abort_awaited : (me : ℕ) (x : Input) (k : Known) → outcome_of k ≡ Abort → awaits me x k ≡ false
abort_awaited me x k e = ap (λ (o : Outcome). is_undecided o && any (names x) (made_here me k.transaction)) e

-- a later fresh vote is noted and answers HEARD ABORT; the tokens are those of an abort, and so as they were (Turned: `late_vote_in`)
pub late-vote : (me : ℕ) (ledger : Ledger) (sender verdict : ℕ) (t : Transaction)
    → heard_from sender (entry_of t ledger.known) ≡ None → outcome_of (entry_of t ledger.known) ≡ Abort
    → hear me ledger sender verdict t
    ≡ (
      holding ledger (ended ledger.turned Abort (entry_of t ledger.known).transaction.number ledger.tokens)
          (set ledger.known (place_of t ledger.known) (hearing sender verdict (entry_of t ledger.known))),
      Ok (Heard Abort),
    )
unfolding hear after_vote
late-vote me ledger sender verdict t fresh e =
    let k : Known = entry_of t ledger.known in
    let heard : Known = hearing sender verdict k in
    let known : List Known = set ledger.known (place_of t ledger.known) heard in
    let stays : outcome_of heard ≡ Abort = abort_stays k sender verdict fresh e in
    λ i. cond (is_some (fresh i)) (ledger, Ok (Again (outcome_of k)))
    (holding ledger (concluded ledger.turned (stays i) me k.transaction ledger.tokens) known, Ok (Heard (stays i)))

-- ---- The commit rule, sooner

-- a shard that has heard all of a transaction's votes has decided it
pub all_in-decided : (limits : Limits) (calls : List Call) (p : ℕ) (t : Transaction)
    → heard_all_at limits (play limits calls) p t ≡ true → outcome_at limits (play limits calls) p t ≢ Wait
all_in-decided limits calls = all_in-at limits (play limits calls) (play-inv limits calls)

-- the commit rule holds as soon as a shard has decided: a transaction is aborted only where some input was not available
pub decided_rule : (limits : Limits) (calls : List Call) (p : ℕ) (t : Transaction) → outcome_at limits (play limits calls) p t ≢ Wait
    → (outcome_at limits (play limits calls) p t ≡ Commit) ↔ ((x : Input) → Memᴰ x (used_inputs t) → WasAvailable (play limits calls).log t x)
decided_rule limits calls = decided_exact limits (play limits calls) (play-inv limits calls)
