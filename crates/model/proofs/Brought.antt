-- A vote that brings its transaction (document 02, 6): it is entered under the checks of a registration's entry; it is the registration and the vote, one
-- call behind the other; what it is answered, and how many votes bring the decision then.
use Prim.Native.Nat.{ℕ, ◌<◌}
use native.Mathlib.Omega.{arith}
use mathlib.Core.Path.{◌≡◌, refl, ap, sym, ◌∙◌, subst}
use mathlib.Core.Logic.{◌≢◌}
use mathlib.Core.Bool.{Bool, true, false, cond, not, ◌&&◌}
use mathlib.Core.List.{List, ◌∷◌, Memᴰ}
use lib.Dec.{eqb}
use lib.ListN.{length, set, replicate, length-set}
use lib.Seq.{get_or-set_same, get_or-set_other, set-set}
use Rattle.transaction.specs.declared.Transaction.{Transaction}
use Rattle.transaction.specs.Lists.{first_of}
use Rattle.transaction.specs.Tokens.{shards_of, takes_part}
use Rattle.transaction.proofs.Tables.{first-behind}
use Rattle.model.specs.declared.Known.{Known}
use Rattle.model.specs.declared.Outcome.{Outcome}
use Rattle.model.specs.declared.Outcome.TheVariants.{Abort}
use Rattle.model.specs.Answers.{Answer}
use Rattle.model.specs.declared.Done.TheVariants.{Registered, Heard, Again, Brought}
use Rattle.model.specs.Said.{Said}
use Rattle.model.specs.Steps.{Limits, Ledger, empty_ledger, vote, newly_known, heard_from, hearing, outcome_of, entry_of, after_register, after_vote}
use Rattle.model.specs.Shard.{
  Call,
  register,
  deliver,
  is_unknown,
  entry_refusals,
  bring_rest,
  hear_rest,
  deliver_form,
  deliver_rest,
  register_refusals,
  deliver_refusals,
  unless,
  hear,
  bring,
  delivered,
  shard_step,
}
use Rattle.model.specs.Cluster.{ledger_at, gave, not_given, at_shard, cluster_step}
use Rattle.model.specs.Model.{Model, logged, log_after, step}
use Rattle.model.proofs.Basics.{eqb_no, set-elim}
use Rattle.model.proofs.Entries.{registered-entry}
use Rattle.model.proofs.Said.{no≢yes}
use Rattle.model.proofs.Outcomes.{outcome_no, no_abort, abort_stays}
use Rattle.model.proofs.Refusals.{
  shard-below,
  part_in,
  BringPasses,
  brought-registers,
  brought-fresh,
  brought-known,
  brought-passes,
  FormPasses,
}
use Rattle.model.proofs.Effects.{ShardEffect, shard-refused, shard-heard, shard-again, shard-brought, shard-effect, deliver-elim}
use Rattle.model.proofs.Votes.{shard_count, Fresh, Brings, own-no, own-yes, votes-bring}
use Rattle.model.proofs.Tables.{unless-done}
use Rattle.std.specs.Prelude.{Some, None, is_some, Result, Ok, Err, is_ok}
use Rattle.transaction.specs.declared.refusal.Refusal.{Refusal}
use Rattle.transaction.specs.declared.refusal.Refusal.TheVariants.{NumberUnknown, VoteNotGiven}

-- ---- Under 9, 10 and 17

module _ (limits : Limits) (me : ℕ) (ledger : Ledger) (receiver sender verdict : ℕ) (t : Transaction) where
  -- a vote on an unknown number, from another shard, that has passed 3 to 6: the first of 9, 10 and 17 that fits refuses it and leaves all as it was;
  -- else it brings its transaction
  pub brings_under : is_unknown t ledger.known ≡ true → sender ≢ me → first_of (deliver_form limits me receiver sender verdict t) ≡ Ok tt
      → shard_step limits me ledger (deliver receiver sender verdict t)
      ≡ unless (first_of (entry_refusals limits me ledger t)) ledger (bring me ledger sender verdict t)
  unfolding shard_step deliver_refusals deliver_form
  brings_under unknown other form =
      let rows = hear_rest ledger sender verdict t in
      let cause = first-behind (deliver_form limits me receiver sender verdict t) (deliver_rest limits me ledger sender verdict t) form in
      ap (λ (found : Result Unit Refusal). unless found ledger (delivered me ledger sender verdict t)) cause
      ∙ ap (λ (b : Bool). unless (first_of (cond b (bring_rest limits me ledger sender t) rows)) ledger
      (cond b (bring me ledger sender verdict t) (hear me ledger sender verdict t))) unknown
      ∙ ap (λ (b : Bool). unless (cond b (Err NumberUnknown) (first_of (entry_refusals limits me ledger t))) ledger
      (bring me ledger sender verdict t)) (eqb_no other)

-- ---- The two calls

-- what is known of a vote that is answered so
pub record Bringing (limits : Limits) (me : ℕ) (ledger : Ledger) (receiver sender verdict : ℕ) (t : Transaction) (own : Bool) (o : Outcome)
    (after : Ledger) : Type 0 where
  pub passes : BringPasses limits me ledger receiver sender verdict t
  pub form : first_of (deliver_form limits me receiver sender verdict t) ≡ Ok tt
  pub voted : vote me ledger.tokens t ≡ own
  pub decided : outcome_of (hearing sender verdict (newly_known me ledger.tokens t)) ≡ o
  pub leaves : after ≡ after_vote me (after_register me ledger t) sender verdict t

-- by cases on what the vote did
bringing-by : (limits : Limits) (me : ℕ) (ledger : Ledger) (receiver sender verdict : ℕ) (t : Transaction) (r : Ledger × Answer)
    → ShardEffect limits me ledger (deliver receiver sender verdict t) r → (own : Bool) (o : Outcome) → r.1 ≡ Ok (Brought own o)
    → Bringing limits me ledger receiver sender verdict t own o r.0
bringing-by limits me ledger receiver sender verdict t _ (shard-brought h f) own o e =
    let entry : entry_of t (after_register me ledger t).known ≡ newly_known me ledger.tokens t = registered-entry me ledger t (brought-registers h).unknown in
    let outcome : outcome_of (hearing sender verdict (entry_of t (after_register me ledger t).known)) ≡ o = cc in
    record {
      passes = h;
      form = f;
      voted = cc;
      decided = ap (λ (k : Known). outcome_of (hearing sender verdict k)) (sym entry) ∙ outcome;
      leaves = refl;
    }
bringing-by limits me ledger receiver sender verdict t _ shard-refused own o e = let z : ◌≡◌ {A = ℕ} 0 1 = cc in absurd (omega arith)
bringing-by limits me ledger receiver sender verdict t _ (shard-heard h f z) own o e = let y : ◌≡◌ {A = ℕ} 0 1 = cc in absurd (omega arith)
bringing-by limits me ledger receiver sender verdict t _ (shard-again h z) own o e = let y : ◌≡◌ {A = ℕ} 0 1 = cc in absurd (omega arith)

module _ (limits : Limits) (me : ℕ) (ledger : Ledger) (receiver sender verdict : ℕ) (t : Transaction) (own : Bool) (o : Outcome)
    (e : (shard_step limits me ledger (deliver receiver sender verdict t)).1 ≡ Ok (Brought own o)) where
  -- the vote
  abbrev call : Call
  call = deliver receiver sender verdict t

  -- the transaction as its registration enters it, and the ledger then
  abbrev entered : Known
  entered = newly_known me ledger.tokens t

  abbrev registered : Ledger
  registered = after_register me ledger t

  pub bringing : Bringing limits me ledger receiver sender verdict t own o (shard_step limits me ledger call).0
  bringing = bringing-by limits me ledger receiver sender verdict t (shard_step limits me ledger call) (shard-effect limits me ledger call) own o e

  -- first the registration, with this verdict
  pub brings-first : shard_step limits me ledger (register receiver t) ≡ (registered, Ok (Registered own (outcome_of entered)))
  unfolding shard_step
  brings-first =
      unless-done (first_of (register_refusals limits me ledger receiver t)) ledger
      (registered, Ok (Registered (vote me ledger.tokens t) (outcome_of entered))) bringing.passes.registers
      ∙ ap (λ (b : Bool). (registered, Ok (Registered b (outcome_of entered)))) bringing.voted

  -- then the vote, with this outcome
  pub brings-then : shard_step limits me registered call ≡ ((shard_step limits me ledger call).0, Ok (Heard o))
  unfolding shard_step hear
  brings-then =
      let h = bringing.passes in
      let after = after_vote me registered sender verdict t in
      let k = entry_of t registered.known in
      let outcome : outcome_of (hearing sender verdict k) ≡ o =
      ap (λ (k : Known). outcome_of (hearing sender verdict k)) (registered-entry me ledger t (brought-registers h).unknown) ∙ bringing.decided in
      unless-done (first_of (deliver_refusals limits me registered receiver sender verdict t)) registered (delivered me registered sender verdict t)
      (brought-passes h bringing.form)
      ∙ ap (λ (b : Bool). cond b (bring me registered sender verdict t) (hear me registered sender verdict t)) (brought-known h)
      ∙ ap (λ (b : Bool). cond b (registered, Ok (Again (outcome_of k))) (after, Ok (Heard (outcome_of (hearing sender verdict k)))))
      (ap is_some (brought-fresh h))
      ∙ (λ i. (sym bringing.leaves i, Ok (Heard (outcome i))))

  -- ---- What it is answered

  -- this shard is one of the transaction's, and so is the sender
  formed : FormPasses limits me receiver t
  formed = bringing.passes.passes.form

  here : me < 8
  here = subst (λ (p : ℕ). p < 8) formed.addressed (shard-below receiver formed.receiver_fits)

  part : Memᴰ me (shards_of t)
  part = subst (λ (p : ℕ). Memᴰ p (shards_of t)) formed.addressed (part_in receiver t formed.is_part)

  sender-part : Memᴰ sender (shards_of t)
  sender-part = part_in sender t bringing.passes.passes.sender-part

  unheard : heard_from sender entered ≡ None
  unheard =
      let h = bringing.passes in
      ap (heard_from sender) (sym (registered-entry me ledger t (brought-registers h).unknown)) ∙ brought-fresh h

  below : sender < length entered.heard
  unfolding newly_known
  below =
      let eight = length-set (replicate 8 None) me (Some (vote me ledger.tokens t)) in
      let small = shard-below sender bringing.passes.passes.sender-fits in
      omega arith

  -- NO ABORT: the own no aborts
  pub brought-no : own ≡ false → o ≡ Abort
  brought-no n = sym bringing.decided ∙ abort_stays entered sender verdict unheard (own-no me ledger.tokens t here part (bringing.voted ∙ n))

  -- YES ABORT: the sender's no aborts
  pub brought-by-no : verdict ≡ 0 → o ≡ Abort
  unfolding newly_known
  brought-by-no n =
      let noted : heard_from sender (hearing sender verdict entered) ≡ Some (eqb verdict 1) =
      get_or-set_same entered.heard sender (Some (eqb verdict 1)) None below in
      let said = noted ∙ ap (λ (v : ℕ). Some (eqb v 1)) n in
      sym bringing.decided ∙ no_abort (hearing sender verdict entered) (record { sender = sender; is_part = sender-part; said = said })

  -- YES WAIT and YES COMMIT: two that are yes do not
  pub brought-yes : own ≡ true → verdict ≡ 1 → o ≢ Abort
  unfolding newly_known
  brought-yes y v a =
      let n = outcome_no (hearing sender verdict entered) (bringing.decided ∙ a) in
      let yes : ◌≡◌ {A = Said} (Some (eqb verdict 1)) (Some false) → ⊥ = λ z. no≢yes (sym z ∙ ap (λ (v : ℕ). Some (eqb v 1)) v) in
      let others : (q : ℕ) → (q ≡ sender → ⊥) → heard_from q entered ≡ Some false → Memᴰ q (shards_of t) → ⊥ =
      λ q d z m. own-yes me ledger.tokens t here (bringing.voted ∙ y) (no_abort entered (record { sender = q; is_part = m; said = z })) in
      set-elim (λ q c. c ≡ Some false → Memᴰ q (shards_of t) → ⊥) entered.heard None sender (Some (eqb verdict 1)) below (λ z m. yes z) others
      n.sender n.said n.is_part

  -- ---- How many votes bring the decision

  -- no vote brings a transaction of one shard: its registration decides it (Votes: `one-shard`)
  pub one-shard-alone : ((q : ℕ) → Memᴰ q (shards_of t) → q ≡ me) → ⊥
  one-shard-alone only = bringing.passes.from-other (only sender sender-part)

  -- the vote that brings it is the first of those that bring the decision: with k shards k − 2 are left
  pub brought-votes : ((q : ℕ) → Memᴰ q (shards_of t) → q < 8) → (votes : List (ℕ × ℕ)) → Fresh votes (hearing sender verdict entered)
      → Brings entered ((sender, verdict) ∷ votes) (shard_count t)
  brought-votes eight votes fresh =
      let h = bringing.passes in
      let mine : takes_part me t ≡ true = subst (λ (p : ℕ). takes_part p t ≡ true) formed.addressed formed.is_part in
      let said : takes_part sender entered.transaction ≡ true = unfold newly_known in h.passes.sender-part in
      votes-bring me ledger.tokens t here mine eight ((sender, verdict) ∷ votes) (said, unheard, h.passes.verdict_fits, fresh)

-- ---- In a cluster

module _ (limits : Limits) (shards : List Ledger) (p sender verdict : ℕ) (t : Transaction) (own : Bool) (o : Outcome)
    (e : (cluster_step limits shards (deliver p sender verdict t)).1 ≡ Ok (Brought own o)) where
  -- the receiver's ledger before the vote, and the vote
  abbrev ledger : Ledger
  ledger = ledger_at limits shards p

  abbrev vote-in : Call
  vote-in = deliver p sender verdict t

  -- it is not refused with 16, and so answered by its receiver, of which all that was said holds
  pub brought-at : (not_given limits shards p sender verdict t ≡ false) × ((shard_step limits p ledger vote-in).1 ≡ Ok (Brought own o))
  unfolding at_shard
  brought-at =
      deliver-elim limits shards p sender verdict t
      (λ r. r.1 ≡ Ok (Brought own o) → (not_given limits shards p sender verdict t ≡ false) × ((shard_step limits p ledger vote-in).1 ≡ Ok (Brought own o)))
      (λ z. let y : ◌≡◌ {A = ℕ} 0 1 = cc in absurd (omega arith)) (λ given z. (given, z)) e

  abbrev between : List Ledger
  between = set shards p (after_register p ledger t)

  -- first the registration
  pub brings_first_in : cluster_step limits shards (register p t) ≡ (between, Ok (Registered own (outcome_of (newly_known p ledger.tokens t))))
  unfolding cluster_step at_shard
  brings_first_in =
      let first = brings-first limits p ledger p sender verdict t own o brought-at.1 in
      λ i. (set shards p (first i).0, (first i).1)

  -- then the vote
  pub brings_then_in : length shards ≡ 8 → cluster_step limits between vote-in ≡ ((cluster_step limits shards vote-in).0, Ok (Heard o))
  unfolding cluster_step at_shard not_given
  brings_then_in eight =
      let b = bringing limits p ledger p sender verdict t own o brought-at.1 in
      let second = brings-then limits p ledger p sender verdict t own o brought-at.1 in
      let below : p < length shards = let s = shard-below p b.passes.passes.form.receiver_fits in omega arith in
      let here : ledger_at limits between p ≡ after_register p ledger t = get_or-set_same shards p (after_register p ledger t) (empty_ledger limits) below in
      let others : ledger_at limits between sender ≡ ledger_at limits shards sender =
      get_or-set_other shards p sender (after_register p ledger t) (empty_ledger limits) b.passes.from-other in
      let form = is_ok (first_of (deliver_form limits p p sender verdict t)) in
      let given : not_given limits between p sender verdict t ≡ false = ap (λ (l : Ledger). form && not (gave l sender verdict t)) others ∙ brought-at.0 in
      let after : Ledger = (shard_step limits p ledger vote-in).0 in
      ap (λ (b : Bool). cond b (between, Err VoteNotGiven) (at_shard limits between p vote-in)) given
      ∙ ap (λ (l : Ledger). (set between p (shard_step limits p l vote-in).0, (shard_step limits p l vote-in).1)) here
      ∙ (λ i. (set between p (second i).0, (second i).1))
      ∙ (λ i. (set-set shards p (after_register p ledger t) after i, Ok (Heard o)))
      ∙ (λ i. ((cond (sym brought-at.0 i) (shards, Err VoteNotGiven) (at_shard limits shards p vote-in)).0, Ok (Heard o)))

-- the log is the one that the registration would have left at the place of the vote's call
pub brings-log : (limits : Limits) (place : ℕ) (model : Model) (p sender verdict : ℕ) (t : Transaction) (own : Bool) (o : Outcome)
    → (step limits place model (deliver p sender verdict t)).1 ≡ Ok (Brought own o)
    → (step limits place model (deliver p sender verdict t)).0.log ≡ (step limits place model (register p t)).0.log
unfolding step log_after
brings-log limits place model p sender verdict t own o e =
    let first = brings_first_in limits model.shards p sender verdict t own o e in
    ap (logged limits place model p t) e ∙ sym (ap (λ (done : List Ledger × Answer). logged limits place model p t done.1) first)
