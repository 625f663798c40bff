-- From the contracts of an engine's calls to demand 3 about its runs.
use Prim.Native.Nat.{ℕ, suc}
use mathlib.Core.Path.{◌≡◌, refl, ap, sym, ◌∙◌, subst}
use mathlib.Core.Logic.{◌↔◌, ◌≢◌}
use mathlib.Core.Bool.{true}
use mathlib.Core.List.{List, [], ◌∷◌, ◌++◌, Memᴰ}
use Rattle.transaction.specs.declared.TokenId.{TokenId}
use Rattle.transaction.specs.declared.Input.{Input}
use Rattle.transaction.specs.declared.Transaction.{Transaction}
use Rattle.transaction.specs.Lists.{any}
use Rattle.transaction.specs.Tokens.{used_inputs, shards_of}
use Rattle.model.specs.declared.Outcome.{Outcome}
use Rattle.model.specs.declared.Outcome.TheVariants.{Wait, Commit}
use Rattle.model.specs.Answers.{Answer}
use Rattle.model.specs.declared.Findings.{Findings}
use Rattle.model.specs.Lists.{map_option}
use Rattle.model.specs.Steps.{Limits, Ledger}
use Rattle.model.specs.Shard.{Call}
use Rattle.model.specs.Cluster.{empty_shards, ledger_at, cluster_step}
use Rattle.model.specs.Model.{Model, empty_model, step, after, answers, play, play_answers}
use Rattle.model.specs.Findings.{report_at, reported, TrueFindings}
use Rattle.model.specs.Demand.{outcome_in, heard_all_in, WasAvailable, commits, committed, token_at, token_value, Demand3}
use Rattle.model.proofs.Theorem.{demand_3}
use Rattle.model.proofs.Tables.{never_eleven}
use Rattle.model.proofs.TrueFindings.{true_findings}
use Rattle.std.specs.Prelude.{Ok, Err}
use Rattle.transaction.specs.declared.refusal.Refusal.TheVariants.{NumberUnknown}

-- the model's step is the cluster's step, with the model's notes
pub step_cluster : (limits : Limits) (place : ℕ) (model : Model) (call : Call)
    → ◌≡◌ {A = List Ledger × Answer} ((step limits place model call).0.shards, (step limits place model call).1) (cluster_step limits model.shards call)
unfolding step
step_cluster limits place model call = refl

-- An engine: states, a `view` of a state as ledgers, what the contracts require of a state and ensure of the next (`Sound`),
-- and the relation that the contracts of its calls state (`Does`). Its first state is empty, and each call ensures the cluster step's equation.
pub record Engine (limits : Limits) : Type 1 where
  -- the engine's states
  pub State : Type 0
  pub view : State → List Ledger
  pub Sound : State → Type 0
  pub Does : State → Call → State → Answer → Type 0
  pub first : State
  pub first-sound : Sound first
  pub first-empty : view first ≡ empty_shards limits
  pub keeps : (s s' : State) (c : Call) (a : Answer) → Sound s → Does s c s' a → Sound s'
  pub same_answer : (s s' : State) (c : Call) (a : Answer) → Sound s → Does s c s' a → a ≡ (cluster_step limits (view s) c).1
  pub same-ledgers : (s s' : State) (c : Call) (a : Answer) → Sound s → Does s c s' a → view s' ≡ (cluster_step limits (view s) c).0

-- the ledgers themselves are an engine, so the hypotheses can be met
abbrev pub reference : (limits : Limits) → Engine limits
reference limits = record {
  State = List Ledger;
  view = λ s. s;
  Sound = λ s. Unit {0};
  Does = λ s c s' a. (a ≡ (cluster_step limits s c).1) × (s' ≡ (cluster_step limits s c).0);
  first = empty_shards limits;
  first-sound = tt;
  first-empty = refl;
  keeps = λ s s' c a g d. tt;
  same_answer = λ s s' c a g d. d.0;
  same-ledgers = λ s s' c a g d. d.1;
}

module _ {limits : Limits} (engine : Engine limits) where
  -- the engine's states
  abbrev State : Type 0
  State = engine.State

  -- the ledger that a state shows for a shard
  abbrev ledger : State → ℕ → Ledger
  ledger s p = ledger_at limits (engine.view s) p

  -- A run: each call gets the state that the one before it returned. Calls and answers stand in order, the first one first.
  pub data Run : State → List Call → List Answer → State → Type 0 where
    done : {s : State} → Run s [] [] s
    then : {s s' s'' : State} {c : Call} {a : Answer} {calls : List Call} {replies : List Answer}
        → engine.Does s c s' a → Run s' calls replies s'' → Run s (c ∷ calls) (a ∷ replies) s''

  -- what a run gives beside the model's play
  record Follows (place : ℕ) (model : Model) (calls : List Call) (replies : List Answer) (s : State) : Type 0 where
    answered : replies ≡ answers limits place model calls
    viewed : engine.view s ≡ (after limits place model calls).shards

  -- a run follows the play from the model that its first state shows
  run-from : (place : ℕ) (model : Model) {s s' : State} {calls : List Call} {replies : List Answer} → engine.Sound s → engine.view s ≡ model.shards
      → Run s calls replies s' → Follows place model calls replies s'
  unfolding after answers
  run-from place model g e done = record { answered = refl; viewed = e }
  run-from place model {s = s} g e (then {s' = s₁} {c = c} {a = a} x rest) =
      let z = step_cluster limits place model c in
      let one : a ≡ (step limits place model c).1 =
      engine.same_answer s s₁ c a g x ∙ ap (λ (l : List Ledger). (cluster_step limits l c).1) e ∙ sym (ap (λ (y : List Ledger × Answer). y.1) z) in
      let h = run-from (suc place) (step limits place model c).0 (engine.keeps s s₁ c a g x)
      (engine.same-ledgers s s₁ c a g x ∙ ap (λ (l : List Ledger). (cluster_step limits l c).0) e ∙ sym (ap (λ (y : List Ledger × Answer). y.0) z)) rest in
      record { answered = λ j. one j ∷ h.answered j; viewed = h.viewed }

  -- from the first state: the answers and the ledgers are the model's
  record Played (calls : List Call) (replies : List Answer) (s : State) : Type 0 where
    answered : replies ≡ play_answers limits calls
    viewed : engine.view s ≡ (play limits calls).shards

  -- every run
  played : {s : State} {calls : List Call} {replies : List Answer} → Run engine.first calls replies s → Played calls replies s
  unfolding play play_answers
  played x = let h = run-from 1 (empty_model limits) engine.first-sound engine.first-empty x in record { answered = h.answered; viewed = h.viewed }

  -- a run that goes on
  run-append : {s s' s'' : State} {calls more : List Call} {replies others : List Answer} → Run s calls replies s'
      → Run s' more others s'' → Run s (calls ++ more) (replies ++ others) s''
  run-append done y = y
  run-append (then x rest) y = then x (run-append rest y)

  -- Demand 3, of a run of the engine from its first state, read off its own states.
  pub record RunDemand (calls : List Call) (replies : List Answer) (s : State) : Type 0 where
    -- the answers, and the ledgers after the run, are the model's
    pub answered : replies ≡ play_answers limits calls
    pub viewed : engine.view s ≡ (play limits calls).shards
    -- no two shards decide one transaction differently
    pub agreement : (p q : ℕ) (t : Transaction) → outcome_in (ledger s p) t ≢ Wait → outcome_in (ledger s q) t ≢ Wait
        → outcome_in (ledger s p) t ≡ outcome_in (ledger s q) t
    -- and none changes its decision while the run goes on
    pub finality : (more : List Call) (others : List Answer) (s' : State) → Run s more others s' → (p : ℕ) (t : Transaction)
        → outcome_in (ledger s p) t ≢ Wait → outcome_in (ledger s' p) t ≡ outcome_in (ledger s p) t
    -- a shard that has heard all votes holds the transaction committed exactly when each input was available at its shard's registration
    pub commit_rule : (p : ℕ) (t : Transaction) → heard_all_in (ledger s p) t ≡ true
        → (outcome_in (ledger s p) t ≡ Commit) ↔ ((x : Input) → Memᴰ x (used_inputs t) → WasAvailable (play limits calls).log t x)
    -- the serial order, and the serial run, which succeeds
    pub demand : Demand3 limits calls
    -- where every committed transaction is decided at all its shards, the shards hold exactly the tokens of the serial ledger
    pub one-ledger : ((t : Transaction) → any (commits t) (engine.view s) ≡ true → (p : ℕ) → Memᴰ p (shards_of t) → outcome_in (ledger s p) t ≢ Wait)
        → (id : TokenId) → map_option token_value (token_at (ledger s id.shard).tokens id.creator id.index) ≡ demand.serial.ledger id

  -- the theorem about every run
  pub run_demand_3 : {s : State} {calls : List Call} {replies : List Answer} → Run engine.first calls replies s → RunDemand calls replies s
  unfolding committed
  run_demand_3 {s} {calls} x = record {
    answered = (played x).answered;
    viewed = (played x).viewed;
    agreement = λ p q t. subst
        (λ (l : List Ledger). outcome_in (ledger_at limits l p) t ≢ Wait → outcome_in (ledger_at limits l q) t ≢ Wait
        → outcome_in (ledger_at limits l p) t ≡ outcome_in (ledger_at limits l q) t)
        shown ((demand_3 limits calls).agreement p q t);
    finality = λ more others s' y p t h.
        let outcome : List Ledger → Outcome = λ l. outcome_in (ledger_at limits l p) t in
        ap outcome (played (run-append x y)).viewed ∙ (demand_3 limits calls).finality more p t (λ z. h (sym (ap outcome shown) ∙ z)) ∙ ap outcome shown;
    commit_rule = λ p t. subst
        (λ (l : List Ledger). heard_all_in (ledger_at limits l p) t ≡ true
        → (outcome_in (ledger_at limits l p) t ≡ Commit) ↔ ((x : Input) → Memᴰ x (used_inputs t) → WasAvailable (play limits calls).log t x))
        shown ((demand_3 limits calls).commit_rule p t);
    demand = demand_3 limits calls;
    one-ledger = subst
        (λ (l : List Ledger). ((t : Transaction) → any (commits t) l ≡ true → (p : ℕ) → Memᴰ p (shards_of t) → outcome_in (ledger_at limits l p) t ≢ Wait)
        → (id : TokenId) → map_option token_value (token_at (ledger_at limits l id.shard).tokens id.creator id.index)
        ≡ (demand_3 limits calls).serial.ledger id)
        shown (demand_3 limits calls).one-ledger;
  }
    where
      shown : (play limits calls).shards ≡ engine.view s
      shown = sym (played x).viewed

  -- a state that a run has led to is sound
  pub run_sound : {s s' : State} {calls : List Call} {replies : List Answer} → engine.Sound s → Run s calls replies s' → engine.Sound s'
  run_sound g done = g
  run_sound {s = s} g (then {s' = s₁} {c = c} {a = a} x rest) = run_sound (engine.keeps s s₁ c a g x) rest

  -- and the findings that it reports are true (document 02, 2)
  pub run_true_findings : {s : State} {calls : List Call} {replies : List Answer} → Run engine.first calls replies s → (p number : ℕ) (found : Findings)
      → report_at limits (engine.view s) p number ≡ Ok found
      → TrueFindings limits calls p number (reported (report_at limits (engine.view s) p number))
  run_true_findings {calls = calls} x p number found = subst
      (λ (l : List Ledger). report_at limits l p number ≡ Ok found → TrueFindings limits calls p number (reported (report_at limits l p number)))
      (sym (played x).viewed) (true_findings limits calls p number found)

  -- and in every run 11 is never answered
  pub run_never_eleven : {s : State} {calls : List Call} {replies : List Answer} → Run engine.first calls replies s
      → Memᴰ (Err NumberUnknown) replies → ⊥
  run_never_eleven {calls = calls} x m = never_eleven limits calls (subst (λ (l : List Answer). Memᴰ (Err NumberUnknown) l) (played x).answered m)
