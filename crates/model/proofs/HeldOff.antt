-- Laws of 17, a registration held off, or a vote that would bring its transaction: it changes nothing; once the first transaction is decided
-- here, its outputs hold nobody off; and a transaction whose inputs here are all made and free is never held off, and is voted yes.
use Prim.Native.Nat.{ℕ}
use native.Mathlib.Omega.{arith}
use mathlib.Core.Path.{◌≡◌, refl, ap, sym, ◌∙◌}
use mathlib.Core.Logic.{◌≢◌}
use mathlib.Core.Bool.{Bool, true, false, cond, not, ◌&&◌}
use mathlib.Core.Option.{Option, none, some}
use mathlib.Core.List.{List, ◌++◌, Memᴰ}
use Rattle.transaction.specs.declared.Input.{Input}
use Rattle.transaction.specs.declared.Transaction.{Transaction}
use Rattle.transaction.specs.Lists.{any, first_of}
use Rattle.model.specs.declared.Token.{Token}
use Rattle.model.specs.declared.Known.{Known}
use Rattle.model.specs.declared.Outcome.{Outcome}
use Rattle.model.specs.declared.Outcome.TheVariants.{Wait, Commit, Abort}
use Rattle.model.specs.Answers.{Answer}
use Rattle.model.specs.declared.Done.TheVariants.{Registered, Brought}
use Rattle.model.specs.Steps.{Limits, Ledger, names, inputs_here, vote, newly_known, outcome_of, made_here, after_register}
use Rattle.model.specs.Shard.{
  Call,
  register,
  is_undecided,
  awaits,
  held_off,
  register_refusals,
  unless,
  shard_step,
  deliver,
  is_unknown,
  bring_rest,
  hear_rest,
  deliver_form,
  deliver_rest,
  deliver_refusals,
}
use Rattle.model.specs.Cluster.{ledger_at, at_shard, cluster_step}
use Rattle.model.specs.Model.{Entry, Model, step, play}
use Rattle.model.specs.Demand.{Value, token_at, outcome_at}
use Rattle.model.proofs.Basics.{both, not_yes, clash, any_at, any-no, some≢none, some_inj, or_else, never_answers, number_behind}
use Rattle.model.proofs.Entries.{look, mem-look}
use Rattle.model.proofs.Holdings.{made-named}
use Rattle.model.proofs.Invariant.{Core, made, gain, by_commit, on_commit, held-made}
use Rattle.model.proofs.Local.{found-token, yes-finds}
use Rattle.model.proofs.Effects.{deliver-elim}
use Rattle.model.proofs.Steps.{play-inv}
use Rattle.model.proofs.Decisions.{knows, final_at}
use Rattle.model.proofs.Laws.{leaves, model_unchanged}
use Rattle.model.proofs.Tables.{unless_never, deliver-number}
use Rattle.model.proofs.Brought.{brings_first_in}
use Rattle.std.specs.Prelude.{Result, Ok, Err}
use Rattle.transaction.specs.declared.refusal.Refusal.{Refusal}
use Rattle.transaction.specs.declared.refusal.Refusal.TheVariants.{HeldOff}

-- the outcome is wait
is_wait : (o : Outcome) → is_undecided o ≡ true → o ≡ Wait
is_wait Wait e = refl
is_wait Commit e = clash e refl
is_wait Abort e = clash e refl

-- ---- What an input awaits

-- the known transaction that the input awaits: it is undecided, and has the number that the input names
pub record Awaited (me : ℕ) (x : Input) (known : List Known) : Type 0 where
  pub entry : Known
  pub is_known : Memᴰ entry known
  pub undecided : outcome_of entry ≡ Wait
  pub numbered : entry.transaction.number ≡ x.token.creator

-- what a test that holds has found
awaited : (me : ℕ) (x : Input) (known : List Known) → any (awaits me x) known ≡ true → Awaited me x known
awaited me x known e =
    let r = any_at (awaits me x) known e in
    let k : Known = r.0 in
    let b = both (is_undecided (outcome_of k)) (any (names x) (made_here me k.transaction)) r.2 in
    record {
      entry = k;
      is_known = r.1;
      undecided = is_wait (outcome_of k) b.0;
      numbered = made-named me x k.transaction b.1;
    }

-- ---- 17 no longer fits

-- a registration that 17 refuses changes nothing, and neither does a vote that would bring its transaction: the shards, the log and the genesis tokens
-- stay as they were
pub held_off_unchanged : (limits : Limits) (place : ℕ) (model : Model) (call : Call)
    → (step limits place model call).1 ≡ Err HeldOff → (step limits place model call).0 ≡ model
held_off_unchanged limits place model call e = model_unchanged limits place model call (ap leaves e)

-- once the first transaction is decided at a shard, no input that names it awaits it there, at that time or later
pub decided-not-awaited : (limits : Limits) (calls more : List Call) (p : ℕ) (first : Transaction) (x : Input)
    → x.token.creator ≡ first.number → outcome_at limits (play limits calls) p first ≢ Wait
    → any (awaits p x) (ledger_at limits (play limits (calls ++ more)).shards p).known ≡ false
decided-not-awaited limits calls more p first x named decided = not_yes no
  where
    model : Model
    model = play limits (calls ++ more)

    known : List Known
    known = (ledger_at limits model.shards p).known

    no : any (awaits p x) known ≡ true → ⊥
    no e =
        let inv = play-inv limits (calls ++ more) in
        let later : outcome_at limits model p first ≢ Wait = λ z. decided (sym (final_at limits calls more p first decided) ∙ z) in
        let k = knows limits model inv p first later in
        let a = awaited p x known e in
        let there : look known first.number ≡ some a.entry =
        ap (look known) (sym (a.numbered ∙ named)) ∙ mem-look known (inv.at p).core.one_each a.is_known in
        let same : k.entry ≡ a.entry = some_inj (sym k.is_known ∙ there) in
        later (k.is_outcome ∙ ap outcome_of same ∙ a.undecided)

-- ---- Inputs that are made and free

-- a token that is held was not made by an undecided transaction
held-not-awaited : {log : List Entry} {p : ℕ} {tokens : List Token} {genesis : ℕ → ℕ → Option Value} {known : List Known}
    → Core log p tokens genesis known → (x : Input) {token : Token}
    → token_at tokens x.token.creator x.token.index ≡ some token → any (awaits p x) known ≡ false
unfolding made
held-not-awaited {p = p} {genesis = genesis} {known = known} core x {token} held = not_yes no
  where
    m : ℕ
    m = x.token.creator

    no : any (awaits p x) known ≡ true → ⊥
    no e =
        let a = awaited p x known e in
        let there : look known m ≡ some a.entry =
        ap (look known) (sym a.numbered) ∙ mem-look known core.one_each a.is_known in
        let nothing : made p genesis known m x.token.index ≡ none =
        (λ j. or_else (core.zero-only m x.token.index (core.number m a.entry there) j) (by_commit p (there j) m x.token.index))
        ∙ ap (λ (o : Outcome). on_commit o (gain p a.entry.transaction m x.token.index)) a.undecided in
        some≢none (held-made core m x.token.index held) nothing

-- all inputs of the transaction at the shard are made and free
abbrev pub Free : Limits → List Call → ℕ → Transaction → Type 0
Free limits calls p t = vote p (ledger_at limits (play limits calls).shards p).tokens t ≡ true

-- then it is not held off
pub free-passes : (limits : Limits) (calls : List Call) (p : ℕ) (t : Transaction) → Free limits calls p t
    → held_off p (ledger_at limits (play limits calls).shards p).known t ≡ false
unfolding held_off
free-passes limits calls p t free =
    let ledger : Ledger = ledger_at limits (play limits calls).shards p in
    let ok = (play-inv limits calls).at p in
    any-no (λ x. any (awaits p x) ledger.known) (inputs_here p t)
    (λ x m e.
    let found = found-token p ledger.tokens t ok.no_twice x (yes-finds p ledger.tokens t free x m) in
    clash e (held-not-awaited ok.core x found.is-there))

-- a transaction whose inputs here are all made and free when it is sent is not refused with 17, and where it is registered, it is voted yes; by a
-- registration, and by a vote that brings it
module _ (limits : Limits) (calls : List Call) (p : ℕ) (t : Transaction) (free : Free limits calls p t) where
  abbrev ledger : Ledger
  ledger = ledger_at limits (play limits calls).shards p

  abbrev outcome : Outcome
  outcome = outcome_of (newly_known p ledger.tokens t)

  -- no row of either table says 17
  passes_17 : not (held_off p ledger.known t) && true ≡ true
  passes_17 = ap (λ (b : Bool). not b && true) (free-passes limits calls p t free)

  pub free-registers : (cluster_step limits (play limits calls).shards (register p t)).1 ≢ Err HeldOff
  unfolding cluster_step at_shard shard_step register_refusals
  free-registers =
      unless_never HeldOff (register_refusals limits p ledger p t) passes_17 ledger
      (after_register p ledger t, Ok (Registered (vote p ledger.tokens t) outcome)) (λ y. let z : ◌≡◌ {A = ℕ} 0 1 = cc in omega arith)

  pub free-voted : (v : Bool) (o : Outcome) → (cluster_step limits (play limits calls).shards (register p t)).1 ≡ Ok (Registered v o) → v ≡ true
  unfolding cluster_step at_shard shard_step
  free-voted v o e = go (first_of (register_refusals limits p ledger p t)) e
    where
      go : (found : Result Unit Refusal)
          → (unless {A = Ledger} found ledger (after_register p ledger t, Ok (Registered (vote p ledger.tokens t) outcome))).1 ≡ Ok (Registered v o) → v ≡ true
      go (Ok tt) e = let z : vote p ledger.tokens t ≡ v = cc in sym z ∙ free
      go (Err refusal) e = let y : ◌≡◌ {A = ℕ} 0 1 = cc in absurd (omega arith)

  module _ (sender verdict : ℕ) where
    pub free-brings : (cluster_step limits (play limits calls).shards (deliver p sender verdict t)).1 ≢ Err HeldOff
    unfolding at_shard deliver_refusals deliver_form
    free-brings =
        deliver-elim limits (play limits calls).shards p sender verdict t (λ r. r.1 ≢ Err HeldOff)
        (λ e. let z : ◌≡◌ {A = ℕ} 0 1 = cc in omega arith) (λ given e. answered e)
      where
        rest : (unknown : Bool) → first_of (cond unknown (bring_rest limits p ledger sender t) (hear_rest ledger sender verdict t)) ≡ Err HeldOff → ⊥
        rest true e = never_answers HeldOff (bring_rest limits p ledger sender t) passes_17 e
        rest false e = never_answers HeldOff (hear_rest ledger sender verdict t) refl e

        answered : (shard_step limits p ledger (deliver p sender verdict t)).1 ≢ Err HeldOff
        answered e =
            let form = deliver_form limits p p sender verdict t in
            let said =
            number_behind HeldOff form (deliver_rest limits p ledger sender verdict t) refl (deliver-number limits p ledger sender verdict t HeldOff e) in
            rest (is_unknown t ledger.known) said.1

    pub free-brought : (v : Bool) (o : Outcome)
        → (cluster_step limits (play limits calls).shards (deliver p sender verdict t)).1 ≡ Ok (Brought v o) → v ≡ true
    free-brought v o e =
        let registered = brings_first_in limits (play limits calls).shards p sender verdict t v o e in
        free-voted v outcome (ap (λ (r : List Ledger × Answer). r.1) registered)
