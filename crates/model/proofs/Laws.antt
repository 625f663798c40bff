-- Further laws, each in one line: what a refused call and a repeat leave, tokens found available once, and amounts that balance.
use Prim.Native.Nat.{ℕ, suc, ◌+◌}
use native.Mathlib.Omega.{arith}
use mathlib.Core.Path.{◌≡◌, refl, ap, sym, ◌∙◌, subst}
use mathlib.Core.Logic.{◌≢◌}
use mathlib.Core.Bool.{Bool, true, false, true≢false}
use mathlib.Core.List.{List, ◌++◌, [], ◌∷◌, Memᴰ}
use lib.ListN.{length, set}
use lib.Seq.{set-get_or}
use Rattle.transaction.specs.declared.Input.{Input}
use Rattle.transaction.specs.declared.Transaction.{Transaction}
use Rattle.transaction.specs.Lists.{total, repeats}
use Rattle.transaction.specs.Tokens.{used_inputs, used_outputs}
use Rattle.transaction.specs.Checks.{input_amount, output_amount, balanced}
use Rattle.model.specs.declared.Outcome.TheVariants.{Abort}
use Rattle.model.specs.Answers.{Answer, number_of}
use Rattle.model.specs.declared.Done.TheVariants.{Minted, Registered, Heard, Again, Turned, Brought}
use Rattle.model.specs.Steps.{Limits, Ledger, empty_ledger, inputs_here}
use Rattle.model.specs.Shard.{Call, mint, register, deliver, shard_step, turn}
use Rattle.model.specs.Cluster.{ledger_at, at_shard, cluster_step}
use Rattle.model.specs.Model.{Entry, Model, entry_for, step, after, answers, play}
use Rattle.model.specs.Demand.{committed, outcome_at}
use Rattle.model.proofs.Basics.{eqb-eq, eqb_apart, clash}
use Rattle.model.proofs.Lookups.{alone-repeats}
use Rattle.model.proofs.Entries.{same_number}
use Rattle.model.proofs.Effects.{
  ShardEffect,
  shard-refused,
  shard-minted,
  shard-registered,
  shard-heard,
  shard-again,
  shard-effect,
  did_refuse,
  did_mint,
  did_register,
  did_hear,
  did_repeat,
  effect,
  shard-turned,
  did_turn,
  shard-brought,
  Effects,
  did_one,
  did_bring,
  deliver-elim,
}
use Rattle.model.proofs.Steps.{play-inv, Keeps, play-keeps}
use Rattle.model.proofs.Order.{committed-logged}
use Rattle.model.proofs.Holdings.{in_here}
use Rattle.model.proofs.Decisions.{not_aborted, taken-once}
use Rattle.std.specs.Prelude.{Ok, Err}
use lib.Dec.{eqb}
use Rattle.transaction.specs.declared.refusal.Refusal.{Refusal}
use Rattle.transaction.specs.declared.refusal.Refusal.TheVariants.{
  UnknownKind,
  TooShort,
  OutOfRange,
  TokenTwice,
  SumsDiffer,
  NotTakingPart,
  NumberTaken,
  KnownAlready,
  TransactionsFull,
  TokensFull,
  NumberUnknown,
  OtherVerdict,
  MintTooLate,
  IndexGiven,
  BufferTooShort,
  VoteNotGiven,
  HeldOff,
  NoSuchNumber,
  TurnedAlready,
}
use Rattle.transaction.specs.Refusals.{refusal_number}

-- ---- What changes nothing

-- the answers of calls that change nothing: a refusal and a repeat
abbrev pub leaves : Answer → Bool
leaves (Err refusal) = true
leaves (Ok Minted) = false
leaves (Ok (Registered verdict outcome)) = false
leaves (Ok (Heard outcome)) = false
leaves (Ok (Again outcome)) = true
leaves (Ok Turned) = false
leaves (Ok (Brought verdict outcome)) = false

-- by cases on what a call did at a shard
shard-left : (limits : Limits) (me : ℕ) (ledger : Ledger) (call : Call) (r : Ledger × Answer)
    → ShardEffect limits me ledger call r → leaves r.1 ≡ true → r.0 ≡ ledger
shard-left limits me ledger call _ shard-refused e = refl
shard-left limits me ledger call _ (shard-again h z) e = refl
shard-left limits me ledger call _ (shard-minted h) e = absurd (true≢false (sym e))
shard-left limits me ledger call _ (shard-registered h) e = absurd (true≢false (sym e))
shard-left limits me ledger call _ (shard-heard h g z) e = absurd (true≢false (sym e))
shard-left limits me ledger call _ (shard-turned h) e = absurd (true≢false (sym e))
shard-left limits me ledger call _ (shard-brought h g) e = absurd (true≢false (sym e))

-- a refused call and a repeat change no shard
pub shard_unchanged : (limits : Limits) (me : ℕ) (ledger : Ledger) (call : Call)
    → leaves (shard_step limits me ledger call).1 ≡ true → (shard_step limits me ledger call).0 ≡ ledger
shard_unchanged limits me ledger call e = shard-left limits me ledger call (shard_step limits me ledger call) (shard-effect limits me ledger call) e

-- the same at the receiving shard of a cluster
at_unchanged : (limits : Limits) (shards : List Ledger) (p : ℕ) (call : Call) → leaves (at_shard limits shards p call).1
    ≡ true → (at_shard limits shards p call).0 ≡ shards
unfolding at_shard
at_unchanged limits shards p call e = ap (set shards p) (shard_unchanged limits p (ledger_at limits shards p) call e)
    ∙ set-get_or shards p (empty_ledger limits)

-- they change no shard of a cluster
pub cluster_unchanged : (limits : Limits) (shards : List Ledger) (call : Call)
    → leaves (cluster_step limits shards call).1 ≡ true → (cluster_step limits shards call).0 ≡ shards
unfolding cluster_step
cluster_unchanged limits shards (mint p index owner amount) e = at_unchanged limits shards p (mint p index owner amount) e
cluster_unchanged limits shards (register p t) e = at_unchanged limits shards p (register p t) e
cluster_unchanged limits shards (turn p) e = at_unchanged limits shards p (turn p) e
cluster_unchanged limits shards (deliver p sender verdict t) e =
    deliver-elim limits shards p sender verdict t (λ r. leaves r.1 ≡ true → r.0 ≡ shards) (λ y. refl)
    (λ given y. at_unchanged limits shards p (deliver p sender verdict t) y) e

-- by cases on what a call did to the model
model-left : (limits : Limits) (place : ℕ) (model : Model) (call : Call) (r : Model × Answer)
    → Effects limits place model call r → leaves r.1 ≡ true → r.0 ≡ model
model-left limits place model call _ (did_one did_refuse) e = refl
model-left limits place model call _ (did_one (did_repeat h z)) e = refl
model-left limits place model call _ (did_one (did_mint h)) e = absurd (true≢false (sym e))
model-left limits place model call _ (did_one (did_register h)) e = absurd (true≢false (sym e))
model-left limits place model call _ (did_one (did_hear h g z)) e = absurd (true≢false (sym e))
model-left limits place model call _ (did_one (did_turn h)) e = absurd (true≢false (sym e))
model-left limits place model call _ (did_bring h g) e = absurd (true≢false (sym e))

-- nor do they change the model's notes
pub model_unchanged : (limits : Limits) (place : ℕ) (model : Model) (call : Call)
    → leaves (step limits place model call).1 ≡ true → (step limits place model call).0 ≡ model
model_unchanged limits place model call e = model-left limits place model call (step limits place model call) (effect limits place model call) e

-- the table numbers its rows from 1 on
numbered : (refusal : Refusal) → eqb (refusal_number refusal) 0 ≡ false
numbered UnknownKind = refl
numbered TooShort = refl
numbered OutOfRange = refl
numbered TokenTwice = refl
numbered SumsDiffer = refl
numbered NotTakingPart = refl
numbered NumberTaken = refl
numbered KnownAlready = refl
numbered TransactionsFull = refl
numbered TokensFull = refl
numbered NumberUnknown = refl
numbered OtherVerdict = refl
numbered MintTooLate = refl
numbered IndexGiven = refl
numbered BufferTooShort = refl
numbered VoteNotGiven = refl
numbered HeldOff = refl
numbered NoSuchNumber = refl
numbered TurnedAlready = refl

-- a refusal has a number
number-left : (limits : Limits) (me : ℕ) (ledger : Ledger) (call : Call) (r : Ledger × Answer)
    → ShardEffect limits me ledger call r → (refusal : Refusal) → r.1 ≡ Err refusal → number_of r.1 ≢ 0
number-left limits me ledger call r effect refusal e z = eqb_apart (numbered refusal) (sym (ap number_of e) ∙ z)

-- a refusal has a number
pub refused-number : (limits : Limits) (me : ℕ) (ledger : Ledger) (call : Call) (refusal : Refusal)
    → (shard_step limits me ledger call).1 ≡ Err refusal → number_of (shard_step limits me ledger call).1 ≢ 0
refused-number limits me ledger call = number-left limits me ledger call (shard_step limits me ledger call) (shard-effect limits me ledger call)

-- ---- Tokens and numbers

-- two distinct transactions that a shard has not aborted never both found one of its tokens available; of two that commit, never both
pub available-once : (limits : Limits) (calls : List Call) (p : ℕ) (a b : Entry) (x y : Input)
    → Memᴰ a (play limits calls).log → Memᴰ b (play limits calls).log → a.shard ≡ p → b.shard ≡ p
    → outcome_at limits (play limits calls) p a.transaction ≢ Abort → outcome_at limits (play limits calls) p b.transaction ≢ Abort
    → Memᴰ x a.available → Memᴰ y b.available → x.token ≡ y.token → a.transaction ≡ b.transaction
available-once limits calls p a b x y ma mb sa sb na nb mx my e =
    let model : Model = play limits calls in
    let w = play-inv limits calls in
    ap (λ (r : Entry). r.transaction)
    ((w.at p).disjoint a b ma mb sa sb (λ _. not_aborted limits model w p a ma sa na) (λ _. not_aborted limits model w p b mb sb nb)
    x y mx my (λ i. (e i).creator) (λ i. (e i).index))

-- at a shard that has not turned, two distinct transactions never did, whatever came of them
pub available-once-unturned : (limits : Limits) (calls : List Call) (p : ℕ) (a b : Entry) (x y : Input)
    → Memᴰ a (play limits calls).log → Memᴰ b (play limits calls).log → a.shard ≡ p → b.shard ≡ p
    → (ledger_at limits (play limits calls).shards p).turned ≡ false
    → Memᴰ x a.available → Memᴰ y b.available → x.token ≡ y.token → a.transaction ≡ b.transaction
available-once-unturned limits calls p a b x y ma mb sa sb n mx my e =
    ap (λ (r : Entry). r.transaction)
    (((play-inv limits calls).at p).disjoint a b ma mb sa sb (λ y. clash y n) (λ y. clash y n) x y mx my (λ i. (e i).creator) (λ i. (e i).index))

-- two distinct committed transactions never name one token: a token is destroyed once
pub spent-once : (limits : Limits) (calls : List Call) (t s : Transaction) (x y : Input)
    → committed (play limits calls) t ≡ true → committed (play limits calls) s ≡ true
    → Memᴰ x (used_inputs t) → Memᴰ y (used_inputs s) → x.token ≡ y.token → t ≡ s
spent-once limits calls t s x y ct cs mx my e =
    let q : ℕ = x.token.shard in
    let there : Memᴰ y (inputs_here q s) = subst (λ (p : ℕ). Memᴰ y (inputs_here p s)) (sym (λ i. (e i).shard)) (in_here s y my) in
    taken-once limits (play limits calls) (play-inv limits calls) t s ct cs q x y (in_here t x mx) there (λ i. (e i).creator) (λ i. (e i).index)

-- no shard knows two transactions of one number
pub one_number : (limits : Limits) (calls : List Call) (p : ℕ) → repeats same_number (ledger_at limits (play limits calls).shards p).known ≡ false
one_number limits calls p = alone-repeats same_number (ledger_at limits (play limits calls).shards p).known ((play-inv limits calls).at p).core.one_each

-- ---- Amounts

-- every entry of the log is of a balanced transaction
abbrev Balanced : Model → Type 0
Balanced model = (e : Entry) → Memᴰ e model.log → balanced e.transaction ≡ true

-- by cases on what a call did
keeps-balanced : (limits : Limits) → Keeps limits Balanced
keeps-balanced limits place model w f call _ did_refuse = f
keeps-balanced limits place model w f call _ (did_mint h) = f
keeps-balanced limits place model w f call _ (did_hear h g z) = f
keeps-balanced limits place model w f call _ (did_repeat h z) = f
keeps-balanced limits place model w f call _ (did_turn h) = f
keeps-balanced limits place model w f call _ (did_register {p = p} {t = t} h) = go
  where
    go : (e : Entry) → Memᴰ e (entry_for limits place model.shards p t ∷ model.log) → balanced e.transaction ≡ true
    go e (mathlib.Core.List.Memᴰ.head z) = ap (λ (r : Entry). balanced r.transaction) z ∙ h.form.balances
    go e (mathlib.Core.List.Memᴰ.tail m) = f e m

-- the amounts of a committed transaction balance
pub committed_balance : (limits : Limits) (calls : List Call) (t : Transaction) → committed (play limits calls) t ≡ true
    → total input_amount (used_inputs t) ≡ total output_amount (used_outputs t)
unfolding balanced
committed_balance limits calls t c =
    let r = committed-logged limits (play limits calls) (play-inv limits calls) t c in
    let each : Balanced (play limits calls) = play-keeps limits Balanced (keeps-balanced limits) (λ e m. elim m [ ]) calls in
    let b : balanced t ≡ true = ap balanced (sym r.2) ∙ each r.0 r.1 in
    eqb-eq (total input_amount (used_inputs t)) (total output_amount (used_outputs t)) b

-- ---- Lists of calls one behind the other

-- the model after both
pub after-append : (limits : Limits) (place : ℕ) (model : Model) (calls more : List Call)
    → after limits place model (calls ++ more) ≡ after limits (length calls + place) (after limits place model calls) more
unfolding after
after-append limits place model [] more = ap (λ (n : ℕ). after limits n model more) (omega arith)
after-append limits place model (call ∷ calls) more =
    after-append limits (suc place) (step limits place model call).0 calls more
    ∙ ap (λ (n : ℕ). after limits n (after limits (suc place) (step limits place model call).0 calls) more) (omega arith)

-- and their answers
-- Stays: no proof cites it, and no other law says it.
pub answers-append : (limits : Limits) (place : ℕ) (model : Model) (calls more : List Call)
    → answers limits place model (calls ++ more) ≡ answers limits place model calls
    ++ answers limits (length calls + place) (after limits place model calls) more
unfolding after answers
answers-append limits place model [] more = ap (λ (n : ℕ). answers limits n model more) (omega arith)
answers-append limits place model (call ∷ calls) more =
    ap (λ (l : List Answer). (step limits place model call).1 ∷ l)
    (answers-append limits (suc place) (step limits place model call).0 calls more
    ∙ ap (λ (n : ℕ). answers limits (suc place) (step limits place model call).0 calls
    ++ answers limits n (after limits (suc place) (step limits place model call).0 calls) more) (omega arith))
