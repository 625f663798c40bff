-- The decision (document 01: outcome): what each outcome says of the votes heard, when two decisions agree, and that a decision stands while votes
-- still come in.
use Prim.Native.Nat.{ℕ}
use mathlib.Core.Path.{◌≡◌, refl, ap, sym, ◌∙◌, subst}
use mathlib.Core.Bool.{Bool, true, false, cond}
use mathlib.Core.List.{List, Memᴰ}
use lib.Dec.{eqb}
use lib.Seq.{get_or-set_other}
use Rattle.std.specs.Prelude.{Some, None}
use Rattle.std.proofs.lemmas.Option.{none-some}
use Rattle.transaction.specs.declared.Transaction.{Transaction}
use Rattle.transaction.specs.Tokens.{shards_of}
use Rattle.model.specs.declared.Known.{Known}
use Rattle.model.specs.declared.Outcome.{Outcome}
use Rattle.model.specs.declared.Outcome.TheVariants.{Wait, Commit, Abort}
use Rattle.model.specs.Said.{Said, is_said_yes, is_said_no}
use Rattle.model.specs.Steps.{heard_from, hearing, is_heard, is_yes, is_no, heard_all, all_yes, some_no, decide, outcome_of}
use Rattle.model.proofs.Basics.{eqb_apart, clash, all-at, all_of, any_at, any_of, any_none, any-no}
use Rattle.model.proofs.Said.{no≢yes, yes-said, no-said, yes_of}

-- ---- The three outcomes

-- the outcomes differ
pub commit≢wait : Commit ≡ Wait → ⊥
commit≢wait e = let z : ◌≡◌ {A = ℕ} 0 1 = cc in eqb_apart {m = 0} {n = 1} refl z

-- the outcomes differ
pub abort≢commit : Abort ≡ Commit → ⊥
abort≢commit e = let z : ◌≡◌ {A = ℕ} 0 1 = cc in eqb_apart {m = 0} {n = 1} refl z

-- the outcomes differ
pub abort≢wait : Abort ≡ Wait → ⊥
abort≢wait e = let z : ◌≡◌ {A = ℕ} 0 1 = cc in eqb_apart {m = 0} {n = 1} refl z

-- the outcomes differ
pub wait≢commit : Wait ≡ Commit → ⊥
wait≢commit e = commit≢wait (sym e)

-- ---- What an outcome says of the votes

-- all are yes: each shard of the transaction said yes
said-yes : (k : Known) → all_yes k.transaction k.heard ≡ true → (q : ℕ) → Memᴰ q (shards_of k.transaction) → heard_from q k ≡ Some true
said-yes k y q m = yes-said (heard_from q k) (all-at (is_yes k.heard) (shards_of k.transaction) y q m)

-- a shard of the transaction that said no
pub record SaidNo (k : Known) : Type 0 where
  pub sender : ℕ
  pub is_part : Memᴰ sender (shards_of k.transaction)
  pub said : heard_from sender k ≡ Some false

-- one is no: there is such a shard
said-no : (k : Known) → some_no k.transaction k.heard ≡ true → SaidNo k
said-no k n =
    let r = any_at (is_no k.heard) (shards_of k.transaction) n in
    record { sender = r.0; is_part = r.1; said = no-said (heard_from r.0 k) r.2 }

-- commit: each shard of the transaction said yes
pub outcome_yes : (k : Known) → outcome_of k ≡ Commit → (q : ℕ) → Memᴰ q (shards_of k.transaction) → heard_from q k ≡ Some true
unfolding decide
outcome_yes k e q m = go (some_no k.transaction k.heard) (all_yes k.transaction k.heard) refl e
  where
    go : (n y : Bool) → all_yes k.transaction k.heard ≡ y → cond n Abort (cond y Commit Wait) ≡ Commit → heard_from q k ≡ Some true
    go true y p e = absurd (abort≢commit e)
    go false true p e = said-yes k p q m
    go false false p e = absurd (wait≢commit e)

-- abort: some shard of the transaction said no
pub outcome_no : (k : Known) → outcome_of k ≡ Abort → SaidNo k
unfolding decide
outcome_no k e = go (some_no k.transaction k.heard) (all_yes k.transaction k.heard) refl e
  where
    go : (n y : Bool) → some_no k.transaction k.heard ≡ n → cond n Abort (cond y Commit Wait) ≡ Abort → SaidNo k
    go true y p e = said-no k p
    go false true p e = absurd (abort≢commit (sym e))
    go false false p e = absurd (abort≢wait (sym e))

-- one no suffices
pub no_abort : (k : Known) → SaidNo k → outcome_of k ≡ Abort
unfolding decide
no_abort k n =
    let some-no : some_no k.transaction k.heard ≡ true = any_of (is_no k.heard) n.is_part (ap is_said_no n.said) in
    λ i. cond (some-no i) Abort (cond (all_yes k.transaction k.heard) Commit Wait)

-- yes from each shard brings the commit
pub outcome_commit : (k : Known) → all_yes k.transaction k.heard ≡ true → outcome_of k ≡ Commit
unfolding decide
outcome_commit k y = λ i. cond (none-no i) Abort (cond (y i) Commit Wait)
  where
    none-no : some_no k.transaction k.heard ≡ false
    none-no = any-no (is_no k.heard) (shards_of k.transaction) (λ q m n. no≢yes (sym (no-said (heard_from q k) n) ∙ said-yes k y q m))

-- where all votes are in, commit if all are yes, else abort
pub all_in : (k : Known) → heard_all k.transaction k.heard ≡ true → outcome_of k ≡ cond (all_yes k.transaction k.heard) Commit Abort
unfolding decide
all_in k h = go (some_no k.transaction k.heard) (all_yes k.transaction k.heard) refl refl
  where
    shards : List ℕ
    shards = shards_of k.transaction

    -- heard, and not no
    yes-at : some_no k.transaction k.heard ≡ false → (q : ℕ) → Memᴰ q shards → is_yes k.heard q ≡ true
    yes-at none-no q m =
        yes_of (heard_from q k) (all-at (is_heard k.heard) shards h q m) (any_none (is_no k.heard) none-no m)

    go : (n y : Bool) → some_no k.transaction k.heard ≡ n → all_yes k.transaction k.heard ≡ y
        → cond n Abort (cond y Commit Wait) ≡ cond y Commit Abort
    go true true p e = let no = said-no k p in absurd (no≢yes (sym no.said ∙ said-yes k e no.sender no.is_part))
    go true false p e = refl
    go false true p e = refl
    go false false p e = clash (all_of (is_yes k.heard) shards (yes-at p)) e

-- so it is decided then
pub all_in-decides : (k : Known) → heard_all k.transaction k.heard ≡ true → outcome_of k ≡ Wait → ⊥
all_in-decides k h waits = go (all_yes k.transaction k.heard) (sym (all_in k h) ∙ waits)
  where
    go : (b : Bool) → cond b Commit Abort ≡ Wait → ⊥
    go true = commit≢wait
    go false = abort≢wait

-- ---- Agreement and finality

-- an outcome's three cases
pub data CaseOutcome (k : Known) : Type 0 where
  case_wait : outcome_of k ≡ Wait → CaseOutcome k
  case-commit : outcome_of k ≡ Commit → CaseOutcome k
  case_abort : outcome_of k ≡ Abort → CaseOutcome k

-- every outcome is one of them
pub case_outcome : (k : Known) → CaseOutcome k
case_outcome k = go (outcome_of k) refl
  where
    go : (o : Outcome) → outcome_of k ≡ o → CaseOutcome k
    go Wait e = case_wait e
    go Commit e = case-commit e
    go Abort e = case_abort e

-- what was said is no silence
said-some : {c : Said} {verdict : Bool} → c ≡ Some verdict → c ≡ None → ⊥
said-some {verdict = verdict} e s = none-some verdict (sym s ∙ e)

-- two decisions on one transaction agree where the votes that both have heard do
pub outcome_agree : (j k : Known) → j.transaction ≡ k.transaction
    → ((q : ℕ) → (heard_from q j ≡ None → ⊥) → (heard_from q k ≡ None → ⊥) → heard_from q j ≡ heard_from q k)
    → (outcome_of j ≡ Wait → ⊥) → (outcome_of k ≡ Wait → ⊥) → outcome_of j ≡ outcome_of k
outcome_agree j k e h f g = go (case_outcome j) (case_outcome k)
  where
    -- not every yes here and a no there
    torn : (a b : Known) → a.transaction ≡ b.transaction
        → ((q : ℕ) → (heard_from q a ≡ None → ⊥) → (heard_from q b ≡ None → ⊥) → heard_from q a ≡ heard_from q b)
        → outcome_of a ≡ Commit → outcome_of b ≡ Abort → ⊥
    torn a b e h x y =
        let no = outcome_no b y in
        let q : ℕ = no.sender in
        let yes : heard_from q a ≡ Some true = outcome_yes a x q (subst (λ (s : Transaction). Memᴰ q (shards_of s)) (sym e) no.is_part) in
        no≢yes (sym no.said ∙ sym (h q (said-some yes) (said-some no.said)) ∙ yes)

    go : CaseOutcome j → CaseOutcome k → outcome_of j ≡ outcome_of k
    go (case_wait x) y = absurd (f x)
    go (case-commit x) (case_wait y) = absurd (g y)
    go (case_abort x) (case_wait y) = absurd (g y)
    go (case-commit x) (case-commit y) = x ∙ sym y
    go (case_abort x) (case_abort y) = x ∙ sym y
    go (case-commit x) (case_abort y) = absurd (torn j k e h x y)
    go (case_abort x) (case-commit y) = absurd (torn k j (sym e) (λ q a b. sym (h q b a)) y x)

-- a decision stands where the votes that brought it are still heard, whatever else is heard
pub outcome_stays : (j k : Known) → j.transaction ≡ k.transaction → ((q : ℕ) → (heard_from q j ≡ None → ⊥) → heard_from q k ≡ heard_from q j)
    → (outcome_of j ≡ Wait → ⊥) → outcome_of k ≡ outcome_of j
outcome_stays j k e h f = go (case_outcome j)
  where
    kept : (q : ℕ) (verdict : Bool) → heard_from q j ≡ Some verdict → heard_from q k ≡ Some verdict
    kept q verdict x = h q (said-some x) ∙ x

    go : CaseOutcome j → outcome_of k ≡ outcome_of j
    go (case_wait x) = absurd (f x)
    go (case_abort x) =
        let no = outcome_no j x in
        let there = subst (λ (s : Transaction). Memᴰ no.sender (shards_of s)) e no.is_part in
        no_abort k (record { sender = no.sender; is_part = there; said = kept no.sender false no.said }) ∙ sym x
    go (case-commit x) =
        outcome_commit k (all_of (is_yes k.heard) (shards_of k.transaction) (λ q m.
        ap is_said_yes (kept q true (outcome_yes j x q (subst (λ (s : Transaction). Memᴰ q (shards_of s)) (sym e) m)))))
        ∙ sym x

-- a fresh vote leaves the votes heard before it
pub hearing-keeps : (k : Known) (sender verdict : ℕ) → heard_from sender k ≡ None
    → (q : ℕ) → (heard_from q k ≡ None → ⊥) → heard_from q (hearing sender verdict k) ≡ heard_from q k
hearing-keeps k sender verdict fresh q h =
    get_or-set_other k.heard sender q (Some (eqb verdict 1)) None (λ e. h (ap (λ (a : ℕ). heard_from a k) e ∙ fresh))

-- an aborted transaction stays aborted while fresh votes still come in
pub abort_stays : (k : Known) (sender verdict : ℕ) → heard_from sender k ≡ None → outcome_of k ≡ Abort → outcome_of (hearing sender verdict k) ≡ Abort
abort_stays k sender verdict fresh a =
    outcome_stays k (hearing sender verdict k) refl (hearing-keeps k sender verdict fresh) (λ z. abort≢wait (sym a ∙ z)) ∙ a
