-- How many votes bring a decision: a transaction of one shard is decided by its registration, one of k shards by at most k − 1 fresh votes; a commit
-- needs all of them.
use Prim.Native.Nat.{ℕ, zero, suc, ◌+◌, ◌<◌, ◌≤◌}
use native.Mathlib.Omega.{arith}
use mathlib.Core.Path.{◌≡◌, refl, ap, sym, ◌∙◌, subst}
use mathlib.Core.Logic.{◌≢◌}
use mathlib.Core.Bool.{Bool, true, false, cond, ◌&&◌, not}
use mathlib.Core.List.{List, [], ◌∷◌, Memᴰ}
use lib.Dec.{eqb}
use lib.ListN.{length, replicate, length-set}
use lib.Seq.{get_or-set_same, get_or-set_other}
use Rattle.std.specs.Prelude.{Some, None, is_some}
use Rattle.std.proofs.lemmas.Option.{none-some}
use Rattle.transaction.specs.declared.Transaction.{Transaction}
use Rattle.transaction.specs.Tokens.{shards_of, takes_part}
use Rattle.model.specs.declared.Token.{Token}
use Rattle.model.specs.declared.Finding.{Finding}
use Rattle.model.specs.declared.Known.{Known}
use Rattle.model.specs.declared.Outcome.TheVariants.{Wait, Commit, Abort}
use Rattle.model.specs.Said.{Said, is_said_yes}
use Rattle.model.specs.Steps.{findings, keeping, vote, known_with, newly_known, heard_from, hearing, is_heard, is_yes, heard_all, outcome_of}
use Rattle.model.proofs.Basics.{
  eqb-eq,
  eqb_same,
  eqb_apart,
  not_yes,
  not_is,
  not-no,
  both,
  Case,
  yes-case,
  no-case,
  case,
  all_of,
  any_of,
  set-elim,
  get_or-same,
}
use Rattle.model.proofs.Said.{no≢yes, nothing-said}
use Rattle.model.proofs.Outcomes.{outcome_yes, outcome_no, no_abort, outcome_commit, all_in-decides}
use Rattle.model.proofs.Refusals.{part_in}

-- ---- The own vote

-- the own vote is heard by the registration
own-said : (p : ℕ) (found : List Finding) (verdict : Bool) (t : Transaction) → p < 8 → heard_from p (known_with p found verdict t) ≡ Some verdict
own-said p found verdict t h = get_or-set_same (replicate 8 None) p (Some verdict) None h

-- the own no suffices, however many shards there are
pub own-no : (p : ℕ) (tokens : List Token) (t : Transaction) → p < 8 → Memᴰ p (shards_of t) → vote p tokens t ≡ false
    → outcome_of (newly_known p tokens t) ≡ Abort
unfolding newly_known
own-no p tokens t h member refused =
    let said = own-said p (keeping (findings p tokens t)) (vote p tokens t) t h ∙ ap Some refused in
    no_abort (known_with p (keeping (findings p tokens t)) (vote p tokens t) t) (record { sender = p; is_part = member; said = said })

-- and the own yes aborts nothing: no other vote is heard then
pub own-yes : (p : ℕ) (tokens : List Token) (t : Transaction) → p < 8 → vote p tokens t ≡ true → outcome_of (newly_known p tokens t) ≢ Abort
unfolding newly_known
own-yes p tokens t h yes-here e =
    let own : Known = known_with p (keeping (findings p tokens t)) (vote p tokens t) t in
    let n = outcome_no own e in
    let own-yes-said : ◌≡◌ {A = Said} (Some (vote p tokens t)) (Some false) → ⊥ = λ z. no≢yes (sym z ∙ ap Some yes-here) in
    set-elim (λ q c. c ≡ Some false → ⊥) (replicate 8 None) None p (Some (vote p tokens t)) h own-yes-said
    (λ q d z. none-some false (sym (get_or-same {A = Said} 8 None q) ∙ z)) n.sender n.said

-- a transaction of one shard is decided by its registration: by the own vote
pub one-shard : (p : ℕ) (tokens : List Token) (t : Transaction) → p < 8 → Memᴰ p (shards_of t) → ((q : ℕ) → Memᴰ q (shards_of t) → q ≡ p)
    → outcome_of (newly_known p tokens t) ≡ cond (vote p tokens t) Commit Abort
unfolding newly_known
one-shard p tokens t h member only = go (vote p tokens t) refl
  where
    k : Known
    k = known_with p (keeping (findings p tokens t)) (vote p tokens t) t

    go : (b : Bool) → vote p tokens t ≡ b → outcome_of k ≡ cond b Commit Abort
    go true e = outcome_commit k (all_of (is_yes k.heard) (shards_of t) (λ q m.
        ap is_said_yes (ap (λ (a : ℕ). heard_from a k) (only q m) ∙ own-said p (keeping (findings p tokens t)) (vote p tokens t) t h ∙ ap Some e)))
    go false e = own-no p tokens t h member e

-- ---- k shards

-- the sum of a number over the shards below n
abbrev pub sum_below : (ℕ → ℕ) → ℕ → ℕ
sum_below f zero = 0
sum_below f (suc n) = f n + sum_below f n

-- the number of shards of a transaction, and of those among them that are not heard yet
abbrev pub shard_count : Transaction → ℕ
shard_count t = sum_below (λ q. cond (takes_part q t) 1 0) 8

-- is this shard of the transaction not heard yet
abbrev pub missing_at : Known → ℕ → ℕ
missing_at k q = cond (takes_part q k.transaction && not (is_heard k.heard q)) 1 0

-- how many are not
abbrev pub missing : Known → ℕ
missing k = sum_below (missing_at k) 8

-- two sums that differ at one place
sum_same : (f g : ℕ → ℕ) (n : ℕ) → ((a : ℕ) → a < n → f a ≡ g a) → sum_below f n ≡ sum_below g n
sum_same f g zero h = refl
sum_same f g (suc n) h = λ i. h n (omega arith) i + sum_same f g n (λ a l. h a (omega arith)) i

-- two sums that differ at one place
sum_change : (f g : ℕ → ℕ) (q n : ℕ) → q < n → ((a : ℕ) → (a ≡ q → ⊥) → f a ≡ g a) → sum_below f n + g q ≡ sum_below g n + f q
sum_change f g q zero l h = absurd (omega arith)
sum_change f g q (suc n) l h = go (case (eqb n q)) (λ d. sum_change f g q n d h)
  where
    go : Case (eqb n q) → (q < n → sum_below f n + g q ≡ sum_below g n + f q) → f n + sum_below f n + g q ≡ g n + sum_below g n + f q
    go (yes-case e) ih =
        let z : n ≡ q = eqb-eq n q e in
        let s : sum_below f n ≡ sum_below g n = sum_same f g n (λ a b. h a (λ y. omega arith)) in
        let x : f n ≡ f q = ap f z in
        let y : g n ≡ g q = ap g z in
        omega arith
    go (no-case e) ih =
        let d : n ≡ q → ⊥ = eqb_apart e in
        let s : sum_below f n + g q ≡ sum_below g n + f q = ih (omega arith) in
        let x : f n ≡ g n = h n d in
        omega arith

-- a registration leaves one vote fewer to hear than there are shards
pub missing-registered : (p : ℕ) (tokens : List Token) (t : Transaction) → p < 8 → takes_part p t ≡ true → missing (newly_known p tokens t) + 1 ≡ shard_count t
unfolding newly_known
missing-registered p tokens t h part = let a = here in let b = count in let c = sums in omega arith
  where
    own : Said
    own = Some (vote p tokens t)

    k : Known
    k = known_with p (keeping (findings p tokens t)) (vote p tokens t) t

    and_yes : (b : Bool) → b && true ≡ b
    and_yes true = refl
    and_yes false = refl

    here : missing_at k p ≡ 0
    here =
        ap (λ (c : Said). cond (takes_part p t && not (is_some c)) 1 0) (get_or-set_same (replicate 8 None) p own None h)
        ∙ (λ i. cond (part i && false) 1 0)

    count : ◌≡◌ {A = ℕ} (cond (takes_part p t) 1 0) 1
    count = ap (λ (b : Bool). cond b 1 0) part

    other : (a : ℕ) → (a ≡ p → ⊥) → missing_at k a ≡ cond (takes_part a t) 1 0
    other a n =
        ap (λ (c : Said). cond (takes_part a t && not (is_some c)) 1 0) (get_or-set_other (replicate 8 None) p a own None n ∙ get_or-same 8 None a)
        ∙ ap (λ (b : Bool). cond b 1 0) (and_yes (takes_part a t))

    sums : missing k + cond (takes_part p t) 1 0 ≡ shard_count t + missing_at k p
    sums = sum_change (missing_at k) (λ q. cond (takes_part q t) 1 0) p 8 h other

-- a fresh vote leaves one vote fewer
pub missing-fresh : (k : Known) (q v : ℕ) → q < 8 → length k.heard ≡ 8 → takes_part q k.transaction ≡ true
    → heard_from q k ≡ None → missing (hearing q v k) + 1 ≡ missing k
missing-fresh k q v h long part fresh =
    let l : q < length k.heard = omega arith in
    let here : missing_at (hearing q v k) q ≡ 0 =
    ap (λ (c : Said). cond (takes_part q k.transaction && not (is_some c)) 1 0) (get_or-set_same k.heard q (Some (eqb v 1)) None l)
    ∙ (λ i. cond (part i && false) 1 0) in
    let before : missing_at k q ≡ 1 = λ i. cond (part i && not (is_some (fresh i))) 1 0 in
    let other : (a : ℕ) → (a ≡ q → ⊥) → missing_at (hearing q v k) a ≡ missing_at k a =
    λ a n. ap (λ (c : Said). cond (takes_part a k.transaction && not (is_some c)) 1 0) (get_or-set_other k.heard q a (Some (eqb v 1)) None n) in
    let sums : missing (hearing q v k) + missing_at k q ≡ missing k + missing_at (hearing q v k) q =
    sum_change (missing_at (hearing q v k)) (missing_at k) q 8 h other in
    omega arith

-- a commit misses no vote
pub commit_misses : (k : Known) → outcome_of k ≡ Commit → missing k ≡ 0
commit_misses k e = below 8
  where
    -- a shard that takes part has said yes
    heard-at : (n : ℕ) → takes_part n k.transaction && not (is_heard k.heard n) ≡ true → ⊥
    heard-at n y =
        let r = both (takes_part n k.transaction) (not (is_heard k.heard n)) y in
        let silent : heard_from n k ≡ None = nothing-said (heard_from n k) (not_is r.1) in
        none-some true (sym silent ∙ outcome_yes k e n (part_in n k.transaction r.0))

    below : (n : ℕ) → sum_below (missing_at k) n ≡ 0
    below zero = refl
    below (suc n) = λ i. cond (not_yes (heard-at n) i) 1 0 + below n i

-- decided where no vote is missing
pub none-missing : (k : Known) → ((q : ℕ) → Memᴰ q (shards_of k.transaction) → q < 8) → missing k ≡ 0 → outcome_of k ≢ Wait
unfolding takes_part
none-missing k below e = all_in-decides k all-heard
  where
    zero-at : (n : ℕ) (f : ℕ → ℕ) (q : ℕ) → q < n → sum_below f n ≡ 0 → f q ≡ 0
    zero-at zero f q l e = absurd (omega arith)
    zero-at (suc n) f q l e = go (case (eqb n q)) (zero-at n f q)
      where
        go : Case (eqb n q) → (q < n → sum_below f n ≡ 0 → f q ≡ 0) → f q ≡ 0
        go (yes-case y) ih = let z : f n ≡ f q = ap f (eqb-eq n q y) in omega arith
        go (no-case y) ih = let d : n ≡ q → ⊥ = eqb_apart y in ih (omega arith) (omega arith)

    heard-at : (q : ℕ) → Memᴰ q (shards_of k.transaction) → missing_at k q ≡ 0 → is_heard k.heard q ≡ true
    heard-at q m e = not-no (is_heard k.heard q) (not_yes (λ z.
        let one : missing_at k q ≡ 1 = λ i. cond (any_of (eqb q) m (eqb_same q) i && z i) 1 0 in
        eqb_apart {m = 0} {n = 1} refl (sym e ∙ one)))

    all-heard : heard_all k.transaction k.heard ≡ true
    all-heard = all_of (is_heard k.heard) (shards_of k.transaction) (λ q m. heard-at q m (zero-at 8 (missing_at k) q (below q m) e))

-- votes, each a sender and a verdict, heard one after the other
abbrev pub hear_each : List (ℕ × ℕ) → Known → Known
hear_each [] k = k
hear_each (v ∷ votes) k = hear_each votes (hearing v.0 v.1 k)

-- each yes or no, from a shard of the transaction that was not heard before
abbrev pub Fresh : List (ℕ × ℕ) → Known → Type 0
Fresh [] k = Unit {0}
Fresh (v ∷ votes) k = (takes_part v.0 k.transaction ≡ true) × (heard_from v.0 k ≡ None) × (v.1 ≤ 1) × Fresh votes (hearing v.0 v.1 k)

-- what fresh votes leave
record Hears (votes : List (ℕ × ℕ)) (k : Known) : Type 0 where
  fewer : missing (hear_each votes k) + length votes ≡ missing k
  whole : (hear_each votes k).transaction ≡ k.transaction

-- each of them leaves one vote fewer to hear
hears-each : (votes : List (ℕ × ℕ)) (k : Known) → ((q : ℕ) → Memᴰ q (shards_of k.transaction) → q < 8) → length k.heard ≡ 8
    → Fresh votes k → Hears votes k
hears-each [] k below long f = record { fewer = omega arith; whole = refl }
hears-each (v ∷ votes) k below long f =
    let next : Known = hearing v.0 v.1 k in
    let h : v.0 < 8 = below v.0 (part_in v.0 k.transaction f.0) in
    let r = hears-each votes next below (length-set k.heard v.0 (Some (eqb v.1 1)) ∙ long) f.3 in
    let s : missing (hear_each votes next) + length votes ≡ missing next = r.fewer in
    let o : missing next + 1 ≡ missing k = missing-fresh k v.0 v.1 h long f.0 f.1 in
    record { fewer = omega arith; whole = r.whole }

-- how many fresh votes after the registration bring the decision on a transaction of k shards
pub record Brings (start : Known) (votes : List (ℕ × ℕ)) (shards : ℕ) : Type 0 where
  -- there are at most k − 1 of them
  pub at_most : length votes + 1 ≤ shards
  -- k − 1 decide, so that a decision comes after at most k − 1
  pub decides : length votes + 1 ≡ shards → outcome_of (hear_each votes start) ≢ Wait
  -- and a commit comes after exactly k − 1
  pub commits : outcome_of (hear_each votes start) ≡ Commit → length votes + 1 ≡ shards

-- with k shards a decision comes after at most k − 1 fresh votes, and a commit after exactly k − 1
pub votes-bring : (p : ℕ) (tokens : List Token) (t : Transaction) → p < 8 → takes_part p t ≡ true → ((q : ℕ) → Memᴰ q (shards_of t) → q < 8)
    → (votes : List (ℕ × ℕ)) → Fresh votes (newly_known p tokens t) → Brings (newly_known p tokens t) votes (shard_count t)
votes-bring p tokens t h part below votes fresh = record {
  at_most = let s = sum in omega arith;
  decides = λ z. none-missing after (subst (λ (s : Transaction). (q : ℕ) → Memᴰ q (shards_of s) → q < 8) (sym (each.whole ∙ same)) below)
      (let s = sum in omega arith);
  commits = λ c. let e : missing after ≡ 0 = commit_misses after c in let s = sum in omega arith;
}
  where
    start : Known
    start = newly_known p tokens t

    after : Known
    after = hear_each votes start

    same : start.transaction ≡ t
    same = unfold newly_known in refl

    long : length start.heard ≡ 8
    long = unfold newly_known in length-set (replicate 8 None) p (Some (vote p tokens t))

    each : Hears votes start
    each = hears-each votes start (unfold newly_known in below) long fresh

    first : missing start + 1 ≡ shard_count t
    first = missing-registered p tokens t h part

    sum : missing after + (length votes + 1) ≡ shard_count t
    sum = let a = each.fewer in let b = first in omega arith
