-- One shard of eight: its ledger, the ledgers after it was changed, and the promise of a call that one shard carried out.
use Prim.Native.Nat.{ℕ, zero, suc, ◌+◌, ◌≤◌, ◌<◌}
use mathlib.Core.Path.{◌≡◌, refl, sym, ap, ◌∙◌, subst}
use mathlib.Core.Bool.{Bool, true, false, not}
use mathlib.Core.List.{List, [], ◌∷◌, map}
use native.Mathlib.Omega.{arith}
use borrow.Author.Tests.{eqb-true, eqb-false, not-false, lt-leb}
use lib.Dec.{eqb}
use Rattle.std.specs.Prelude.{Ok, Err}
use lib.ListN.{length, get_or, set, replicate, length-set}
use lib.Seq.{get_or-set_same, get_or-set_other, set-get_or}
use Rattle.transaction.specs.declared.Transaction.{Transaction}
use Rattle.transaction.specs.declared.refusal.Refusal.{Refusal}
use Rattle.transaction.specs.declared.refusal.Refusal.TheVariants.{OutOfRange, VoteNotGiven}
use Rattle.transaction.specs.Lists.{first_of}
use Rattle.transaction.specs.Checks.{shard_fits}
use Rattle.transaction.proofs.Tables.{first-stands}
use Rattle.model.specs.Answers.{Answer}
use Rattle.model.specs.Steps.{Ledger, house, empty_ledger}
use Rattle.model.specs.Shard.{Call, mint, register, deliver, deliver_form, deliver_rest, deliver_refusals, shard_step, turn}
use Rattle.model.specs.Cluster.{ledger_at, gave, not_given, at_shard, cluster_step}
use Rattle.model.proofs.Basics.{passed}
use Rattle.model.proofs.Tables.{receiver_of, no_such_shard}
use Rattle.model.proofs.Refusals.{shard-below}
use Rattle.shard.specs.View as shard
use Rattle.cluster.specs.View.{view, shard_at, SoundAt, Sound, Fresh, Steps}

-- an element of a mapped list, and a mapped list after a store
map_at : {A B : Type 0} (f : A → B) (l : List A) (i : ℕ) (d : A) (e : B) → i < length l
    → get_or (map f l) i e ≡ f (get_or l i d)
map_at f [] i d e h = absurd (omega arith)
map_at f (x ∷ l) zero d e h = refl
map_at f (x ∷ l) (suc i) d e h = map_at f l i d e (omega arith)

map-set : {A B : Type 0} (f : A → B) (l : List A) (i : ℕ) (a : A) → map f (set l i a) ≡ set (map f l) i (f a)
map-set f [] i a = refl
map-set f (x ∷ l) zero a = refl
map-set f (x ∷ l) (suc i) a = ap (λ (m : List _). f x ∷ m) (map-set f l i a)

module _ {c : List (List ℕ)} (sound : Sound c) where
  -- the ledger of a shard
  pub ledger-of : (p : ℕ) → p < 8 → ledger_at house (view c) p ≡ shard.view (shard_at c p)
  unfolding view
  ledger-of p h = map_at shard.view c p [] (empty_ledger house) (omega (arith, sound.eight))

  -- a call that changes nothing
  refused : {call : Call} {refusal : Refusal} → cluster_step house (view c) call ≡ (view c, Err refusal)
      → Steps c call (Err refusal) c
  refused e = record {
    answered = sym (ap (λ (y : List Ledger × Answer). y.1) e);
    ledgers = sym (ap (λ (y : List Ledger × Answer). y.0) e);
    sound = sound;
  }

  -- a call to a shard that does not exist
  pub no-shard : {call : Call} → 8 ≤ receiver_of call → Steps c call (Err OutOfRange) c
  no-shard {call} h = refused (no_such_shard house (view c) call (lt-leb (receiver_of call) 7 (omega arith)))

  -- a shard lent on, and its words come back
  module _ (p : ℕ) (below : p < 8) where
    pub lent : shard.Sound (shard_at c p)
    lent = (sound.each p below).sound

    numbered : shard.number (shard_at c p) ≡ p
    numbered = (sound.each p below).numbered

    module _ (ws : List ℕ) where
      view-set : view (set c p ws) ≡ set (view c) p (shard.view ws)
      unfolding view
      view-set = map-set shard.view c p ws

      sound-set : shard.number ws ≡ p → shard.Sound ws → Sound (set c p ws)
      sound-set n h = record { eight = length-set c p ws ∙ sound.eight; each = λ i k. go i k (eqb i p) refl }
        where
          go : (i : ℕ) → i < 8 → (b : Bool) → eqb i p ≡ b → SoundAt (set c p ws) i
          go i k true e =
              let same : i ≡ p = eqb-true i p e in
              let is : shard_at (set c p ws) i ≡ ws = rw same (get_or-set_same c p ws [] (omega (arith, sound.eight))) in
              record { numbered = ap shard.number is ∙ n ∙ sym same; sound = subst shard.Sound (sym is) h }
          go i k false e =
              let is : shard_at (set c p ws) i ≡ shard_at c i = get_or-set_other c p i ws [] (eqb-false i p e) in
              let old = sound.each i k in
              record { numbered = ap shard.number is ∙ old.numbered; sound = subst shard.Sound (sym is) old.sound }

  -- a call that the shard carried out
  module _ {call : Call} {answer : Answer} {ws : List ℕ} where
    carried : (p : ℕ) → p < 8 → cluster_step house (view c) call ≡ at_shard house (view c) p call
        → shard.Steps (shard_at c p) call answer ws → Steps c call answer (set c p ws)
    unfolding at_shard
    carried p below e h =
        let at = shard_at c p in
        let done : shard_step house p (ledger_at house (view c) p) call ≡ shard_step house (shard.number at) (shard.view at) call =
        rw (ledger-of p below, numbered p below) refl in
        let kept = h.ledger ∙ sym (ap (λ (y : Ledger × Answer). y.0) done) in
        record {
          answered =
              h.answered ∙ sym (ap (λ (y : Ledger × Answer). y.1) done) ∙ sym (ap (λ (y : List Ledger × Answer). y.1) e);
          ledgers =
              view-set p below ws ∙ ap (set (view c) p) kept ∙ sym (ap (λ (y : List Ledger × Answer). y.0) e);
          sound = sound-set p below ws (h.numbered ∙ numbered p below) h.sound;
        }

  pub minted : {p index owner amount : ℕ} {answer : Answer} {ws : List ℕ} → p < 8
      → shard.Steps (shard_at c p) (mint p index owner amount) answer ws
      → Steps c (mint p index owner amount) answer (set c p ws)
  unfolding cluster_step
  minted {p} below h = carried p below refl h

  pub registered : {p : ℕ} {t : Transaction} {answer : Answer} {ws : List ℕ} → p < 8
      → shard.Steps (shard_at c p) (register p t) answer ws → Steps c (register p t) answer (set c p ws)
  unfolding cluster_step
  registered {p} below h = carried p below refl h

  pub turned : {p : ℕ} {answer : Answer} {ws : List ℕ} → p < 8
      → shard.Steps (shard_at c p) (turn p) answer ws → Steps c (turn p) answer (set c p ws)
  unfolding cluster_step
  turned {p} below h = carried p below refl h

-- ---- A vote: 3 to 6, then 16

abbrev answered : Refusal → Answer
answered refusal = Err refusal

-- it has passed 3 to 6, so that its sender and its receiver are shards
pub record Formed (receiver sender verdict : ℕ) (t : Transaction) : Type 0 where
  pub passes : first_of (deliver_form house receiver receiver sender verdict t) ≡ Ok tt
  pub from : sender < 8
  pub to : receiver < 8

module _ (receiver sender verdict : ℕ) (t : Transaction) where
  abbrev form : List (Bool × Refusal)
  form = deliver_form house receiver receiver sender verdict t

  -- the model's step where the form refuses it
  module _ (shards : List Ledger) {refusal : Refusal} (e : Err refusal ≡ first_of form) where
    abbrev ledger : Ledger
    ledger = ledger_at house shards receiver

    whole : first_of (deliver_refusals house receiver ledger receiver sender verdict t) ≡ Err refusal
    unfolding deliver_refusals
    whole = first-stands form (deliver_rest house receiver ledger sender verdict t) (sym e)

    form-step : cluster_step house shards (deliver receiver sender verdict t) ≡ (shards, Err refusal)
    unfolding cluster_step not_given at_shard shard_step
    form-step =
        let same = set-get_or shards receiver (empty_ledger house) in
        rw (← e, whole) (ap (λ (l : List Ledger). (l, answered refusal)) same)

module _ {receiver sender verdict : ℕ} {t : Transaction} where
  pub formed : Ok tt ≡ first_of (form receiver sender verdict t) → Formed receiver sender verdict t
  unfolding deliver_form
  formed e =
      let checked = (passed (form receiver sender verdict t) (sym e)).1 in
      record {
        passes = sym e;
        from = shard-below sender (not-false (shard_fits sender) checked.1.0);
        to = shard-below receiver (not-false (shard_fits receiver) checked.0);
      }

  module _ {c : List (List ℕ)} (sound : Sound c) where
    -- refused by its form
    pub form-refused : {refusal : Refusal} → Err refusal ≡ first_of (form receiver sender verdict t)
        → Steps c (deliver receiver sender verdict t) (Err refusal) c
    form-refused e = refused sound (form-step receiver sender verdict t (view c) e)

    module _ (vote : Formed receiver sender verdict t) where
      -- to its receiver it has passed them too
      pub own-form : let me = shard.number (shard_at c receiver) in first_of (deliver_form house me me sender verdict t) ≡ Ok tt
      own-form = rw (numbered sound receiver vote.to) vote.passes

      module _ {given : Bool} (eg : given ≡ gave (shard.view (shard_at c sender)) sender verdict t) where
        not-given-is : not_given house (view c) receiver sender verdict t ≡ not given
        unfolding not_given
        not-given-is = rw (vote.passes, ledger-of sound sender vote.from, ← eg) refl

        -- 16
        pub not-given : not given ≡ true → Steps c (deliver receiver sender verdict t) (Err VoteNotGiven) c
        unfolding cluster_step
        not-given n = refused sound (rw (not-given-is ∙ n) refl)

        -- heard by the receiver
        pub heard : {answer : Answer} {ws : List ℕ} → not given ≡ false
            → shard.Steps (shard_at c receiver) (deliver (shard.number (shard_at c receiver)) sender verdict t) answer ws
            → Steps c (deliver receiver sender verdict t) answer (set c receiver ws)
        unfolding cluster_step
        heard {answer} {ws} y h =
            let at = shard_at c receiver in
            let own = numbered sound receiver vote.to in
            let h' = subst (λ (r : ℕ). shard.Steps at (deliver r sender verdict t) answer ws) own h in
            carried sound receiver vote.to (rw (not-given-is ∙ y) refl) h'

-- ---- Eight fresh shards, one after the other

pub record Freshened (c : List (List ℕ)) (i : ℕ) : Type 0 where
  pub within : i ≤ 8
  pub eight : length c ≡ 8
  pub so : (p : ℕ) → p < i → shard.Fresh p (shard_at c p)

pub freshen_start : (c : List (List ℕ)) → length c ≡ 8 → Freshened c 0
freshen_start c e = record { within = omega arith; eight = e; so = λ p h. absurd (omega arith) }

below_it : (q i : ℕ) → q < i + 1 → (q ≡ i → ⊥) → q < i
below_it q i h n = omega arith

pub freshen_next : {c : List (List ℕ)} {i me : ℕ} {ws : List ℕ} → Freshened c i → i < 8 → me ≡ i → shard.Fresh me ws
    → Freshened (set c i ws) (i + 1)
freshen_next {c} {i} {me} {ws} s h e f = record {
  within = omega arith;
  eight = length-set c i ws ∙ s.eight;
  so = λ p k. go p k (eqb p i) refl;
}
  where
    go : (p : ℕ) → p < i + 1 → (b : Bool) → eqb p i ≡ b → shard.Fresh p (shard_at (set c i ws) p)
    go p k true q =
        let same : p ≡ i = eqb-true p i q in
        rw (same, get_or-set_same c i ws [] (omega (arith, s.eight))) (rw e at f)
    go p k false q =
        let other : p ≡ i → ⊥ = eqb-false p i q in
        rw (get_or-set_other c i p ws [] other) (s.so p (below_it p i k other))

map-all : {A B : Type 0} (f : A → B) (l : List A) (d : A) (b : B) → ((p : ℕ) → p < length l → f (get_or l p d) ≡ b)
    → map f l ≡ replicate (length l) b
map-all f [] d b h = refl
map-all {B = B} f (x ∷ l) d b h =
    ap (λ (y : B). y ∷ map f l) (h 0 (omega arith))
    ∙ ap (λ (m : List B). b ∷ m) (map-all f l d b (λ p k. h (suc p) (omega arith)))

pub freshened : {c : List (List ℕ)} {i : ℕ} → Freshened c i → 8 ≤ i → Fresh c
unfolding view
freshened {c} s h =
    let at : (p : ℕ) → p < 8 → shard.Fresh p (shard_at c p) = λ p k. s.so p (omega (arith, s.within)) in
    record {
      empty =
          map-all shard.view c [] (empty_ledger house) (λ p k. (at p (omega (arith, s.eight))).empty)
          ∙ ap (λ (n : ℕ). replicate n (empty_ledger house)) s.eight;
      sound = record { eight = s.eight; each = λ p k. record { numbered = (at p k).numbered; sound = (at p k).sound } };
    }
