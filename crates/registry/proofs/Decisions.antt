-- Decisions, and the outputs and inputs here, slot by slot.
use Prim.Native.Nat.{ℕ, suc, ◌+◌, ◌*◌, ◌≤◌, ◌<◌}
use native.Mathlib.Omega.{arith}
use native.Mathlib.Nat.{mul-suc}
use mathlib.Core.Path.{◌≡◌, refl, sym, ap, ◌∙◌}
use mathlib.Core.Bool.{Bool, true, false, cond, ◌||◌, ◌&&◌, and-true, or-false}
use mathlib.Core.List.{List, [], ◌∷◌, ◌++◌, map}
use Rattle.std.proofs.lemmas.List.{map_more}
use lib.ListN.{length, get_or, take, length-take}
use Rattle.transaction.specs.Lists.{any, all, total}
use Rattle.transaction.specs.Tokens.{input_shard, output_shard, used_inputs, used_outputs}
use Rattle.transaction.proofs.Slots.{any_append}
use Rattle.model.specs.declared.Known.{Known}
use Rattle.model.specs.declared.Outcome.{Outcome}
use Rattle.model.specs.declared.Outcome.TheVariants.{Wait, Commit, Abort}
use Rattle.model.specs.Lists.{keep}
use Rattle.std.specs.Prelude.{Some, None}
use Rattle.model.specs.Said.{Said, is_said_yes, is_said_no}
use Rattle.model.specs.Steps.{is_yes, is_no, decide, outcome_of, output_here, outputs_here}
use Rattle.model.specs.Shard.{is_undecided, if_undecided, reserved_by, reserved}
use Rattle.model.proofs.Basics.{all_append, keep-length}
use Rattle.layout.specs.Layout.{known_slots, shard_of, ledger_of, no_known, slot_known}
use Rattle.layout.specs.Reads.{four-outputs}
use Rattle.layout.proofs.Ledgers.{known-length, known-entry}
use Rattle.registry.specs.Decision.{by_said, decision_of, together}

-- two decisions together, by their votes
joined : (a b c e : Bool)
    → together (cond a Abort (cond b Commit Wait)) (cond c Abort (cond e Commit Wait)) ≡ cond (a || c) Abort (cond (b && e) Commit Wait)
joined true b c e = refl
joined false true c e = refl
joined false false true e = refl
joined false false false true = refl
joined false false false false = refl

-- the shards of one list and those of another
pub decides-both : (heard : List Said) (shards others : List ℕ)
    → together (decision_of heard shards) (decision_of heard others) ≡ decision_of heard (shards ++ others)
decides-both heard shards others =
    joined (any (is_no heard) shards) (all (is_yes heard) shards) (any (is_no heard) others) (all (is_yes heard) others)
    ∙ rw (any_append (is_no heard) shards others, all_append (is_yes heard) shards others) refl

-- one shard more
pub decides-one : (heard : List Said) (shard : ℕ) → by_said (get_or heard shard None) ≡ decision_of heard (shard ∷ [])
decides-one heard shard =
    rw (or-false (is_no heard shard), and-true (is_yes heard shard)) (one (get_or heard shard None))
  where
    one : (said : Said) → by_said said ≡ cond (is_said_no said) Abort (cond (is_said_yes said) Commit Wait)
    one None = refl
    one (Some true) = refl
    one (Some false) = refl

pub decides-next : {A : Type 0} (heard : List Said) (shard_of : A → ℕ) (xs : List A) (i : ℕ) (d : A) → i < length xs
    → {so_far vote decided : Outcome} {said : Said} {shard : ℕ} → so_far ≡ decision_of heard (map shard_of (take i xs))
    → shard ≡ shard_of (get_or xs i d) → said ≡ get_or heard shard None → vote ≡ by_said said → decided ≡ together so_far vote
    → decided ≡ decision_of heard (map shard_of (take (i + 1) xs))
decides-next heard shard_of xs i d h {shard = shard} es ea ed ev e =
    let one = ev ∙ ap by_said (ed ∙ ap (λ (k : ℕ). get_or heard k None) ea) ∙ decides-one heard (shard_of (get_or xs i d)) in
    rw (e, es, one, map_more shard_of xs i d h) (decides-both heard (map shard_of (take i xs)) (shard_of (get_or xs i d) ∷ []))

-- the decision, by the shards of the inputs and those of the outputs
pub decides : (k : Known) {inputs outputs decision : Outcome}
    → inputs ≡ decision_of k.heard (map input_shard (used_inputs k.transaction))
    → outputs ≡ decision_of k.heard (map output_shard (used_outputs k.transaction))
    → decision ≡ together inputs outputs
    → decision ≡ outcome_of k
unfolding decide
decides k ei eo e =
    rw (e, ei, eo) (decides-both k.heard (map input_shard (used_inputs k.transaction)) (map output_shard (used_outputs k.transaction)))

-- reserved: nothing without outputs here, nothing once decided, else the outputs here
nothing : (o : Outcome) → 0 ≡ if_undecided o 0
nothing Wait = refl
nothing Commit = refl
nothing Abort = refl

module _ (me : ℕ) (k : Known) {n : ℕ} (en : n ≡ length (outputs_here me k.transaction)) where
  pub reserves_none : n ≡ 0 → 0 ≡ reserved_by me k
  unfolding reserved_by
  reserves_none z = rw (sym en ∙ z) (nothing (outcome_of k))

  module _ {undecided : Bool} (eu : undecided ≡ is_undecided (outcome_of k)) where
    pub reserves_open : undecided ≡ true → n ≡ reserved_by me k
    unfolding reserved_by
    reserves_open y = rw (sym eu ∙ y) en

    pub reserves_done : undecided ≡ false → 0 ≡ reserved_by me k
    unfolding reserved_by
    reserves_done y = rw (sym eu ∙ y) refl

-- at most four outputs of each known transaction are here
total-most : {A : Type 0} (f : A → ℕ) (m : ℕ) (d : A) (l : List A)
    → ((i : ℕ) → i < length l → f (get_or l i d) ≤ m) → total f l ≤ m * length l
total-most f m d [] h = omega arith
total-most f m d (x ∷ l) h =
    let r = total-most f m d l (λ i k. h (suc i) (omega arith)) in
    let one = h 0 (omega arith) in
    rw (mul-suc m (length l)) (omega arith)

undecided-most : (o : Outcome) (n : ℕ) → if_undecided o n ≤ n
undecided-most Wait n = omega arith
undecided-most Commit n = omega arith
undecided-most Abort n = omega arith

reserves_most : (me : ℕ) (k : Known) → length k.transaction.outputs ≡ 4 → reserved_by me k ≤ 4
unfolding reserved_by outputs_here
reserves_most me k long =
    let here = keep-length (output_here me) (used_outputs k.transaction) in
    let used = length-take k.transaction.output_count k.transaction.outputs in
    let most = undecided-most (outcome_of k) (length (keep (output_here me) (used_outputs k.transaction))) in
    omega (arith, here, used, most)

pub reserved-most : (me : ℕ) (ws : List ℕ) → (shard_of ws).known ≤ known_slots
    → reserved me (ledger_of ws).known ≤ 4 * (shard_of ws).known
unfolding reserved
reserved-most me ws h =
    let n = known-length ws h in
    let t = total-most (reserved_by me) 4 no_known (ledger_of ws).known (λ i k. each i (omega arith)) in
    omega (arith, t, n)
  where
    each : (i : ℕ) → i < (shard_of ws).known → reserved_by me (get_or (ledger_of ws).known i no_known) ≤ 4
    each i k = rw (← known-entry ws i k h no_known) (reserves_most me (slot_known ws i) (four-outputs ws i (omega arith)))
