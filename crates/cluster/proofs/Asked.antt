-- What is asked of a cluster, from its shards.
use Prim.Native.Nat.{ℕ, ◌+◌, ◌≤◌, ◌<◌}
use mathlib.Core.Path.{◌≡◌, refl, sym, ap, subst, ◌∙◌}
use mathlib.Core.List.{List, [], ◌∷◌, map}
use native.Mathlib.Omega.{arith}
use borrow.Author.Tests.{lt-leb}
use lib.ListN.{take, get_or-eq_default, length-map}
use lib.Seq.{take_all}
use Rattle.std.specs.Prelude.{Err}
use Rattle.transaction.specs.declared.refusal.Refusal.TheVariants.{OutOfRange}
use Rattle.model.specs.Totals.{held_in, total_held}
use Rattle.transaction.specs.Lists.{total}
use Rattle.model.specs.Steps.{house, empty_ledger}
use Rattle.model.specs.Answers.{Report}
use Rattle.model.specs.Cluster.{ledger_at}
use Rattle.model.specs.Findings.{report, report_at}
use Rattle.model.proofs.Reported.{report-above}
use Rattle.shard.specs.View as shard
use Rattle.cluster.specs.View.{view, shard_at, Sound, IsShard, NoShard}
use Rattle.cluster.proofs.Shards.{ledger-of}

total-map : {A B : Type 0} (f : B → ℕ) (g : A → B) (x : List A) → total f (map g x) ≡ total (λ (a : A). f (g a)) x
total-map f g [] = refl
total-map f g (a ∷ x) = ap (λ (n : ℕ). f (g a) + n) (total-map f g x)

-- the amounts held in a shard
abbrev pub held_by : List ℕ → ℕ
held_by ws = held_in (shard.view ws)

module _ {c : List (List ℕ)} (sound : Sound c) where
  pub held_in-all : {sum : ℕ} → total held_by (take 8 c) ≡ sum → sum ≡ total_held (view c)
  unfolding total_held view
  held_in-all e =
      sym e ∙ ap (total held_by) (take_all 8 c (omega (arith, sound.eight))) ∙ sym (total-map held_in shard.view c)

  -- above 7 there is no shard: the ledger is the empty one
  pub ledger-none : (number : ℕ) → 8 ≤ number → ledger_at house (view c) number ≡ empty_ledger house
  unfolding view
  ledger-none number h =
      get_or-eq_default (map shard.view c) (empty_ledger house) {n = number} (rw (length-map c shard.view, sound.eight) h)

  -- a shard that was looked up
  pub is-shard : {p : ℕ} {ws : List ℕ} → p < 8 → ws ≡ shard_at c p → IsShard c p ws
  is-shard {p} below e = record {
    numbered = ap shard.number e ∙ (sound.each p below).numbered;
    sound = subst shard.Sound (sym e) (sound.each p below).sound;
    ledger = ledger-of sound p below ∙ ap shard.view (sym e);
  }

  pub no-shard-at : {p : ℕ} → 8 ≤ p → NoShard c p
  no-shard-at {p} above = record { above = above; ledger = ledger-none p above }

  -- what is reported: by the shard that is asked, and where there is none
  module _ (p number : ℕ) where
    pub report-of : {ws : List ℕ} {r : Report} → IsShard c p ws → r ≡ report (shard.number ws) (shard.view ws) p number
        → r ≡ report_at house (view c) p number
    report-of is e = e ∙ (λ i. report (is.numbered i) (sym is.ledger i) p number)

    pub report-none : 8 ≤ p → Err OutOfRange ≡ report_at house (view c) p number
    report-none h = sym (report-above (ledger_at house (view c) p) p number (lt-leb p 7 (omega arith)))
