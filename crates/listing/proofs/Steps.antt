-- One step: a record that was read, and one that was refused.
use Prim.Native.Nat.{ℕ}
use native.Mathlib.Omega.{arith}
use mathlib.Core.Path.{◌≡◌, refl, sym, ap, ◌∙◌, subst}
use mathlib.Core.Bool.{Bool, false}
use mathlib.Core.List.{List, [], ◌∷◌}
use lib.Dec.{leb}
use Rattle.std.specs.Prelude.{Ok, Err}
use Rattle.transaction.specs.declared.refusal.Refusal.{Refusal}
use Rattle.transaction.specs.Refusals.{refusal_number}
use Rattle.reader.specs.declared.Record.{Record}
use Rattle.reader.specs.declared.Reading.{Reading}
use Rattle.reader.specs.Reading.{taken_of, reading_of, Reads}
use Rattle.reader.proofs.Cases.{taken-within}
use Rattle.model.specs.Answers.{Answer}
use Rattle.model.specs.Steps.{house}
use Rattle.model.specs.Cluster.{cluster_step}
use Rattle.cluster.specs.View.{view, Sound, Steps}
use Rattle.calls.specs.Calls.{call_of}
use Rattle.listing.specs.Lines.{unplaced, place_word, line_of}
use Rattle.listing.specs.Parts.{Puts}
use Rattle.listing.specs.Listing.{receiver_of, Shown, shown_call, shown_as, step_of, Lists}

module _ (before : List (List ℕ)) (step : ℕ) (l lent : List ℕ) (at : ℕ) {r : Reading} (reads : Reads l r) where
  answer-of : (reading_of l).answer ≡ r.answer
  answer-of = ap (λ (x : Reading). x.answer) (sym reads.whole)

  transaction-of : (reading_of l).transaction ≡ r.transaction
  transaction-of = ap (λ (x : Reading). x.transaction) (sym reads.whole)

  taken-of : r.taken ≡ taken_of l
  unfolding reading_of
  taken-of = ap (λ (x : Reading). x.taken) reads.whole

  -- refused by the reader
  pub refused : {cause : Refusal} {behind : ℕ} {line out : List ℕ} {ends : Bool} → Sound before → r.answer ≡ Err cause
      → line ≡ line_of step (45 ∷ []) (Err cause)
      → Puts lent at line 64 out behind
      → ends ≡ leb (refusal_number cause) 2
      → Lists before step l lent at (record { at = behind; taken = r.taken; ends = ends }) before out
  unfolding step_of shown_as
  refused {cause} {behind} {line} {out} {ends} sound e is s last =
      let a : (reading_of l).answer ≡ Err cause = answer-of ∙ e in
      record {
        shows = rw a (subst (λ (x : List ℕ). Puts lent at x 64 out behind) is s);
        taken = taken-of;
        part = omega (arith, taken-of, taken-within l);
        ends = rw a last;
        ledgers = rw a refl;
        sound = sound;
      }

  -- read, and carried out or refused by the cluster
  pub carried : {fields : Record} {reply : Answer} {after : List (List ℕ)} {receiver behind : ℕ} {place line out : List ℕ}
      → r.answer ≡ Ok fields
      → Steps before (call_of fields r.transaction) reply after
      → receiver ≡ receiver_of fields
      → place ≡ place_word (unplaced reply) receiver
      → line ≡ line_of step place reply
      → Puts lent at line 64 out behind
      → Lists before step l lent at (record { at = behind; taken = r.taken; ends = false }) after out
  unfolding step_of shown_as
  carried {fields} {reply} {after} {receiver} {behind} {place} {line} {out} e k p h w s =
      let done = cluster_step house (view before) (call_of fields r.transaction) in
      let is : step_of (view before) step l ≡ shown_call step (receiver_of fields) done =
      rw (answer-of ∙ e, transaction-of) refl in
      let whole : line ≡ (step_of (view before) step l).line =
      w ∙ rw (h, p, k.answered) (sym (ap (λ (x : Shown). x.line) is)) in
      record {
        shows = subst (λ (x : List ℕ). Puts lent at x 64 out behind) whole s;
        taken = taken-of;
        part = omega (arith, taken-of, taken-within l);
        ends = sym (ap (λ (x : Shown). x.ends) is);
        ledgers = k.ledgers ∙ sym (ap (λ (x : Shown). x.shards) is);
        sound = k.sound;
      }
