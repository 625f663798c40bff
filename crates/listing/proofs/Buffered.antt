-- THE WHOLE TEXT, BUFFER BY BUFFER. Whoever hands any input to `list_records` part after part, with a cluster that
-- `new` left, each time from the place where the last part ended, with 102 bytes wanted while more input stands behind
-- the part, prints what it stored, and prints the TOTAL line at the end, has printed `listing_of` of the input, however
-- the input was cut into parts. This is what the program does between its system calls.
--
-- The contracts are read off the functions, as in Whole.antt.
use Prim.Native.Nat.{ℕ, zero, suc, ◌-◌, ◌≤◌}
use native.Mathlib.Omega.{arith}
use mathlib.Core.Path.{◌≡◌, refl, sym, ap, ◌∙◌}
use mathlib.Core.Bool.{Bool, true, false, cond}
use mathlib.Core.List.{List, [], ◌∷◌, ◌++◌, append_assoc, append-nil}
use mathlib.Core.Logic.{◌⊎◌, inl, inr}
use borrow.Author.Tests.{leb-false}
use lib.Dec.{eqb, leb}
use lib.ListN.{length, take, drop, length-append}
use lib.Seq.{take_at}
use contract.Lifetimes.{Lfts}
use Rattle.std.specs.Prelude.{Result, Ok, Err, is_none}
use Rattle.transaction.specs.declared.refusal.Refusal.{Refusal}
use Rattle.transaction.specs.declared.refusal.Refusal.TheVariants.{UnknownKind, TooShort}
use Rattle.transaction.specs.Refusals.{refusal_number, number_of}
use Rattle.transaction.specs.Lists.{first_of}
use Rattle.reader.specs.declared.Reading.{Reading}
use Rattle.reader.specs.Layout.{body_length}
use Rattle.reader.specs.Reading.{kind_of, body_of, head_cause, reading_of, rest_of}
use Rattle.reader.proofs.Cases.{reading_none}
use Rattle.model.specs.Steps.{Ledger}
use Rattle.model.proofs.Basics.{clash}
use Rattle.cluster.specs.View.{view, Sound}
use Rattle.model.specs.Totals.{total_held}
use Rattle.cluster.proofs.Demand.{Cluster, Starts, started}
use Rattle.cluster.proofs.References.{Place, refers, reads}
use Rattle.listing.specs.declared.Progress.{Progress}
use Rattle.listing.specs.Lines.{total_line}
use Rattle.listing.specs.Listing.{Shown, shown_as, step_of, listing_within, listing_of}
use Rattle.listing.specs.Buffers.{Standing, further, goes_on, run_within, start, run_of, ListsAll}
use Rattle.listing.proofs.Left.{fewer, nothing_left, reading_ends, reading_on}
use Rattle.listing.proofs.Whole.{Totalled, shown, joined}
use Rattle.listing.proofs.Running.{Goes, told}
use Rattle.listing.proofs.Ahead.{same_step, same_rest}
use Rattle.listing.proofs.list_records.Reads as of-records

-- as many bytes as the longest record are wanted, or nothing stands behind the part
abbrev pub Fits : ℕ → List ℕ → Type 0
Fits wanted rest = (102 ≤ wanted) ⊎ (rest ≡ [])

-- `list_records`, handed references to a cluster, to a part and to a buffer, a step and the bytes wanted, may have
-- returned r and left the cluster and the buffer as they are after
pub record Listed (c : Cluster) (step : ℕ) (part : List ℕ) (wanted : ℕ) (lent : List ℕ) (r : Progress)
    (c' : Cluster) (after : List ℕ) : Type 0 where
  pub lifetimes : Lfts 3
  pub shards : Place
  pub from : Place
  pub to : Place
  pub kept : of-records.Asked lifetimes (refers shards c, (step, (reads from part, (wanted, (refers to lent, tt)))))
      → of-records.Learnt lifetimes (refers shards c, (step, (reads from part, (wanted, (refers to lent, tt))))) r
      (refers shards c', (step, (reads from part, (wanted, (refers to after, tt)))))

-- with a cluster, a step and the input left, this text is printed
pub data PrintsParts : Cluster → ℕ → List ℕ → List ℕ → Type 0 where
  finished : {c : Cluster} {step : ℕ} {left lent after : List ℕ} {size : ℕ}
      → length left ≡ 0 → Totalled c lent size after → PrintsParts c step left (take size after)
  ended : {c c' : Cluster} {step wanted : ℕ} {part rest lent after last total : List ℕ} {r : Progress} {size : ℕ}
      → Fits wanted rest → Listed c step part wanted lent r c' after → r.ends ≡ true → Totalled c' last size total
      → PrintsParts c step (part ++ rest) (take r.used after ++ take size total)
  onward : {c c' : Cluster} {step wanted : ℕ} {part rest lent after text : List ℕ} {r : Progress}
      → Fits wanted rest → Listed c step part wanted lent r c' after → r.ends ≡ false
      → PrintsParts c' r.number (drop r.taken part ++ rest) text
      → PrintsParts c step (part ++ rest) (take r.used after ++ text)

-- ---- a step on a part is the step on all that is left

-- where reading goes on, a whole record stood at the front
head-most : (l : List ℕ) → number_of (head_cause l) ≤ 2
unfolding head_cause
head-most l = go (eqb (length l) 0) (is_none (body_length (kind_of l))) (leb (length l) (body_of l))
  where
    go : (a b c : Bool) → number_of (first_of ((a, TooShort) ∷ (b, UnknownKind) ∷ (c, TooShort) ∷ [])) ≤ 2
    go true b c = omega arith
    go false true c = omega arith
    go false false true = omega arith
    go false false false = omega arith

stood : (shards : List Ledger) (step : ℕ) (l : List ℕ) → (step_of shards step l).ends ≡ false → head_cause l ≡ Ok tt
unfolding step_of shown_as
stood shards step l e = go (head_cause l) refl
  where
    go : (found : Result Unit Refusal) → head_cause l ≡ found → head_cause l ≡ Ok tt
    go (Ok tt) h = h
    go (Err cause) h =
        let answer = sym (ap (λ (r : Reading). r.answer) (reading_none l h)) in
        let ends : leb (refusal_number cause) 2 ≡ false =
        sym (ap (λ (a : _). (shown_as shards step a (reading_of l).transaction).ends) answer) ∙ e in
        absurd (omega (arith, ap number_of h, head-most l, leb-false (refusal_number cause) 2 ends))

module _ (wanted : ℕ) (part rest : List ℕ) (fits : Fits wanted rest) (enough : wanted ≤ length part)
    (shards : List Ledger) (step : ℕ) where
  step-there : step_of shards step (part ++ rest) ≡ step_of shards step part
  step-there = go fits
    where
      go : Fits wanted rest → step_of shards step (part ++ rest) ≡ step_of shards step part
      go (inl h) = same_step part rest (omega arith) shards step
      go (inr e) = ap (step_of shards step) (ap (λ (x : List ℕ). part ++ x) e ∙ append-nil part)

  rest-there : (step_of shards step part).ends ≡ false → rest_of (part ++ rest) ≡ rest_of part ++ rest
  rest-there e = go fits
    where
      go : Fits wanted rest → rest_of (part ++ rest) ≡ rest_of part ++ rest
      go (inl h) = same_rest part rest (omega arith) (stood shards step part e)
      go (inr n) =
          ap rest_of (ap (λ (x : List ℕ). part ++ x) n ∙ append-nil part)
          ∙ sym (ap (λ (x : List ℕ). rest_of part ++ x) n ∙ append-nil (rest_of part))

-- ---- the text from where a listing stands: what was printed, and what is still to be

abbrev ahead : ℕ → Standing → List ℕ → List ℕ
ahead enough p rest =
    p.text
    ++ cond p.ends (total_line (total_held p.shards)) (listing_within enough p.shards p.step (p.bytes ++ rest))

record Stands (text : List ℕ) (p : Standing) (rest : List ℕ) : Type 0 where
  pub enough : ℕ
  pub turns : p.ends ≡ false → length (p.bytes ++ rest) ≤ enough
  pub same : text ≡ ahead enough p rest

module _ (wanted room : ℕ) (rest : List ℕ) (fits : Fits wanted rest) where
  turn : (text : List ℕ) (p : Standing)
      → Goes p.ends (length p.bytes) wanted (room - length p.text) p.step → Stands text p rest
      → Stands text (further p) rest
  unfolding further
  turn text p t s = go s.enough (s.turns t.on) s.same (step_of p.shards p.step p.bytes).ends refl
    where
      all : length (p.bytes ++ rest) ≡ 0 → ⊥
      all e = absurd (omega (arith, e, length-append p.bytes rest, t.some))

      there : step_of p.shards p.step (p.bytes ++ rest) ≡ step_of p.shards p.step p.bytes
      there = step-there wanted p.bytes rest fits t.many p.shards p.step

      go : (enough : ℕ) → length (p.bytes ++ rest) ≤ enough → text ≡ ahead enough p rest
          → (b : Bool) → (step_of p.shards p.step p.bytes).ends ≡ b → Stands text (further p) rest
      go zero h e b eb = absurd (all (omega arith))
      go (suc enough) h e true eb = record {
        enough = enough;
        turns = λ z. clash eb z;
        same =
            e ∙ rw t.on
            (ap (λ (y : List ℕ). p.text ++ y)
            (reading_ends enough p.shards p.step (p.bytes ++ rest) all (ap (λ (y : Shown). y.ends) there ∙ eb))
            ∙ rw (there, eb) (sym (append_assoc p.text _ _)));
      }
      go (suc enough) h e false eb =
          let r : rest_of (p.bytes ++ rest) ≡ rest_of p.bytes ++ rest =
          rest-there wanted p.bytes rest fits t.many p.shards p.step eb in
          record {
            enough = enough;
            turns = λ z. rw (← r) (fewer (p.bytes ++ rest) enough all h);
            same =
                e ∙ rw t.on
                (ap (λ (y : List ℕ). p.text ++ y)
                (reading_on enough p.shards p.step (p.bytes ++ rest) all (ap (λ (y : Shown). y.ends) there ∙ eb))
                ∙ rw (there, eb, r) (sym (append_assoc p.text _ _)));
          }

  run : (n : ℕ) (text : List ℕ) (p : Standing) → Stands text p rest → Stands text (run_within n wanted room p) rest
  unfolding run_within
  run zero text p s = s
  run (suc n) text p s = go (goes_on wanted room p) refl (λ q. run n text (further p) q)
    where
      go : (b : Bool) → goes_on wanted room p ≡ b
          → (Stands text (further p) rest → Stands text (run_within n wanted room (further p)) rest)
          → Stands text (run_within (suc n) wanted room p) rest
      go true e h =
          rw e (h (turn text p (told p.ends (length p.bytes) wanted (room - length p.text) p.step e) s))
      go false e h = rw e s

-- ---- the theorem

-- what is printed of a buffer is the text
text_of : {c c' : Cluster} {step : ℕ} {part : List ℕ} {wanted : ℕ} {lent : List ℕ} {r : Progress} {after : List ℕ}
    → ListsAll c step part wanted lent r c' after
    → take r.used after ≡ (run_of (view c) step part wanted (length lent)).text
text_of {c} {c'} {step} {part} {wanted} {lent} {r} {after} s =
    ap (take r.used) s.text
    ∙ take_at (run_of (view c) step part wanted (length lent)).text (drop r.used lent) r.used (sym s.used)

printed-parts : (enough : ℕ) {c : Cluster} {step : ℕ} {left text : List ℕ} → length left ≤ enough → Sound c
    → PrintsParts c step left text
    → text ≡ listing_within enough (view c) step left
printed-parts enough {c} {step} {left} h sound (finished e t) =
    shown (t.kept sound) ∙ sym (nothing_left enough (view c) step left e)
printed-parts enough {c} {step} h sound
    (ended {wanted = wanted} {part = part} {rest = rest} {lent = lent} {r = r} fits s e t) =
    let l = s.kept sound in
    let text = listing_within enough (view c) step (part ++ rest) in
    let q =
    run wanted (length lent) rest fits (length part) text (start (view c) step part)
    (record { enough = enough; turns = λ z. h; same = refl }) in
    joined (text_of l) (shown (t.kept l.sound) ∙ ap (λ (x : List Ledger). total_line (total_held x)) l.ledgers)
    ∙ sym (q.same ∙ rw (sym l.ends ∙ e) refl)
printed-parts enough {c} {step} h sound
    (onward {wanted = wanted} {part = part} {rest = rest} {lent = lent} {r = r} fits s e p) =
    let l = s.kept sound in
    let text = listing_within enough (view c) step (part ++ rest) in
    let q =
    run wanted (length lent) rest fits (length part) text (start (view c) step part)
    (record { enough = enough; turns = λ z. h; same = refl }) in
    let p' = run_of (view c) step part wanted (length lent) in
    joined {d = listing_within q.enough p'.shards p'.step (p'.bytes ++ rest)} (text_of l)
    (printed-parts q.enough (rw l.rest (q.turns (sym l.ends ∙ e))) l.sound p
    ∙ rw (l.ledgers, l.number, l.rest) refl)
    ∙ sym (q.same ∙ rw (sym l.ends ∙ e) refl)

-- THEOREM
pub whole_listing_by_parts : {c : Cluster} {input text : List ℕ} → Starts c → PrintsParts c 1 input text
    → text ≡ listing_of input
unfolding listing_of
whole_listing_by_parts {c} {input} starts p =
    let fresh = started starts in
    printed-parts (length input) (omega arith) fresh.sound p
    ∙ ap (λ (x : List Ledger). listing_within (length input) x 1 input) fresh.empty
