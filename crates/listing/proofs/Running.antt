-- Record after record: what holds before each turn, what a turn keeps, and what the last one leaves.
use Prim.Native.Nat.{ℕ, zero, suc, ◌+◌, ◌-◌, ◌≤◌, ◌<◌}
use native.Mathlib.Nat.{zero-add}
use native.Mathlib.Omega.{arith}
use mathlib.Core.Path.{◌≡◌, refl, sym, ap, ◌∙◌, subst}
use mathlib.Core.Bool.{Bool, true, false, not, ◌&&◌}
use mathlib.Core.List.{List, [], ◌++◌}
use borrow.Author.Tests.{ltb-true, leb-true, not-true}
use lib.Dec.{leb, ltb}
use lib.ListN.{length, take, drop, length-drop}
use lib.Seq.{sets-eq, take_all, drop-drop}
use Rattle.reader.specs.Reading.{taken_of, rest_of}
use Rattle.model.proofs.Basics.{both}
use Rattle.cluster.specs.View.{view, Sound}
use Rattle.listing.specs.declared.Listed.{Listed}
use Rattle.listing.specs.Parts.{Puts}
use Rattle.listing.specs.Listing.{step_of, Lists}
use Rattle.listing.specs.Buffers.{Standing, further, going, goes_on, run_within, run_of, ListsAll}
use Rattle.listing.proofs.Stores.{then, bounded, same-room}
use Rattle.listing.proofs.Left.{taken-some}

-- where the listing stands
abbrev pub standing : List (List ℕ) → ℕ → List ℕ → List ℕ → Bool → Standing
standing c step bytes text ends = record { shards = view c; step = step; bytes = bytes; text = text; ends = ends }

-- running on from here gives the whole
pub record Reached
    (bytes lent : List ℕ) (wanted : ℕ) (whole : Standing) (c : List (List ℕ)) (out : List ℕ) (n at used : ℕ)
    (ends : Bool) : Type 0 where
  pub text : List ℕ
  pub enough : ℕ
  pub runs : run_within enough wanted (length lent) (standing c n (drop at bytes) text ends) ≡ whole
  pub turns : length bytes ≤ at + enough
  pub part : at ≤ length bytes
  pub printed : Puts lent 0 text (length lent) out used
  pub sound : Sound c

pub reached_start : (c : List (List ℕ)) (number : ℕ) (bytes lent : List ℕ) (wanted : ℕ) → Sound c
    → Reached bytes lent wanted (run_of (view c) number bytes wanted (length lent)) c lent number 0 0 false
reached_start c number bytes lent wanted sound = record {
  text = [];
  enough = length bytes;
  runs = refl;
  turns = omega arith;
  part = omega arith;
  printed = record { stored = refl; behind = refl; within = omega arith };
  sound = sound;
}

-- what the test of a turn tells
pub record Goes (ends : Bool) (left wanted room step : ℕ) : Type 0 where
  pub on : ends ≡ false
  pub some : 0 < left
  pub many : wanted ≤ left
  pub line : 64 ≤ room
  pub number : step < 18446744073709551615

pub told : (ends : Bool) (left wanted room step : ℕ) → going ends left wanted room step ≡ true
    → Goes ends left wanted room step
told ends left wanted room step e =
    let a = both (not ends && ltb 0 left && leb wanted left && leb 64 room) (ltb step 18446744073709551615) e in
    let b = both (not ends && ltb 0 left && leb wanted left) (leb 64 room) a.0 in
    let d = both (not ends && ltb 0 left) (leb wanted left) b.0 in
    let f = both (not ends) (ltb 0 left) d.0 in
    record {
      on = not-true ends f.0;
      some = ltb-true 0 left f.1;
      many = leb-true wanted left d.1;
      line = leb-true 64 room b.1;
      number = ltb-true step 18446744073709551615 a.1;
    }

module _ {bytes lent : List ℕ} {wanted : ℕ} {whole : Standing} {c : List (List ℕ)} {out : List ℕ} {n at used : ℕ}
    {ends : Bool}
    (r : Reached bytes lent wanted whole c out n at used ends) where
  -- the bytes printed to are as many as were lent
  pub long : length out ≡ length lent
  long = same-room r.printed

  pub room : used ≤ length out
  room = omega (arith, long, r.printed.within)

  abbrev here : Standing
  here = standing c n (drop at bytes) r.text ends

  module _ {b : Bool} (test : b ≡ going ends (length bytes - at) wanted (length out - used) n) where
    -- the test is the definition's
    tested : b ≡ goes_on wanted (length lent) here
    tested = test ∙ rw (long, r.printed.behind, zero-add (length r.text), length-drop at bytes) refl

    -- after the last turn
    stopped : (enough : ℕ) → goes_on wanted (length lent) here ≡ false
        → run_within enough wanted (length lent) here ≡ here
    unfolding run_within
    stopped zero e = refl
    stopped (suc enough) e = rw e refl

    pub reached_end : (before : List (List ℕ)) (step : ℕ)
        → whole ≡ run_of (view before) step bytes wanted (length lent) → b ≡ false
        → ListsAll before step bytes wanted lent (record { number = n; taken = at; used = used; ends = ends }) c out
    reached_end before step w e =
        let is : here ≡ run_of (view before) step bytes wanted (length lent) =
        sym (stopped r.enough (sym tested ∙ e)) ∙ r.runs ∙ w in
        let text : r.text ≡ (run_of (view before) step bytes wanted (length lent)).text =
        ap (λ (p : Standing). p.text) is in
        let size : used ≡ length r.text = r.printed.behind ∙ zero-add (length r.text) in
        record {
          text =
              r.printed.stored ∙ sets-eq r.text lent 0 (omega (arith, r.printed.within, size))
              ∙ rw (zero-add (length r.text), size) (ap (λ (z : List ℕ). z ++ drop (length r.text) lent) text);
          used = size ∙ ap length text;
          room = omega (arith, r.printed.within);
          number = ap (λ (p : Standing). p.step) is;
          rest = ap (λ (p : Standing). p.bytes) is;
          part = r.part;
          ends = ap (λ (p : Standing). p.ends) is;
          ledgers = ap (λ (p : Standing). p.shards) is;
          sound = r.sound;
        }

    module _ (goes : b ≡ true) where
      pub goes_told : Goes ends (length bytes - at) wanted (length out - used) n
      goes_told = told ends (length bytes - at) wanted (length out - used) n (sym test ∙ goes)

      -- the part from a place on, which is handed to the step, is all that is behind it
      module _ {x : Listed} {c' : List (List ℕ)} {out' : List ℕ}
          (part : Lists c n (take (length bytes - at) (drop at bytes)) out used x c' out') where
        s : Lists c n (drop at bytes) out used x c' out'
        s =
            subst (λ (l : List ℕ). Lists c n l out used x c' out')
            (take_all (length bytes - at) (drop at bytes) (omega (arith, length-drop at bytes)))
            part

        -- the bytes taken are some of those left
        pub taken-part : at + x.taken ≤ length bytes
        taken-part = omega (arith, s.part, length-drop at bytes, r.part)

        pub taken-one : at < at + x.taken
        taken-one =
            omega (arith, s.taken, taken-some (drop at bytes) (λ z. absurd (omega (arith, z, length-drop at bytes, goes_told.some))))

        pub reached_next : Reached bytes lent wanted whole c' out' (n + 1) (at + x.taken) x.at x.ends
        unfolding rest_of further run_within
        reached_next = go r.enough r.runs r.turns
          where
            line : List ℕ
            line = (step_of (view c) n (drop at bytes)).line

            rest : rest_of (drop at bytes) ≡ drop (at + x.taken) bytes
            rest = drop-drop (taken_of (drop at bytes)) at bytes ∙ ap (λ (m : ℕ). drop (at + m) bytes) (sym s.taken)

            turn : further here ≡ standing c' (n + 1) (drop (at + x.taken) bytes) (r.text ++ line) x.ends
            turn = rw (rest, s.ledgers, s.ends) refl

            go : (enough : ℕ) → run_within enough wanted (length lent) here ≡ whole → length bytes ≤ at + enough
                → Reached bytes lent wanted whole c' out' (n + 1) (at + x.taken) x.at x.ends
            go zero e h = absurd (omega (arith, goes_told.some))
            go (suc enough) e h = record {
              text = r.text ++ line;
              enough = enough;
              runs = sym (ap (run_within enough wanted (length lent)) turn) ∙ sym (rw (sym tested ∙ goes) refl) ∙ e;
              turns = omega (arith, taken-one);
              part = taken-part;
              printed = bounded (length lent) (then r.printed s.shows) (omega (arith, s.shows.within, goes_told.line, long));
              sound = s.sound;
            }
