-- A turn of the loop over the records: the place moves on, and what is summed up and what is left stay the same sum.
use Rattle.std.proofs.Common.{
  ◌≡◌,
  ℕ,
  zero,
  suc,
  ◌+◌,
  ◌-◌,
  ◌%◌,
  ◌^◌,
  ◌<◌,
  ◌≤◌,
  Bool,
  true,
  false,
  cond,
  eqb,
  List,
  length,
  take,
  drop,
  sym,
  refl,
  ap,
  ◌∙◌,
  arith,
  length-drop,
  take_all,
  drop-drop,
  ne_eqb,
  eqb-true,
}
use borrow.Author.Tests.{eqb-false}
use Rattle.reader.specs.declared.Reading.{Reading}
use Rattle.reader.specs.Reading.{reading_of, taken_of, rest_of, Reads}
use Rattle.reader.proofs.Cases.{taken-within}
use Rattle.probes.specs.Votes.{worth_of, next_bytes, sum_of}

-- the part from a place to the end
tail : (l : List ℕ) (at : ℕ) → take (length l - at) (drop at l) ≡ drop at l
tail l at = take_all (length l - at) (drop at l) (rw (length-drop at l) (omega arith))

taken-of : (l : List ℕ) → (reading_of l).taken ≡ taken_of l
unfolding reading_of
taken-of l = refl

-- the record at a place ends within the bytes
pub within : (l : List ℕ) (at : ℕ) {r : Reading} → at ≤ length l → Reads (take (length l - at) (drop at l)) r
    → at + r.taken ≤ length l
within l at {r} h reads =
    let e : r.taken ≡ taken_of (drop at l) =
    ap (λ (x : Reading). x.taken) (reads.whole ∙ ap reading_of (tail l at)) ∙ taken-of (drop at l) in
    omega (arith, taken-within (drop at l), length-drop at l)

-- the place behind what is taken, or the front, is where the next record is read
next-bytes : (l : List ℕ) (at : ℕ) → at ≤ length l
    → drop (cond (eqb (at + taken_of (drop at l)) (length l)) 0 (at + taken_of (drop at l))) l ≡ next_bytes l (drop at l)
unfolding next_bytes rest_of
next-bytes l at h = go (eqb (at + taken_of (drop at l)) (length l)) refl
  where
    rest : drop (taken_of (drop at l)) (drop at l) ≡ drop (at + taken_of (drop at l)) l
    rest = drop-drop (taken_of (drop at l)) at l

    size : length (drop (taken_of (drop at l)) (drop at l)) ≡ length l - (at + taken_of (drop at l))
    size = ap length rest ∙ length-drop (at + taken_of (drop at l)) l

    go : (b : Bool) → eqb (at + taken_of (drop at l)) (length l) ≡ b
        → drop (cond (eqb (at + taken_of (drop at l)) (length l)) 0 (at + taken_of (drop at l))) l
        ≡ next_bytes l (drop at l)
    go true e =
        let z : length (drop (taken_of (drop at l)) (drop at l)) ≡ 0 =
        omega (arith, size, eqb-true (at + taken_of (drop at l)) (length l) e) in
        rw (e, z) refl
    go false e =
        let n : (length (drop (taken_of (drop at l)) (drop at l)) ≡ 0 → ⊥)
        = λ z. eqb-false (at + taken_of (drop at l)) (length l) e (omega (arith, size, taken-within (drop at l), length-drop at l)) in
        rw (e, ne_eqb (length (drop (taken_of (drop at l)) (drop at l))) 0 n) (sym rest)

-- so many records are left, from this place on
pub record Left (l : List ℕ) (records sum at left : ℕ) : Type 0 where
  pub place : at ≤ length l
  pub low : sum < 2 ^ 64
  pub whole : (sum + sum_of l (drop at l) left) % 2 ^ 64 ≡ sum_of l l records % 2 ^ 64

pub start : (l : List ℕ) (records : ℕ) → Left l records 0 0 (records - 0)
start l records = let e : records - 0 ≡ records = omega arith in rw e (record { place = omega arith; low = omega arith; whole = omega arith })

one_more : (l p : List ℕ) (left : ℕ) → 0 < left
    → sum_of l p left ≡ worth_of (reading_of p).answer (reading_of p).transaction + sum_of l (next_bytes l p) (left - 1)
unfolding sum_of
one_more l p zero h = absurd (omega arith)
one_more l p (suc n) h = let e : suc n - 1 ≡ n = omega arith in rw e refl

none_left : (l p : List ℕ) (left : ℕ) → left ≤ 0 → sum_of l p left ≡ 0
unfolding sum_of
none_left l p zero h = refl
none_left l p (suc n) h = absurd (omega arith)

next-within : (place size : ℕ) {next : ℕ} → place ≤ size → next ≡ cond (eqb place size) 0 place → next ≤ size
next-within place size h e = rw e (go (eqb place size))
  where
    go : (b : Bool) → cond b 0 place ≤ size
    go true = omega arith
    go false = h

pub turn : (l : List ℕ) (records sum at read : ℕ) {r : Reading} {worth more next : ℕ} → Left l records sum at (records - read)
    → read < records
    → Reads (take (length l - at) (drop at l)) r → worth ≡ worth_of r.answer r.transaction
    → more ≡ (sum + worth) % 2 ^ 64
    → next ≡ cond (eqb (at + r.taken) (length l)) 0 (at + r.taken)
    → Left l records more next (records - (read + 1))
turn l records sum at read {r} {worth} {more} {next} inv h reads ew em en =
    let left = records - read in
    let fewer : records - (read + 1) ≡ left - 1 = omega arith in
    let er : r ≡ reading_of (drop at l) = reads.whole ∙ ap reading_of (tail l at) in
    let et : r.taken ≡ taken_of (drop at l) = ap (λ (x : Reading). x.taken) er ∙ taken-of (drop at l) in
    let ev : worth ≡ worth_of (reading_of (drop at l)).answer (reading_of (drop at l)).transaction
    = ew ∙ ap (λ (x : Reading). worth_of x.answer x.transaction) er in
    let eb : drop next l ≡ next_bytes l (drop at l)
    = ap (λ (n : ℕ). drop n l) (en ∙ ap (λ (n : ℕ). cond (eqb (at + n) (length l)) 0 (at + n)) et) ∙ next-bytes l at inv.place in
    let es : sum_of l (drop at l) left ≡ worth + sum_of l (drop next l) (left - 1)
    = one_more l (drop at l) left (omega arith) ∙ rw (← ev, ← eb) refl in
    rw fewer (record {
      place = next-within (at + r.taken) (length l) (within l at inv.place reads) en;
      low = omega arith;
      whole = omega (arith, es, inv.whole);
    })

pub done : (l : List ℕ) (records sum at read : ℕ) → Left l records sum at (records - read) → records ≤ read
    → sum ≡ sum_of l l records % 2 ^ 64
done l records sum at read inv h =
    omega (arith, inv.whole, inv.low, none_left l (drop at l) (records - read) (omega arith))
