-- The reader's definitions, case by case: what no whole record gives, and what each kind of whole record gives.
use Prim.Native.Nat.{ℕ, ◌+◌, ◌-◌, ◌≤◌, ◌<◌}
use mathlib.Core.Path.{◌≡◌, refl, sym, ap, ◌∙◌}
use mathlib.Core.Bool.{Bool, true, false, cond, not, ◌&&◌}
use mathlib.Core.Logic.{◌⊎◌, inl, inr, ⊎_elim}
use mathlib.Core.List.{List, [], ◌∷◌}
use native.Mathlib.Omega.{arith}
use borrow.Author.Tests.{eqb-true, leb-false, eq-eqb, ne_eqb, lt-leb, le-leb}
use lib.Dec.{eqb, leb}
use lib.ListN.{length}
use Rattle.std.proofs.Common.{Some, None, is_none, Result, Ok, Err, is_ok}
use Rattle.transaction.specs.declared.Transaction.{Transaction}
use Rattle.transaction.specs.declared.refusal.Refusal.{Refusal}
use Rattle.transaction.specs.declared.refusal.Refusal.TheVariants.{UnknownKind, TooShort, OutOfRange}
use Rattle.transaction.specs.Refusals.{number_of, answer_of}
use Rattle.transaction.specs.Lists.{first_of}
use Rattle.transaction.proofs.Tables.{first-stands, first-behind}
use Rattle.transaction.specs.Tokens.{blank_transaction}
use Rattle.transaction.specs.Checks.{house_genesis, shard_fits, checks, cause_of, register_checks, vote_checks, mint_checks, turn_checks}
use Rattle.reader.specs.declared.Record.{Record}
use Rattle.reader.specs.declared.Record.TheVariants.{Register, Vote, Mint, Turn}
use Rattle.reader.specs.declared.Reading.{Reading}
use Rattle.reader.specs.Layout.{byte_at, word_at, body_length, transaction_at}
use Rattle.reader.specs.Reading.{
  kind_of,
  body_of,
  head_cause,
  head_checks,
  body_checks,
  read_cause,
  record_at,
  transaction_in,
  taken_of,
  reading_of,
  refusal,
  Reads,
}

-- the three checks of the head: none holds where the head passes
none_of : (a b c : Bool) → first_of ((a, TooShort) ∷ (b, UnknownKind) ∷ (c, TooShort) ∷ []) ≡ Ok tt
    → (a ≡ false) × ((b ≡ false) × (c ≡ false))
none_of true b c h = absurd cc
none_of false true c h = absurd cc
none_of false false true h = absurd cc
none_of false false false h = (refl, (refl, refl))

-- the four cases of the head, from what was found
module _ (l : List ℕ) where
  pub head-empty : length l ≡ 0 → Err TooShort ≡ head_cause l
  unfolding head_cause
  head-empty e = rw (eq-eqb (length l) 0 e) refl

  pub head-unknown : (length l ≡ 0 → ⊥) → None ≡ body_length (kind_of l) → Err UnknownKind ≡ head_cause l
  unfolding head_cause
  head-unknown some e = rw (ne_eqb (length l) 0 some, ← e) refl

  pub head-short : {n : ℕ} → (length l ≡ 0 → ⊥) → Some n ≡ body_length (kind_of l) → length l ≤ n
      → Err TooShort ≡ head_cause l
  unfolding head_cause
  head-short {n} some e short = rw (ne_eqb (length l) 0 some, ← e, le-leb (length l) n short) refl

  pub head-whole : {n : ℕ} → (length l ≡ 0 → ⊥) → Some n ≡ body_length (kind_of l) → n < length l
      → Ok tt ≡ head_cause l
  unfolding head_cause
  head-whole {n} some e long = rw (ne_eqb (length l) 0 some, ← e, lt-leb (length l) n long) refl

-- No whole record stands at the front.
module _ (l : List ℕ) {cause : Refusal} (n : head_cause l ≡ Err cause) where
  cause-of-head : read_cause l ≡ Err cause
  unfolding head_cause read_cause
  cause-of-head = first-stands (head_checks l) (body_checks l) n

  pub taken-all : taken_of l ≡ length l
  unfolding taken_of
  taken-all = rw n refl

  pub reading_none : refusal cause (length l) ≡ reading_of l
  unfolding reading_of
  reading_none = rw (cause-of-head, taken-all) refl

-- beside a record without a transaction stands a blank one, read or refused
blank_beside : (b : Bool) → cond b blank_transaction blank_transaction ≡ blank_transaction
blank_beside true = refl
blank_beside false = refl

-- A whole record stands at the front.
module _ (l : List ℕ) (h : head_cause l ≡ Ok tt) where
  pub whole : body_of l < length l
  unfolding head_cause
  whole =
      leb-false _ _ (none_of (eqb (length l) 0) (is_none (body_length (kind_of l))) (leb (length l) (body_of l)) h).1.1

  pub known : is_none (body_length (kind_of l)) ≡ false
  unfolding head_cause
  known = (none_of (eqb (length l) 0) (is_none (body_length (kind_of l))) (leb (length l) (body_of l)) h).1.0

  cause_of_body : read_cause l ≡ first_of (body_checks l)
  unfolding head_cause read_cause
  cause_of_body = first-behind (head_checks l) (body_checks l) h

  pub taken_record : taken_of l ≡ body_of l + 1
  unfolding taken_of
  taken_record = rw h

  pub taken_found : {n : ℕ} → Some n ≡ body_length (kind_of l) → n + 1 ≡ taken_of l
  taken_found e = rw (taken_record, ← e) refl

  -- the reading from the parts that were found
  pub reading_good : {taken : ℕ} {fields : Record} {t : Transaction} → read_cause l ≡ Ok tt
      → fields ≡ record_at l → t ≡ transaction_in l → taken ≡ taken_of l
      → ◌≡◌ {A = Reading} (record { answer = Ok fields; transaction = t; taken = taken }) (reading_of l)
  unfolding reading_of
  reading_good z ef et ek = rw (z, ef, et, ek) refl

  pub reading_bad : {cause : Refusal} {taken : ℕ} → read_cause l ≡ Err cause → taken ≡ taken_of l
      → refusal cause taken ≡ reading_of l
  unfolding reading_of
  reading_bad z ek = rw (z, ek) refl

  -- the answer from the checks that were found, and from the fields
  pub answer_fails : {cause : Refusal} → read_cause l ≡ Err cause → Err cause ≡ answer_of (read_cause l) (record_at l)
  answer_fails z = rw z refl

  pub answer_passes : {fields : Record} → read_cause l ≡ Ok tt → fields ≡ record_at l
      → Ok fields ≡ answer_of (read_cause l) (record_at l)
  answer_passes z ef = rw (z, ef) refl

  pub reading_bare : {taken : ℕ} → transaction_in l ≡ blank_transaction → taken ≡ taken_of l
      → record { answer = answer_of (read_cause l) (record_at l); transaction = blank_transaction; taken = taken } ≡ reading_of l
  unfolding reading_of
  reading_bare et ek = rw (et, ek, blank_beside (is_ok (read_cause l))) refl

-- each kind's length, checks, fields and transaction
pub length_1 : (k : ℕ) → k ≡ 1 → body_length k ≡ Some 99
unfolding body_length
length_1 k e = rw e

pub length_2 : (k : ℕ) → k ≡ 2 → body_length k ≡ Some 101
unfolding body_length
length_2 k e = rw e

pub length_3 : (k : ℕ) → k ≡ 3 → body_length k ≡ Some 10
unfolding body_length
length_3 k e = rw e

pub length_4 : (k : ℕ) → k ≡ 4 → body_length k ≡ Some 1
unfolding body_length
length_4 k e = rw e

-- a whole record is of kind 1, 2, 3 or 4: every other kind has no body
pub by_kinds : (l : List ℕ) → head_cause l ≡ Ok tt → (P : Type 0)
    → (kind_of l ≡ 1 → P) → (kind_of l ≡ 2 → P) → (kind_of l ≡ 3 → P) → (kind_of l ≡ 4 → P) → P
unfolding body_length
by_kinds l h P one two three four =
    go (eqb (kind_of l) 1) (eqb (kind_of l) 2) (eqb (kind_of l) 3) (eqb (kind_of l) 4) refl refl refl refl (known l h)
  where
    go : (a b c d : Bool) → eqb (kind_of l) 1 ≡ a → eqb (kind_of l) 2 ≡ b → eqb (kind_of l) 3 ≡ c → eqb (kind_of l) 4 ≡ d
        → is_none {T = ℕ} (cond a (Some 99) (cond b (Some 101) (cond c (Some 10) (cond d (Some 1) None)))) ≡ false → P
    go true b c d e1 e2 e3 e4 n = one (eqb-true (kind_of l) 1 e1)
    go false true c d e1 e2 e3 e4 n = two (eqb-true (kind_of l) 2 e2)
    go false false true d e1 e2 e3 e4 n = three (eqb-true (kind_of l) 3 e3)
    go false false false true e1 e2 e3 e4 n = four (eqb-true (kind_of l) 4 e4)
    go false false false false e1 e2 e3 e4 n = absurd cc

module _ (l : List ℕ) (h : head_cause l ≡ Ok tt) (k : kind_of l ≡ 1) where
  pub cause_1 : read_cause l ≡ first_of (register_checks house_genesis (byte_at l 1) (transaction_at l 2))
  cause_1 = cause_of_body l h ∙ rw k refl

  pub record_1 : record_at l ≡ Register (byte_at l 1)
  unfolding record_at
  record_1 = rw k refl

  pub transaction_1 : transaction_in l ≡ transaction_at l 2
  unfolding transaction_in
  transaction_1 = rw k refl

  pub taken_1 : taken_of l ≡ 100
  taken_1 = taken_record l h ∙ rw (length_1 (kind_of l) k) refl

  pub long_1 : 100 ≤ length l
  long_1 = omega (arith, whole l h, taken_record l h, taken_1)

module _ (l : List ℕ) (h : head_cause l ≡ Ok tt) (k : kind_of l ≡ 2) where
  pub cause_2 : read_cause l ≡ first_of (vote_checks house_genesis (byte_at l 1) (byte_at l 2) (byte_at l 3) (transaction_at l 4))
  cause_2 = cause_of_body l h ∙ rw k refl

  pub record_2 : record_at l ≡ Vote (byte_at l 1) (byte_at l 2) (byte_at l 3)
  unfolding record_at
  record_2 = rw k refl

  pub transaction_2 : transaction_in l ≡ transaction_at l 4
  unfolding transaction_in
  transaction_2 = rw k refl

  pub taken_2 : taken_of l ≡ 102
  taken_2 = taken_record l h ∙ rw (length_2 (kind_of l) k) refl

  pub long_2 : 102 ≤ length l
  long_2 = omega (arith, whole l h, taken_record l h, taken_2)

module _ (l : List ℕ) (h : head_cause l ≡ Ok tt) (k : kind_of l ≡ 3) where
  pub cause_3 : read_cause l ≡ first_of (mint_checks house_genesis (byte_at l 1) (byte_at l 2) (word_at l 3) (word_at l 7))
  cause_3 = cause_of_body l h ∙ rw k refl

  pub record_3 : record_at l ≡ Mint (byte_at l 1) (byte_at l 2) (word_at l 3) (word_at l 7)
  unfolding record_at
  record_3 = rw k refl

  pub transaction_3 : transaction_in l ≡ blank_transaction
  unfolding transaction_in
  transaction_3 = rw k refl

  pub taken_3 : taken_of l ≡ 11
  taken_3 = taken_record l h ∙ rw (length_3 (kind_of l) k) refl

  pub long_3 : 11 ≤ length l
  long_3 = omega (arith, whole l h, taken_record l h, taken_3)

module _ (l : List ℕ) (h : head_cause l ≡ Ok tt) (k : kind_of l ≡ 4) where
  pub cause_4 : read_cause l ≡ first_of (turn_checks (byte_at l 1))
  cause_4 = cause_of_body l h ∙ rw k refl

  pub record_4 : record_at l ≡ Turn (byte_at l 1)
  unfolding record_at
  record_4 = rw k refl

  pub transaction_4 : transaction_in l ≡ blank_transaction
  unfolding transaction_in
  transaction_4 = rw k refl

  pub taken_4 : taken_of l ≡ 2
  taken_4 = taken_record l h ∙ rw (length_4 (kind_of l) k) refl

  pub long_4 : 2 ≤ length l
  long_4 = omega (arith, whole l h, taken_record l h, taken_4)

-- kinds 1 and 2 together: the fields in front pass check 3, and the transaction is the last 98 bytes
abbrev pub front-fit : List ℕ → Bool
front-fit l =
    cond (eqb (kind_of l) 1)
    (shard_fits (byte_at l 1))
    (shard_fits (byte_at l 1) && shard_fits (byte_at l 2) && leb (byte_at l 3) 1)

one_row : (a : Bool) (n : Result Unit Refusal) → cond (not a) (Err OutOfRange) n ≡ cond a n (Err OutOfRange)
one_row true n = refl
one_row false n = refl

three_rows : (a b c : Bool) (n : Result Unit Refusal)
    → cond (not a) (Err OutOfRange) (cond (not b) (Err OutOfRange) (cond (not c) (Err OutOfRange) n))
    ≡ cond (a && b && c) n (Err OutOfRange)
three_rows true true c n = one_row c n
three_rows true false c n = refl
three_rows false b c n = refl

pub first_kinds : (l : List ℕ) → head_cause l ≡ Ok tt → kind_of l ≤ 2 → (kind_of l ≡ 1) ⊎ (kind_of l ≡ 2)
first_kinds l h n =
    by_kinds l h ((kind_of l ≡ 1) ⊎ (kind_of l ≡ 2)) (λ e. inl e) (λ e. inr e)
    (λ e. absurd (omega (arith, n, e))) (λ e. absurd (omega (arith, n, e)))

-- a kind above 2 that is not 3 is 4
pub last-kind : (l : List ℕ) → head_cause l ≡ Ok tt → 2 < kind_of l → (kind_of l ≡ 3 → ⊥) → kind_of l ≡ 4
last-kind l h n n3 =
    by_kinds l h (kind_of l ≡ 4) (λ e. absurd (omega (arith, n, e))) (λ e. absurd (omega (arith, n, e)))
    (λ e. absurd (n3 e)) (λ e. e)

-- a kind above 2 has no transaction
pub bare-transaction : (l : List ℕ) → head_cause l ≡ Ok tt → 2 < kind_of l → transaction_in l ≡ blank_transaction
bare-transaction l h n =
    by_kinds l h (transaction_in l ≡ blank_transaction)
    (λ e. absurd (omega (arith, n, e))) (λ e. absurd (omega (arith, n, e))) (transaction_3 l h) (transaction_4 l h)

module _ (l : List ℕ) (h : head_cause l ≡ Ok tt) (k : (kind_of l ≡ 1) ⊎ (kind_of l ≡ 2)) where
  pub second-kind : (kind_of l ≡ 1 → ⊥) → kind_of l ≡ 2
  second-kind n = ⊎_elim (λ e. absurd (n e)) (λ e. e) k

  pub size-within : 98 + 2 ≤ taken_of l
  size-within = ⊎_elim (λ e. omega (arith, taken_1 l h e)) (λ e. omega (arith, taken_2 l h e)) k

  pub front_long : 100 ≤ length l
  front_long = omega (arith, whole l h, taken_record l h, size-within)

  pub transaction-last : transaction_at l (taken_of l - 98) ≡ transaction_in l
  transaction-last =
      ⊎_elim
      (λ e. rw (taken_1 l h e) (sym (transaction_1 l h e)))
      (λ e. rw (taken_2 l h e) (sym (transaction_2 l h e)))
      k

  cause-behind : read_cause l ≡ cond (front-fit l) (cause_of house_genesis (transaction_in l)) (Err OutOfRange)
  unfolding cause_of
  cause-behind =
      ⊎_elim
      (λ e.
      rw (cause_1 l h e, transaction_1 l h e, e)
      (one_row (shard_fits (byte_at l 1)) (first_of (checks house_genesis (transaction_at l 2)))))
      (λ e.
      rw (cause_2 l h e, transaction_2 l h e, e)
      (three_rows (shard_fits (byte_at l 1)) (shard_fits (byte_at l 2)) (leb (byte_at l 3) 1)
      (first_of (checks house_genesis (transaction_at l 4)))))
      k

  module _ {fit : Bool} (e : fit ≡ front-fit l) where
    pub front_fails : fit ≡ false → read_cause l ≡ Err OutOfRange
    front_fails n = cause-behind ∙ rw (sym e ∙ n) refl

    pub front-passes : fit ≡ true → {found : Result Unit Refusal} {t : Transaction} → t ≡ transaction_in l
        → found ≡ cause_of house_genesis t → read_cause l ≡ found
    front-passes y et ef = cause-behind ∙ rw (sym e ∙ y) (ap (cause_of house_genesis) (sym et) ∙ sym ef)

-- a whole reading keeps the reader's promise
number-of : (found : Result Unit Refusal) (fields : Record) → number_of (answer_of found fields) ≡ number_of found
number-of (Ok pass) fields = refl
number-of (Err cause) fields = refl

pub reads : (l : List ℕ) {r : Reading} → r ≡ reading_of l → Reads l r
unfolding reading_of
reads l e = record {
  number = ap (λ (x : Reading). number_of x.answer) e ∙ number-of (read_cause l) (record_at l);
  whole = e;
}

-- what the record takes is within the bytes
pub taken-within : (l : List ℕ) → taken_of l ≤ length l
taken-within l = go (head_cause l) refl
  where
    go : (found : Result Unit Refusal) → head_cause l ≡ found → taken_of l ≤ length l
    go (Ok pass) h = rw (taken_record l h) (omega (arith, whole l h))
    go (Err cause) h = rw (taken-all l h) (omega arith)
