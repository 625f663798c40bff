-- The known transactions of a shard: looked up by number, and entered.
use Prim.Native.Nat.{ℕ, suc}
use mathlib.Core.Path.{◌≡◌, refl, ap, sym, ◌∙◌, subst}
use mathlib.Core.Bool.{Bool, true, false, cond, ◌&&◌, ◌||◌, not, false≢true}
use mathlib.Core.Option.{Option, none, some}
use mathlib.Core.List.{List, [], ◌∷◌, ◌++◌, Memᴰ}
use lib.Dec.{eqb}
use lib.ListN.{length, get_or, set, replicate}
use lib.Seq.{get_or-set_other}
use Rattle.std.specs.Prelude.{Some, None}
use Rattle.transaction.specs.declared.Transaction.{Transaction}
use Rattle.transaction.specs.Lists.{any}
use Rattle.transaction.specs.Tokens.{same_transaction}
use Rattle.transaction.proofs.Same.{same_exactly}
use Rattle.transaction.proofs.Slots.{any_append}
use Rattle.model.specs.declared.Known.{Known}
use Rattle.model.specs.Lists.{find, lookup}
use Rattle.model.specs.Said.{Said}
use Rattle.model.specs.Steps.{is_for, nothing_known, place_of, entry_of, Ledger, vote, newly_known, heard_from, after_register}
use Rattle.model.specs.Shard.{has_number, is_other, is_unknown}
use Rattle.model.proofs.Basics.{
  eqb-eq,
  eqb_same,
  eqb_yes,
  eqb_no,
  eqb_apart,
  not_yes,
  not-no,
  clash,
  and_intro,
  some≢none,
  some_inj,
  any_at,
  any_of,
  any_none,
  any-no,
  find_at,
  both,
  neither,
  not_is,
  get_or-same,
}
use Rattle.model.proofs.Lookups.{lookup-passes, lookup-mem, lookup-no, Alone, alone-lookup}

-- the test of whole-field equality, both ways
pub same-eq : (a b : Transaction) → same_transaction a b ≡ true → a ≡ b
same-eq a b = (same_exactly a b).0

-- equal transactions pass the test
pub same_true : {a b : Transaction} → a ≡ b → same_transaction a b ≡ true
same_true {a} {b} e = (same_exactly a b).1 e

-- ---- Lookups by number

-- the test of a number
abbrev pub numbered : ℕ → Known → Bool
numbered n k = eqb k.transaction.number n

-- the known transaction of a number
abbrev pub look : List Known → ℕ → Option Known
look known n = lookup (numbered n) known

-- no two known transactions have one number
abbrev pub same_number : Known → Known → Bool
same_number a b = numbered a.transaction.number b

-- no number twice
abbrev pub OneEach : List Known → Type 0
OneEach known = Alone same_number known

-- what is found has the number
pub look-number : (l : List Known) (n : ℕ) {k : Known} → look l n ≡ some k → k.transaction.number ≡ n
look-number l n {k} e = eqb-eq k.transaction.number n (lookup-passes (numbered n) l e)

-- a known transaction is found by its number
pub mem-look : (l : List Known) → OneEach l → {k : Known} → Memᴰ k l → look l k.transaction.number ≡ some k
mem-look l s m = alone-lookup same_number (λ k. eqb_same k.transaction.number)
    (λ a b e. eqb_yes (sym (eqb-eq b.transaction.number a.transaction.number e))) l s m

-- an entry put in the place of the one of its number, or behind the others: one form for registrations and votes
abbrev pub put : Known → List Known → List Known
put k [] = k ∷ []
put k (j ∷ l) = cond (eqb j.transaction.number k.transaction.number) (k ∷ l) (j ∷ put k l)

-- what is found after an entry was put in
pub look-put : (k : Known) (l : List Known) (n : ℕ) → look (put k l) n ≡ cond (eqb k.transaction.number n) (some k) (look l n)
look-put k [] n = refl
look-put k (j ∷ l) n = go (eqb j.transaction.number k.transaction.number) refl (look-put k l n)
  where
    two : (a b : Bool) (x y : Option Known) → (a ≡ true → b ≡ true → ⊥) → cond a x (cond b (some k) y) ≡ cond b (some k) (cond a x y)
    two true true x y f = absurd (f refl refl)
    two true false x y f = refl
    two false b x y f = refl

    go : (b : Bool) → eqb j.transaction.number k.transaction.number ≡ b → look (put k l) n ≡ cond (eqb k.transaction.number n) (some k) (look l n)
        → look (cond b (k ∷ l) (j ∷ put k l)) n ≡ cond (eqb k.transaction.number n) (some k) (cond (eqb j.transaction.number n) (some j) (look l n))
    go true p h =
        let q : eqb j.transaction.number n ≡ eqb k.transaction.number n =
        ap (λ (m : ℕ). eqb m n) (eqb-eq j.transaction.number k.transaction.number p) in
        skip (eqb k.transaction.number n) (eqb j.transaction.number n) q
      where
        skip : (a b : Bool) → b ≡ a → cond a (some k) (look l n) ≡ cond a (some k) (cond b (some j) (look l n))
        skip true b q = refl
        skip false b q = sym (ap (λ (c : Bool). cond c (some j) (look l n)) q)
    go false p h =
        ap (λ (o : Option Known). cond (eqb j.transaction.number n) (some j) o) h
        ∙ two (eqb j.transaction.number n) (eqb k.transaction.number n) (some j) (look l n)
        (λ a b. eqb_apart {m = j.transaction.number} {n = k.transaction.number} p
        (eqb-eq j.transaction.number n a ∙ sym (eqb-eq k.transaction.number n b)))

-- the entry put in is found by its number
pub look-put-same : (k : Known) (l : List Known) {n : ℕ} → k.transaction.number ≡ n → look (put k l) n ≡ some k
look-put-same k l {n} e = look-put k l n ∙ ap (λ (b : Bool). cond b (some k) (look l n)) (eqb_yes e)

-- any other number finds what it found
pub look-put-other : (k : Known) (l : List Known) {n : ℕ} → (k.transaction.number ≡ n → ⊥) → look (put k l) n ≡ look l n
look-put-other k l {n} f = look-put k l n ∙ ap (λ (b : Bool). cond b (some k) (look l n)) (eqb_no f)

-- what holds of the entry put in and of each other entry holds of each entry
pub look-put-elim : (Q : ℕ → Known → Type 0) (k : Known) (l : List Known)
    → Q k.transaction.number k → ((n : ℕ) (j : Known) → look l n ≡ some j → Q n j) → (n : ℕ) (j : Known) → look (put k l) n ≡ some j → Q n j
look-put-elim Q k l h g n j e = go (eqb k.transaction.number n) refl (sym (look-put k l n) ∙ e)
  where
    go : (b : Bool) → eqb k.transaction.number n ≡ b → cond b (some k) (look l n) ≡ some j → Q n j
    go true p q = subst (λ (c : Known). Q n c) (some_inj q) (subst (λ (m : ℕ). Q m k) (eqb-eq k.transaction.number n p) h)
    go false p q = g n j q

-- putting an entry in makes no number twice
pub one-each-put : (k : Known) (l : List Known) → OneEach l → OneEach (put k l)
one-each-put k [] s = (refl, tt)
one-each-put k (j ∷ l) s = go (eqb j.transaction.number k.transaction.number) refl (one-each-put k l s.1)
  where
    go : (b : Bool) → eqb j.transaction.number k.transaction.number ≡ b → OneEach (put k l) → OneEach (cond b (k ∷ l) (j ∷ put k l))
    go true e h = (ap (look l) (sym (eqb-eq j.transaction.number k.transaction.number e)) ∙ s.0, s.1)
    go false e h = (look-put-other k l (λ z. eqb_apart {m = j.transaction.number} {n = k.transaction.number} e (sym z)) ∙ s.0, h)

-- ---- A registration puts its entry behind the others, and a vote puts it in its place

-- behind the others, where the number is unknown
pub append-put : (k : Known) (l : List Known) → look l k.transaction.number ≡ none → l ++ (k ∷ []) ≡ put k l
append-put k [] e = refl
append-put k (j ∷ l) e = go (eqb j.transaction.number k.transaction.number) e (append-put k l)
  where
    go : (b : Bool) → cond b (some j) (look l k.transaction.number) ≡ none → (look l k.transaction.number ≡ none → l ++ (k ∷ []) ≡ put k l)
        → j ∷ (l ++ (k ∷ [])) ≡ cond b (k ∷ l) (j ∷ put k l)
    go true q h = some≢none refl q
    go false q h = ap (λ (m : List Known). j ∷ m) (h q)

-- in the place of the one that is known
pub set-put : (t : Transaction) (k : Known) (l : List Known) → OneEach l → k.transaction.number ≡ t.number
    → any (is_for t) l ≡ true → set l (find (is_for t) l) k ≡ put k l
set-put t k [] s n e = absurd (false≢true e)
set-put t k (j ∷ l) s n e = go (is_for t j) refl e (set-put t k l s.1 n)
  where
    go : (b : Bool) → is_for t j ≡ b → b || any (is_for t) l ≡ true → (any (is_for t) l ≡ true → set l (find (is_for t) l) k ≡ put k l)
        → set (j ∷ l) (cond b 0 (suc (find (is_for t) l))) k ≡ put k (j ∷ l)
    go true y q h =
        sym (ap (λ (b : Bool). cond b (k ∷ l) (j ∷ put k l))
        (eqb_yes {m = j.transaction.number} {n = k.transaction.number} (ap (λ (a : Transaction). a.number) (same-eq j.transaction t y) ∙ sym n)))
    go false y q h =
        let r = any_at (is_for t) l q in
        let z : r.0.transaction.number ≡ t.number = ap (λ (a : Transaction). a.number) (same-eq r.0.transaction t r.2) in
        let apart : j.transaction.number ≡ k.transaction.number → ⊥ =
        λ w. some≢none (mem-look l s.1 r.1) (ap (look l) (z ∙ sym n ∙ sym w) ∙ s.0) in
        ap (λ (m : List Known). j ∷ m) (h q)
        ∙ sym (ap (λ (b : Bool). cond b (k ∷ l) (j ∷ put k l)) (eqb_no {m = j.transaction.number} {n = k.transaction.number} apart))

-- refusals 7 and 8 passed: the number is unknown
pub number-unknown : (t : Transaction) (l : List Known) → any (is_other t) l ≡ false → any (is_for t) l ≡ false → look l t.number ≡ none
number-unknown t l other same =
    lookup-no (has_number t) l (any-no (has_number t) l (λ k m e. clash (and_intro e (ap not (any_none (is_for t) same m))) (any_none (is_other t) other m)))

-- the number is known, and refusal 7 passed: the transaction is known
pub whole-known : (t : Transaction) (l : List Known) → any (has_number t) l ≡ true → any (is_other t) l ≡ false → any (is_for t) l ≡ true
whole-known t l number other =
    let r = any_at (has_number t) l number in
    any_of (is_for t) r.1 (not-no (is_for t r.0) (not_yes (λ n. clash (and_intro r.2 n) (any_none (is_other t) other r.1))))

-- an unknown number: no other transaction of it is known, nor this one
pub new-number : (t : Transaction) (l : List Known) → is_unknown t l ≡ true → (any (is_other t) l ≡ false) × (any (is_for t) l ≡ false)
new-number t l e =
    let none : any (has_number t) l ≡ false = not_is e in (
      any-no (is_other t) l (λ k m y. clash (both (has_number t k) (not (is_for t k)) y).0 (any_none (has_number t) none m)),
      any-no (is_for t) l (λ k m y. clash (eqb_yes (ap (λ (a : Transaction). a.number) (same-eq k.transaction t y))) (any_none (has_number t) none m)),
    )

-- a transaction that is known has its number known
pub known-number : (t : Transaction) (l : List Known) → any (is_for t) l ≡ true → any (has_number t) l ≡ true
known-number t l e =
    let r = any_at (is_for t) l e in
    any_of (has_number t) r.1 (eqb_yes (ap (λ (a : Transaction). a.number) (same-eq r.0.transaction t r.2)))

-- the entry of a known transaction, by its place and by its number
pub entry-look : (t : Transaction) (l : List Known) → OneEach l → any (is_for t) l ≡ true
    → (look l t.number ≡ some (entry_of t l)) × ((entry_of t l).transaction ≡ t)
unfolding entry_of place_of
entry-look t l s e =
    let r = find_at (is_for t) l nothing_known e in
    let w = same-eq (get_or l (find (is_for t) l) nothing_known).transaction t r.1 in
    (ap (λ (a : Transaction). look l a.number) (sym w) ∙ mem-look l s r.0, w)

-- the entry by its number is the entry by its place
pub look-entry : (t : Transaction) (l : List Known) → OneEach l → {k : Known} → look l t.number ≡ some k
    → k.transaction ≡ t → (any (is_for t) l ≡ true) × (entry_of t l ≡ k)
look-entry t l s {k} e w =
    let a : any (is_for t) l ≡ true = any_of (is_for t) (lookup-mem (numbered t.number) l e) (same_true w) in
    (a, some_inj (sym (entry-look t l s a).0 ∙ e))

-- ---- What a registration enters

-- the first one of which a test holds, where it is the last one
pub find-last : {A : Type 0} (f : A → Bool) (l : List A) (a : A) → any f l ≡ false → f a ≡ true → find f (l ++ (a ∷ [])) ≡ length l
find-last f [] a n y = ap (λ (b : Bool). cond b 0 1) y
find-last f (x ∷ l) a n y =
    let r = neither (f x) (any f l) n in
    ap (λ (b : Bool). cond b 0 (suc (find f (l ++ (a ∷ []))))) r.0 ∙ ap suc (find-last f l a r.1 y)

-- the transaction that is entered behind the others is known, and this is its entry
pub entry-last : (t : Transaction) (l : List Known) (k : Known) → any (is_for t) l ≡ false → is_for t k ≡ true
    → (any (is_for t) (l ++ (k ∷ [])) ≡ true) × (entry_of t (l ++ (k ∷ [])) ≡ k)
unfolding entry_of place_of
entry-last t l k n y = (
  any_append (is_for t) l (k ∷ []) ∙ (λ i. n i || (y i || false)),
  ap (λ (place : ℕ). get_or (l ++ (k ∷ [])) place nothing_known) (find-last (is_for t) l k n y) ∙ at_end l,
)
  where
    at_end : (l : List Known) → get_or (l ++ (k ∷ [])) (length l) nothing_known ≡ k
    at_end [] = refl
    at_end (j ∷ l) = at_end l

module _ (p : ℕ) (l : Ledger) (t : Transaction) (unknown : any (is_for t) l.known ≡ false) where
  -- after a registration the transaction is known, with the own vote alone
  pub registered-known : any (is_for t) (after_register p l t).known ≡ true
  unfolding after_register newly_known
  registered-known = (entry-last t l.known (newly_known p l.tokens t) unknown (same_true refl)).0

  pub registered-entry : entry_of t (after_register p l t).known ≡ newly_known p l.tokens t
  unfolding after_register newly_known
  registered-entry = (entry-last t l.known (newly_known p l.tokens t) unknown (same_true refl)).1

  -- and no other one of its number, if none was
  pub registered-alone : any (is_other t) l.known ≡ false → any (is_other t) (after_register p l t).known ≡ false
  unfolding after_register newly_known
  registered-alone others =
      let k : Known = newly_known p l.tokens t in
      any_append (is_other t) l.known (k ∷ []) ∙ (λ i. others i || (and_no (has_number t k) (same_true {a = t} {b = t} refl) i || false))
    where
      and_no : (a : Bool) {b : Bool} → b ≡ true → a && not b ≡ false
      and_no true e = ap not e
      and_no false e = refl

  -- no other shard is heard yet
  pub registered-unheard : (q : ℕ) → (q ≡ p → ⊥) → heard_from q (entry_of t (after_register p l t).known) ≡ None
  unfolding newly_known
  registered-unheard q n =
      ap (heard_from q) registered-entry
      ∙ get_or-set_other (replicate 8 None) p q (Some (vote p l.tokens t)) None n ∙ get_or-same {A = Said} 8 None q
