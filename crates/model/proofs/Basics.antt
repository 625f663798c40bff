-- Tests, options and lists: what the other proofs are written with.
use Prim.Native.Nat.{ℕ, zero, suc, ◌≤◌, ◌<◌}
use native.Mathlib.Omega.{arith}
use mathlib.Core.Path.{◌≡◌, refl, ap, sym, ◌∙◌, subst}
use mathlib.Core.Bool.{Bool, true, false, cond, ◌&&◌, ◌||◌, not, true≢false, false≢true, and_assoc}
use mathlib.Core.Option.{Option, none, some}
use mathlib.Core.List.{List, [], ◌∷◌, ◌++◌, Memᴰ}
use borrow.Author.Tests.{eqb-true, eq-eqb, ne_eqb}
use lib.Dec.{eqb, eqb-suc-suc}
use lib.ListN.{length, get_or, set, replicate}
use lib.Seq.{get_or-set_same, get_or-set_other}
use Rattle.std.specs.Prelude.{Ok, Err}
use Rattle.transaction.specs.declared.refusal.Refusal.{Refusal}
use Rattle.transaction.specs.Refusals.{refusal_number}
use Rattle.transaction.specs.Lists.{any, all, first_of}
use Rattle.model.specs.Lists.{keep, find, map_option}

-- ---- Tests

-- a test of numbers and what it says, both ways
pub eqb-eq : (m n : ℕ) → eqb m n ≡ true → m ≡ n
eqb-eq m n e = eqb-true m n e

-- a number equals itself
pub eqb_same : (n : ℕ) → eqb n n ≡ true
eqb_same n = eq-eqb n n refl

-- equal numbers pass the test
pub eqb_yes : {m n : ℕ} → m ≡ n → eqb m n ≡ true
eqb_yes {m} {n} e = eq-eqb m n e

-- different numbers fail it
pub eqb_no : {m n : ℕ} → (m ≡ n → ⊥) → eqb m n ≡ false
eqb_no {m} {n} f = ne_eqb m n f

-- a test that is not true is false, and one that is both proves anything
pub not_yes : {b : Bool} → (b ≡ true → ⊥) → b ≡ false
not_yes {b = true} f = absurd (f refl)
not_yes {b = false} f = refl

-- a test that is both true and false proves anything
pub clash : {C : Type 0} {b : Bool} → b ≡ true → b ≡ false → C
clash p q = absurd (true≢false (sym p ∙ q))

-- numbers that fail the test differ
pub eqb_apart : {m n : ℕ} → eqb m n ≡ false → m ≡ n → ⊥
eqb_apart {m} {n} p e = clash (eq-eqb m n e) p

-- a test's two cases, for a proof by cases
pub data Case (b : Bool) : Type 0 where
  yes-case : b ≡ true → Case b
  no-case : b ≡ false → Case b

-- every test is in one of the cases
pub case : (b : Bool) → Case b
case true = yes-case refl
case false = no-case refl

-- the parts of && and ||, and of a negated test
pub both : (a b : Bool) → a && b ≡ true → (a ≡ true) × (b ≡ true)
both true b e = (refl, e)
both false b e = absurd (false≢true e)

-- two tests that hold, joined
pub and_intro : {a b : Bool} → a ≡ true → b ≡ true → a && b ≡ true
and_intro {a = true} {b} p q = q
and_intro {a = false} {b} p q = p

-- both parts of an || that fails
pub neither : (a b : Bool) → a || b ≡ false → (a ≡ false) × (b ≡ false)
neither true b e = absurd (true≢false e)
neither false b e = (refl, e)

-- a test whose negation fails holds
pub not-no : (b : Bool) → not b ≡ false → b ≡ true
not-no true e = refl
not-no false e = absurd (true≢false e)

-- a test whose negation holds fails
pub not_is : {b : Bool} → not b ≡ true → b ≡ false
not_is {b = true} e = absurd (false≢true e)
not_is {b = false} e = refl

-- two tests are equal if each gives the other
pub same_test : (a b : Bool) → (a ≡ true → b ≡ true) → (b ≡ true → a ≡ true) → a ≡ b
same_test true b f g = sym (f refl)
same_test false true f g = g refl
same_test false false f g = refl

-- ---- Options

-- the first of two that is there
abbrev pub or_else : {A : Type 0} → Option A → Option A → Option A
or_else none b = b
or_else (some a) b = some a

-- is there a value
abbrev pub is_some : {A : Type 0} → Option A → Bool
is_some none = false
is_some (some a) = true

-- some is not none, and holds one value
abbrev IsSome : {A : Type 0} → Option A → Type 0
IsSome none = ⊥
IsSome (some a) = Unit {0}

-- a value is not nothing
pub some≢none : {A : Type 0} {C : Type 0} {o : Option A} {a : A} → o ≡ some a → o ≡ none → C
some≢none p q = absurd (subst IsSome (sym p ∙ q) tt)

-- the value, with a default
abbrev from_some : {A : Type 0} → A → Option A → A
from_some d none = d
from_some d (some a) = a

-- an option holds one value
pub some_inj : {A : Type 0} {a b : A} → ◌≡◌ {A = Option A} (some a) (some b) → a ≡ b
some_inj {a = a} e = ap (from_some a) e

-- an option's two cases
pub data CaseO {A : Type 0} (o : Option A) : Type 0 where
  is-some : (a : A) → o ≡ some a → CaseO o
  is-none : o ≡ none → CaseO o

-- every option is in one of the cases
pub case_o : {A : Type 0} (o : Option A) → CaseO o
case_o none = is-none refl
case_o (some a) = is-some a refl

-- nothing behind an option changes it
pub or_else-none : {A : Type 0} (o : Option A) → or_else o none ≡ o
or_else-none none = refl
or_else-none (some a) = refl

-- nothing, whichever way a test goes
pub none_of : {A : Type 0} (b : Bool) (o : Option A) → o ≡ none → cond b none o ≡ none
none_of true o e = refl
none_of false o e = e

-- two that are nothing make nothing
pub or-none : {A : Type 0} (a c : Option A) → a ≡ none → c ≡ none → or_else a c ≡ none
or-none a c e d = ap (λ o. or_else o c) e ∙ d

-- an option that holds nothing after a reading held nothing before, and or_else is read place by place
pub map-none : {A B : Type 0} (f : A → B) (o : Option A) → map_option f o ≡ none → o ≡ none
map-none f none e = refl
map-none f (some a) e = some≢none refl e

-- a reading of the first of two is the first of two readings
pub map-or : {A B : Type 0} (f : A → B) (a b : Option A) → map_option f (or_else a b) ≡ or_else (map_option f a) (map_option f b)
map-or f none b = refl
map-or f (some t) b = refl

-- two options that hold the same values are equal
pub same_some : {A : Type 0} (o q : Option A) → ((a : A) → o ≡ some a → q ≡ some a) → ((a : A) → q ≡ some a → o ≡ some a) → o ≡ q
same_some none none f g = refl
same_some none (some a) f g = g a refl
same_some (some a) q f g = sym (f a refl)

-- ---- A table of refusals

-- every test of a table is false
abbrev pub AllFalse : List (Bool × Refusal) → Type 0
AllFalse [] = Unit {0}
AllFalse (t ∷ l) = (t.0 ≡ false) × AllFalse l

-- where the table refuses nothing, each of its tests is false
pub passed : (l : List (Bool × Refusal)) → first_of l ≡ Ok tt → AllFalse l
passed [] e = tt
passed ((true, k) ∷ l) e = absurd cc
passed ((false, k) ∷ l) e = (refl, passed l e)

-- and where each of its tests is false, it refuses nothing
pub first-none : (l : List (Bool × Refusal)) → AllFalse l → first_of l ≡ Ok tt
first-none [] a = refl
first-none (t ∷ l) a = ap (λ (b : Bool). cond b (Err t.1) (first_of l)) a.0 ∙ first-none l a.1

-- one table behind another: where both refuse nothing, the first does not
pub first-append : (a b : List (Bool × Refusal)) → first_of (a ++ b) ≡ Ok tt → first_of a ≡ Ok tt
first-append [] b e = refl
first-append ((true, k) ∷ a) b e = e
first-append ((false, k) ∷ a) b e = first-append a b e

-- the row refuses so
abbrev pub is_row : Refusal → Bool × Refusal → Bool
is_row refusal row = eqb (refusal_number row.1) (refusal_number refusal)

-- the refusal comes from the second table if no row of the first refuses so
pub number_behind : (refusal : Refusal) (a b : List (Bool × Refusal)) → all (λ row. not (is_row refusal row)) a ≡ true
    → first_of (a ++ b) ≡ Err refusal → (first_of a ≡ Ok tt) × (first_of b ≡ Err refusal)
number_behind refusal [] b s e = (refl, e)
number_behind refusal ((true, k) ∷ a) b s e =
    let same : k ≡ refusal = cc in
    let other = both (not (is_row refusal (true, k))) (all (λ row. not (is_row refusal row)) a) s in
    clash (eqb_yes (ap refusal_number same)) (not_is other.0)
number_behind refusal ((false, k) ∷ a) b s e =
    number_behind refusal a b (both (not (is_row refusal (false, k))) (all (λ row. not (is_row refusal row)) a) s).1 e

-- a table in which no row of a refusal holds does not refuse so
pub never_answers : (refusal : Refusal) (rows : List (Bool × Refusal)) → all (λ row. not (is_row refusal row && row.0)) rows ≡ true
    → first_of rows ≡ Err refusal → ⊥
never_answers refusal [] h e = absurd cc
never_answers refusal ((true, k) ∷ rows) h e =
    let same : k ≡ refusal = cc in
    let other = both (not (is_row refusal (true, k) && true)) (all (λ row. not (is_row refusal row && row.0)) rows) h in
    clash (and_intro (eqb_yes (ap refusal_number same)) refl) (not_is other.0)
never_answers refusal ((false, k) ∷ rows) h e =
    never_answers refusal rows (both (not (is_row refusal (false, k) && false)) (all (λ row. not (is_row refusal row && row.0)) rows) h).1 e

-- ---- any, all and keep, by the elements

-- an element of a list all of which pass
pub all-at : {A : Type 0} (f : A → Bool) (l : List A) → all f l ≡ true → (x : A) → Memᴰ x l → f x ≡ true
all-at {A = A} f [] e x x4 = elim x4 [ ]
all-at f (y ∷ l) e x (Memᴰ.head p) = ap f p ∙ (both (f y) (all f l) e).0
all-at f (y ∷ l) e x (Memᴰ.tail m) = all-at f l (both (f y) (all f l) e).1 x m

-- all pass if each element does
pub all_of : {A : Type 0} (f : A → Bool) (l : List A) → ((x : A) → Memᴰ x l → f x ≡ true) → all f l ≡ true
all_of f [] h = refl
all_of f (y ∷ l) h = and_intro (h y (Memᴰ.head refl)) (all_of f l (λ x m. h x (Memᴰ.tail m)))

-- all of two lists one behind the other
pub all_append : {A : Type 0} (f : A → Bool) (a b : List A) → all f (a ++ b) ≡ all f a && all f b
all_append f [] b = refl
all_append f (x ∷ a) b = ap (λ (c : Bool). f x && c) (all_append f a b) ∙ sym (and_assoc (f x) (all f a) (all f b))

-- where some element passes, there is one
pub any_at : {A : Type 0} (f : A → Bool) (l : List A) → any f l ≡ true → (x : A) × Memᴰ x l × (f x ≡ true)
any_at f [] e = absurd (false≢true e)
any_at {A} f (y ∷ l) e = go (f y) refl (any_at f l)
  where
    go : (b : Bool) → f y ≡ b → (any f l ≡ true → (x : A) × Memᴰ x l × (f x ≡ true)) → (x : A) × Memᴰ x (y ∷ l) × (f x ≡ true)
    go true p h = (y, Memᴰ.head refl, p)
    go false p h =
        let r : (x : A) × Memᴰ x l × (f x ≡ true) = h (subst (λ (b : Bool). b || any f l ≡ true) p e) in
        (r.0, Memᴰ.tail r.1, r.2)

-- an element that passes
pub any_of : {A : Type 0} (f : A → Bool) {x : A} {l : List A} → Memᴰ x l → f x ≡ true → any f l ≡ true
any_of {A = A} f {l = []} x6 e = elim x6 [ ]
any_of f {l = y ∷ l} (Memᴰ.head p) e = subst (λ (b : Bool). b || any f l ≡ true) (sym e ∙ ap f p) refl
any_of f {l = y ∷ l} (Memᴰ.tail m) e = go (f y) (any_of f m e)
  where
    go : (b : Bool) → any f l ≡ true → b || any f l ≡ true
    go true q = refl
    go false q = q

-- an element of a list that has none such
pub any_none : {A : Type 0} (f : A → Bool) {l : List A} {x : A} → any f l ≡ false → Memᴰ x l → f x ≡ false
any_none f e m = not_yes (λ y. clash (any_of f m y) e)

-- none passes if no element does
pub any-no : {A : Type 0} (f : A → Bool) (l : List A) → ((x : A) → Memᴰ x l → f x ≡ true → ⊥) → any f l ≡ false
any-no f l h = not_yes (λ e. let r = any_at f l e in h r.0 r.1 r.2)

-- an element that passes is kept
pub keep_in : {A : Type 0} (f : A → Bool) (l : List A) {x : A} → Memᴰ x l → f x ≡ true → Memᴰ x (keep f l)
keep_in {A = A} f [] {x = x} x4 e = elim x4 [ ]
keep_in f (y ∷ l) {x} (Memᴰ.head p) e = subst (λ (b : Bool). Memᴰ x (cond b (y ∷ keep f l) (keep f l))) (sym e ∙ ap f p) (Memᴰ.head p)
keep_in f (y ∷ l) {x} (Memᴰ.tail m) e = go (f y) (keep_in f l m e)
  where
    go : (b : Bool) → Memᴰ x (keep f l) → Memᴰ x (cond b (y ∷ keep f l) (keep f l))
    go true q = Memᴰ.tail q
    go false q = q

-- what is kept is an element that passes
pub keep_out : {A : Type 0} (f : A → Bool) (l : List A) {x : A} → Memᴰ x (keep f l) → Memᴰ x l × (f x ≡ true)
keep_out f [] m = elim m [ ]
keep_out f (y ∷ l) {x} m = go (f y) refl m (keep_out f l)
  where
    go : (b : Bool) → f y ≡ b → Memᴰ x (cond b (y ∷ keep f l) (keep f l))
        → (Memᴰ x (keep f l) → Memᴰ x l × (f x ≡ true)) → Memᴰ x (y ∷ l) × (f x ≡ true)
    go true p (Memᴰ.head q) h = (Memᴰ.head q, ap f q ∙ p)
    go true p (Memᴰ.tail q) h = (Memᴰ.tail (h q).0, (h q).1)
    go false p q h = (Memᴰ.tail (h q).0, (h q).1)

-- all are kept where all pass
pub keep_all : {A : Type 0} (f : A → Bool) (l : List A) → all f l ≡ true → keep f l ≡ l
keep_all f [] e = refl
keep_all {A} f (x ∷ l) e =
    let r = both (f x) (all f l) e in
    ap (λ (b : Bool). cond b (x ∷ keep f l) (keep f l)) r.0 ∙ ap (λ (k : List A). x ∷ k) (keep_all f l r.1)

-- what is kept is no longer than the list
pub keep-length : {A : Type 0} (f : A → Bool) (l : List A) → length (keep f l) ≤ length l
keep-length f [] = omega arith
keep-length f (x ∷ l) = go (f x) (keep-length f l)
  where
    go : (b : Bool) → length (keep f l) ≤ length l → length (cond b (x ∷ keep f l) (keep f l)) ≤ suc (length l)
    go true h = omega arith
    go false h = omega arith

-- and as long only where all pass
pub all-kept : {A : Type 0} (f : A → Bool) (l : List A) → eqb (length (keep f l)) (length l) ≡ all f l
all-kept f [] = refl
all-kept f (a ∷ l) = go (f a) (all-kept f l)
  where
    go : (b : Bool) → eqb (length (keep f l)) (length l) ≡ all f l
        → eqb (length (cond b (a ∷ keep f l) (keep f l))) (suc (length l)) ≡ b && all f l
    go true h = eqb-suc-suc (length (keep f l)) (length l) ∙ h
    go false h = ne_eqb (length (keep f l)) (suc (length l)) (λ e. omega (arith, keep-length f l))

-- some element that passes is among those kept by another test
pub any-keep : {A : Type 0} (g h : A → Bool) (l : List A) → any g (keep h l) ≡ any (λ x. h x && g x) l
any-keep g h [] = refl
any-keep g h (x ∷ l) = go (h x) (any-keep g h l)
  where
    go : (c : Bool) → any g (keep h l) ≡ any (λ x. h x && g x) l → any g (cond c (x ∷ keep h l) (keep h l)) ≡ (c && g x) || any (λ x. h x && g x) l
    go true e = ap (λ (t : Bool). g x || t) e
    go false e = e

-- ---- Places

-- the found place holds an element that passes
pub find_at : {A : Type 0} (f : A → Bool) (l : List A) (d : A) → any f l ≡ true → Memᴰ (get_or l (find f l) d) l × (f (get_or l (find f l) d) ≡ true)
find_at f [] d e = absurd (false≢true e)
find_at f (y ∷ l) d e = go (f y) refl e (find_at f l d)
  where
    go : (b : Bool) → f y ≡ b → b || any f l ≡ true → (any f l ≡ true → Memᴰ (get_or l (find f l) d) l × (f (get_or l (find f l) d) ≡ true))
        → Memᴰ (get_or (y ∷ l) (cond b 0 (suc (find f l))) d) (y ∷ l) × (f (get_or (y ∷ l) (cond b 0 (suc (find f l))) d) ≡ true)
    go true p q h = (Memᴰ.head refl, p)
    go false p q h = (Memᴰ.tail (h q).0, (h q).1)

-- what holds of the element set at p, and of each other place, holds of each place
pub set-elim : {A : Type 0} (Q : ℕ → A → Type 0) (l : List A) (d : A) (p : ℕ) (a : A) → p < length l → Q p a → ((q : ℕ) → (q ≡ p → ⊥) → Q q (get_or l q d))
    → (q : ℕ) → Q q (get_or (set l p a) q d)
set-elim Q l d p a h y n q = go (case (eqb q p))
  where
    go : Case (eqb q p) → Q q (get_or (set l p a) q d)
    go (yes-case e) =
        let z : q ≡ p = eqb-eq q p e in
        subst (λ (i : ℕ). Q i (get_or (set l p a) i d)) (sym z) (subst (Q p) (sym (get_or-set_same l p a d h)) y)
    go (no-case e) = subst (Q q) (sym (get_or-set_other l p q a d (eqb_apart e))) (n q (eqb_apart e))

-- a list of one repeated element has it at each place
pub get_or-same : {A : Type 0} (n : ℕ) (a : A) (i : ℕ) → get_or (replicate n a) i a ≡ a
get_or-same zero a i = refl
get_or-same (suc n) a zero = refl
get_or-same (suc n) a (suc i) = get_or-same n a i

-- an element of a list stands at a place of it, and what stands at a place is an element
pub place_of_mem : {A : Type 0} (d : A) {a : A} {l : List A} → Memᴰ a l → (p : ℕ) × (p < length l) × (get_or l p d ≡ a)
place_of_mem {A = A} d {a = a} {l = []} x'' = elim x'' [ ]
place_of_mem d {l = y ∷ l} (Memᴰ.head e) = (0, omega arith, sym e)
place_of_mem d {l = y ∷ l} (Memᴰ.tail m) = let r = place_of_mem d m in let h : r.0 < length l = r.1 in (suc r.0, omega arith, r.2)

-- what stands at a place of a list is an element
pub get_or-mem : {A : Type 0} (l : List A) (p : ℕ) (d : A) → p < length l → Memᴰ (get_or l p d) l
get_or-mem [] p d h = absurd (omega arith)
get_or-mem (y ∷ l) zero d h = Memᴰ.head refl
get_or-mem (y ∷ l) (suc p) d h = Memᴰ.tail (get_or-mem l p d (omega arith))
