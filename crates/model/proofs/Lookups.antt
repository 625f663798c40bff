-- Lookups by a test: what they give after each change of the list, and lists in which no two elements are alike.
use mathlib.Core.Path.{◌≡◌, refl, ap, sym, ◌∙◌}
use mathlib.Core.Bool.{Bool, true, false, cond, ◌||◌, not}
use mathlib.Core.Option.{Option, none, some}
use mathlib.Core.List.{List, [], ◌∷◌, ◌++◌, map, Memᴰ}
use Rattle.transaction.specs.Lists.{any, repeats}
use Rattle.model.specs.Lists.{keep, lookup, map_option}
use Rattle.model.proofs.Basics.{
  not_yes,
  clash,
  Case,
  yes-case,
  no-case,
  case,
  or_else,
  some≢none,
  some_inj,
  CaseO,
  is-some,
  is-none,
  case_o,
  or-none,
  any_of,
}

module _ {A : Type 0} where
  -- what is found passes, and is an element
  pub lookup-passes : (f : A → Bool) (l : List A) {x : A} → lookup f l ≡ some x → f x ≡ true
  lookup-passes f [] e = some≢none e refl
  lookup-passes f (y ∷ l) {x} e = go (f y) refl e (lookup-passes f l)
    where
      go : (b : Bool) → f y ≡ b → cond b (some y) (lookup f l) ≡ some x → (lookup f l ≡ some x → f x ≡ true) → f x ≡ true
      go true p q h = ap f (sym (some_inj q)) ∙ p
      go false p q h = h q

  -- what is found is an element
  pub lookup-mem : (f : A → Bool) (l : List A) {x : A} → lookup f l ≡ some x → Memᴰ x l
  lookup-mem f [] e = some≢none e refl
  lookup-mem f (y ∷ l) {x} e = go (f y) e (lookup-mem f l)
    where
      go : (b : Bool) → cond b (some y) (lookup f l) ≡ some x → (lookup f l ≡ some x → Memᴰ x l) → Memᴰ x (y ∷ l)
      go true q h = Memᴰ.head (sym (some_inj q))
      go false q h = Memᴰ.tail (h q)

  -- nothing is found where no element passes
  pub lookup-no : (f : A → Bool) (l : List A) → any f l ≡ false → lookup f l ≡ none
  lookup-no f l e = go (case_o (lookup f l))
    where
      go : CaseO (lookup f l) → lookup f l ≡ none
      go (is-none z) = z
      go (is-some x z) = clash (any_of f (lookup-mem f l z) (lookup-passes f l z)) e

  -- no element passes where nothing is found
  pub lookup-none : (f : A → Bool) (l : List A) → lookup f l ≡ none → any f l ≡ false
  lookup-none f [] e = refl
  lookup-none f (y ∷ l) e = go (f y) e (lookup-none f l)
    where
      go : (b : Bool) → cond b (some y) (lookup f l) ≡ none → (lookup f l ≡ none → any f l ≡ false) → b || any f l ≡ false
      go true q h = some≢none refl q
      go false q h = h q

  -- a lookup in two lists
  pub lookup-append : (f : A → Bool) (a b : List A) → lookup f (a ++ b) ≡ or_else (lookup f a) (lookup f b)
  lookup-append f [] b = refl
  lookup-append f (y ∷ a) b = go (f y) (lookup-append f a b)
    where
      go : (c : Bool) → lookup f (a ++ b) ≡ or_else (lookup f a) (lookup f b) → cond c (some y) (lookup f (a ++ b))
          ≡ or_else (cond c (some y) (lookup f a)) (lookup f b)
      go true h = refl
      go false h = h

  -- a change that no test of the lookup sees
  pub lookup-map : (f f' : A → Bool) (g : A → A) → ((x : A) → f' (g x) ≡ f x) → (l : List A) → lookup f' (map g l) ≡ map_option g (lookup f l)
  lookup-map f f' g h [] = refl
  lookup-map f f' g h (y ∷ l) = ap (λ (c : Bool). cond c (some (g y)) (lookup f' (map g l))) (h y) ∙ go (f y) (lookup-map f f' g h l)
    where
      go : (c : Bool) → lookup f' (map g l) ≡ map_option g (lookup f l) → cond c (some (g y)) (lookup f' (map g l))
          ≡ map_option g (cond c (some y) (lookup f l))
      go true q = refl
      go false q = q

  -- the elements kept, where all that the lookup can find are kept or none
  pub lookup-keep : (f g : A → Bool) (gone : Bool) → ((x : A) → f x ≡ true → g x ≡ not gone) → (l : List A) → lookup f (keep g l) ≡ cond gone none (lookup f l)
  lookup-keep f g gone h [] = go gone
    where
      go : (b : Bool) → ◌≡◌ {A = Option A} none (cond b none none)
      go true = refl
      go false = refl
  lookup-keep f g gone h (y ∷ l) = go (case (f y)) (g y) refl (lookup-keep f g gone h l)
    where
      hit : (b : Bool) → gone ≡ b → f y ≡ true → lookup f (keep g l) ≡ cond b none (lookup f l)
          → lookup f (cond (not b) (y ∷ keep g l) (keep g l)) ≡ cond b none (some y)
      hit true z e q = q
      hit false z e q = ap (λ (c : Bool). cond c (some y) (lookup f (keep g l))) e

      go : Case (f y) → (b : Bool) → g y ≡ b → lookup f (keep g l) ≡ cond gone none (lookup f l)
          → lookup f (cond b (y ∷ keep g l) (keep g l)) ≡ cond gone none (cond (f y) (some y) (lookup f l))
      go (yes-case e) b p q =
          ap (λ (c : Bool). lookup f (cond c (y ∷ keep g l) (keep g l))) (sym p ∙ h y e)
          ∙ hit gone refl e q ∙ sym (ap (λ (c : Bool). cond gone none (cond c (some y) (lookup f l))) e)
      go (no-case e) true p q = ap (λ (c : Bool). cond c (some y) (lookup f (keep g l))) e ∙ q
          ∙ sym (ap (λ (c : Bool). cond gone none (cond c (some y) (lookup f l))) e)
      go (no-case e) false p q = q ∙ sym (ap (λ (c : Bool). cond gone none (cond c (some y) (lookup f l))) e)

  -- Lists in which no element is like a later one.
  abbrev pub Alone : (A → A → Bool) → List A → Type 0
  Alone like [] = Unit {0}
  Alone like (x ∷ l) = (lookup (like x) l ≡ none) × Alone like l

  -- the test of the table finds no pair
  pub alone-repeats : (like : A → A → Bool) (l : List A) → Alone like l → repeats like l ≡ false
  alone-repeats like [] s = refl
  alone-repeats like (x ∷ l) s = λ i. lookup-none (like x) l s.0 i || alone-repeats like l s.1 i

  -- two such lists whose elements are not alike
  pub alone-append : (like : A → A → Bool) (a b : List A) → Alone like a → Alone like b
      → ((x : A) → Memᴰ x a → lookup (like x) b ≡ none) → Alone like (a ++ b)
  alone-append like [] b sa sb h = sb
  alone-append like (x ∷ a) b sa sb h = (
    lookup-append (like x) a b ∙ or-none (lookup (like x) a) (lookup (like x) b) sa.0 (h x (Memᴰ.head refl)),
    alone-append like a b sa.1 sb (λ y m. h y (Memᴰ.tail m)),
  )

  -- a change that keeps what is alike
  pub alone-map : (like : A → A → Bool) (g : A → A) → ((x y : A) → like (g x) (g y) ≡ like x y) → (l : List A) → Alone like l → Alone like (map g l)
  alone-map like g h [] s = tt
  alone-map like g h (x ∷ l) s = (lookup-map (like x) (like (g x)) g (h x) l ∙ ap (map_option g) s.0, alone-map like g h l s.1)

  -- what is not found in a list is not found among those kept
  keep-none : (f g : A → Bool) (l : List A) → lookup f l ≡ none → lookup f (keep g l) ≡ none
  keep-none f g [] e = refl
  keep-none f g (y ∷ l) e = go (f y) (g y) refl e (keep-none f g l)
    where
      go : (b c : Bool) → f y ≡ b → cond b (some y) (lookup f l) ≡ none
          → (lookup f l ≡ none → lookup f (keep g l) ≡ none) → lookup f (cond c (y ∷ keep g l) (keep g l)) ≡ none
      go true c p q h = some≢none refl q
      go false true p q h = ap (λ (b : Bool). cond b (some y) (lookup f (keep g l))) p ∙ h q
      go false false p q h = h q

  -- the elements kept
  pub alone-keep : (like : A → A → Bool) (g : A → Bool) (l : List A) → Alone like l → Alone like (keep g l)
  alone-keep like g [] s = tt
  alone-keep like g (x ∷ l) s = go (g x) (alone-keep like g l s.1)
    where
      go : (b : Bool) → Alone like (keep g l) → Alone like (cond b (x ∷ keep g l) (keep g l))
      go true r = (keep-none (like x) g l s.0, r)
      go false r = r

  -- an element of such a list is the one that a lookup by it finds
  pub alone-lookup : (like : A → A → Bool) → ((x : A) → like x x ≡ true) → ((x y : A) → like x y ≡ true → like y x ≡ true)
      → (l : List A) → Alone like l → {x : A} → Memᴰ x l → lookup (like x) l ≡ some x
  alone-lookup like self turn [] s {x = x} x4 = elim x4 [ ]
  alone-lookup like self turn (y ∷ l) s {x} (Memᴰ.head e) =
      ap (λ (z : A). lookup (like z) (y ∷ l)) e ∙ ap (λ (c : Bool). cond c (some y) (lookup (like y) l)) (self y) ∙ ap some (sym e)
  alone-lookup like self turn (y ∷ l) s {x} (Memᴰ.tail m) =
      ap (λ (c : Bool). cond c (some y) (lookup (like x) l)) (not_yes (λ e. clash (any_of (like y) m (turn x y e)) (lookup-none (like y) l s.0)))
      ∙ alone-lookup like self turn l s.1 m
