-- The parts of the local step, input by input: what is found, and the inputs that were found available. Then the same slot by slot.
use Rattle.std.proofs.Common.{
  ℕ,
  zero,
  suc,
  ◌≡◌,
  ◌+◌,
  ◌≤◌,
  ◌<◌,
  Bool,
  true,
  false,
  cond,
  ◌&&◌,
  ltb,
  List,
  [],
  ◌∷◌,
  ◌++◌,
  map,
  length,
  take,
  set,
  get_or,
  refl,
  sym,
  ap,
  ◌∙◌,
  add-one,
  arith,
  rules,
}
use native.Mathlib.Nat.{not-suc-le-zero, le_of_suc-le-suc}
use borrow.Author.Tests.{lt-ltb, le-ltb, ltb-true, ltb-false}
use Rattle.std.proofs.lemmas.List.{map_more, length-map, take_all, length-take-le}
use Rattle.transaction.specs.declared.Input.{Input}
use Rattle.transaction.specs.declared.Transaction.{Transaction}
use Rattle.transaction.specs.Tokens.{zero_input}
use Rattle.model.specs.declared.Token.{Token}
use Rattle.model.specs.declared.Finding.{Finding}
use Rattle.model.specs.declared.Finding.TheVariants.{Available}
use Rattle.model.specs.Lists.{keep}
use Rattle.model.specs.Answers.{is_available}
use Rattle.model.specs.Steps.{inputs_here, available, available_here, finding, findings, found_at, keeping}
use Rattle.model.proofs.Reported.{finding-available}
use Rattle.loops.specs.Lists.{one_if}
use Rattle.layout.specs.Layout.{no_finding}

-- one finding more is kept
keeping-push : (l : List Finding) (f : Finding) → length l < 4
    → set (keeping l) (length l) f ≡ keeping (l ++ (f ∷ []))
unfolding keeping
keeping-push [] f h = refl
keeping-push (a ∷ []) f h = refl
keeping-push (a ∷ b ∷ []) f h = refl
keeping-push (a ∷ b ∷ c ∷ []) f h = refl
keeping-push (a ∷ b ∷ c ∷ e ∷ l) f h = absurd (omega arith)

-- what is found about the first i inputs, and about one more
pub find-next : (tokens : List Token) (here : List Input) (i : ℕ) (d : Input) → i < length here → length here ≤ 4
    → {found : List Finding} {x : Finding} → found ≡ keeping (map (finding tokens) (take i here)) → x ≡ finding tokens (get_or here i d)
    → set found i x ≡ keeping (map (finding tokens) (take (i + 1) here))
find-next tokens here i d h few {found} {x} e ex =
    let l = map (finding tokens) (take i here) in
    let long : length l ≡ i = length-map (take i here) (finding tokens) ∙ length-take-le i here (omega arith) in
    let f = finding tokens (get_or here i d) in
    rw (e, ex, map_more (finding tokens) here i d h)
    (ap (λ (k : ℕ). set (keeping l) k f) (sym long) ∙ keeping-push l f (omega (arith, long)))

-- about all of them
pub find_end : (me : ℕ) (tokens : List Token) (t : Transaction) (here : List Input) (i : ℕ) → length here ≤ i → here ≡ inputs_here me t
    → {found : List Finding} → found ≡ keeping (map (finding tokens) (take i here)) → found ≡ keeping (findings me tokens t)
unfolding findings
find_end me tokens t here i h e {found} is =
    is ∙ ap (λ (l : List Input). keeping (map (finding tokens) l)) (take_all i here h ∙ e)

-- the inputs that were found available
abbrev pub picked : List Input → List Finding → List Input
picked [] found = []
picked (x ∷ here) [] = []
picked (x ∷ here) (f ∷ found) = cond (is_available f) (x ∷ picked here found) (picked here found)

-- one input more
picked-more : (here : List Input) (found : List Finding) (i : ℕ) (d : Input) (e : Finding) → i < length here → i < length found
    → picked (take (i + 1) here) found ≡ picked (take i here) found ++ one_if (is_available (get_or found i e)) (get_or here i d)
picked-more here found i d e h k = ap (λ (n : ℕ). picked (take n here) found) (add-one i) ∙ go here found i h k
  where
    go : (here : List Input) (found : List Finding) (i : ℕ) → i < length here → i < length found
        → picked (take (suc i) here) found ≡ picked (take i here) found ++ one_if (is_available (get_or found i e)) (get_or here i d)
    go [] found i h k = absurd (omega arith)
    go (x ∷ here) [] i h k = absurd (omega arith)
    go (x ∷ here) (f ∷ found) zero h k = refl
    go (x ∷ here) (f ∷ found) (suc i) h k = onto (is_available f) _ _ _ (go here found i (omega arith) (omega arith))
      where
        onto : (b : Bool) (l m n : List Input) → l ≡ m ++ n → cond b (x ∷ l) l ≡ cond b (x ∷ m) m ++ n
        onto true l m n r = ap (λ (q : List Input). x ∷ q) r
        onto false l m n r = r

module _ (here : List Input) (found : List Finding) (i : ℕ) (d : Input) (e : Finding) (h : i < length here) (k : i < length found) where
  pub pick-in : is_available (get_or found i e) ≡ true
      → picked (take i here) found ++ (get_or here i d ∷ []) ≡ picked (take (i + 1) here) found
  pick-in a = sym (picked-more here found i d e h k ∙ rw a refl)

  pub pick-out : is_available (get_or found i e) ≡ false → picked (take i here) found ≡ picked (take (i + 1) here) found
  pick-out a = sym (picked-more here found i d e h k ∙ rw a (search rules))

pub picked-few : (here : List Input) (found : List Finding) → length (picked here found) ≤ length here
picked-few [] found = omega arith
picked-few (x ∷ here) [] = omega arith
picked-few (x ∷ here) (f ∷ found) = go (is_available f) (picked-few here found)
  where
    go : (b : Bool) → length (picked here found) ≤ length here → length (cond b (x ∷ picked here found) (picked here found)) ≤ suc (length here)
    go true r = omega arith
    go false r = omega arith

-- all of them, at most four
picked-all : (tokens : List Token) (here : List Input) → length here ≤ 4 → picked here (keeping (map (finding tokens) here)) ≡ keep (available tokens) here
unfolding keeping
picked-all tokens [] h = refl
picked-all tokens (a ∷ []) h = rw (finding-available tokens a) refl
picked-all tokens (a ∷ b ∷ []) h = rw (finding-available tokens a, finding-available tokens b) refl
picked-all tokens (a ∷ b ∷ c ∷ []) h = rw (finding-available tokens a, finding-available tokens b, finding-available tokens c) refl
picked-all tokens (a ∷ b ∷ c ∷ e ∷ []) h =
    rw (finding-available tokens a, finding-available tokens b, finding-available tokens c, finding-available tokens e) refl
picked-all tokens (a ∷ b ∷ c ∷ e ∷ f ∷ l) h = absurd (omega arith)

pub pick_end : (me : ℕ) (tokens : List Token) (t : Transaction) (here : List Input) (found : List Finding) (i : ℕ) → length here ≤ i
    → length here ≤ 4 → here ≡ inputs_here me t → found ≡ keeping (findings me tokens t) → {some : List Input}
    → some ≡ picked (take i here) found → some ≡ available_here me tokens t
unfolding findings available_here
pick_end me tokens t here found i h few e f is =
    is ∙ rw (take_all i here h, f, ← e) (picked-all tokens here few)

-- ---- Slot by slot

ltb-suc : (i n : ℕ) → ltb (suc i) (suc n) ≡ ltb i n
ltb-suc i n = go (ltb i n) refl
  where
    go : (b : Bool) → ltb i n ≡ b → ltb (suc i) (suc n) ≡ b
    go true e = lt-ltb (suc i) (suc n) (omega (arith, ltb-true i n e))
    go false e = le-ltb (suc i) (suc n) (omega (arith, ltb-false i n e))

-- what a function makes of a used slot
used-at : {A B : Type 0} (f : A → B) (x : List A) (n i : ℕ) (d : A) (e : B) → i < length x
    → get_or (map f (take n x)) i e ≡ cond (ltb i n) (f (get_or x i d)) e
used-at f [] n i d e h = absurd (not-suc-le-zero h)
used-at f (a ∷ x) zero i d e h = rw (le-ltb i 0 (omega arith)) refl
used-at f (a ∷ x) (suc n) zero d e h = rw (lt-ltb 0 (suc n) (omega arith)) refl
used-at f (a ∷ x) (suc n) (suc i) d e h = rw (ltb-suc i n) (used-at f x n i d e (le_of_suc-le-suc h))

-- four slots, of which the first are the inputs here, as many as the count says
module _ (slots : List Input) (long : length slots ≡ 4) (count me : ℕ) (tokens : List Token) (t : Transaction)
    (are : take count slots ≡ inputs_here me t) where
  -- the input in a slot, and whether the slot is used
  abbrev slot : ℕ → Input
  slot i = get_or slots i zero_input

  abbrev used : ℕ → Bool
  used i = ltb i count

  -- the finding about the input in a slot
  finding-at : (i : ℕ) → i < 4 → get_or (findings me tokens t) i Available ≡ cond (used i) (finding tokens (slot i)) Available
  unfolding findings
  finding-at i l =
      ap (λ (inputs : List Input). get_or (map (finding tokens) inputs) i Available) (sym are)
      ∙ used-at (finding tokens) slots count i zero_input Available (omega (arith, long))

  -- as it is kept
  kept_at : (i : ℕ) → i < 4 → {q : Finding} → q ≡ cond (used i) (finding tokens (slot i)) Available → q ≡ found_at (findings me tokens t) i
  kept_at i l e = e ∙ sym (finding-at i l)

  -- a used slot's finding tells whether its input is available
  slot_tells : (i : ℕ) → i < 4 → used i && is_available (get_or (findings me tokens t) i Available) ≡ used i && available tokens (slot i)
  slot_tells i l = ap (λ (f : Finding). used i && is_available f) (finding-at i l) ∙ go (used i)
    where
      go : (b : Bool) → b && is_available (cond b (finding tokens (slot i)) Available) ≡ b && available tokens (slot i)
      go true = finding-available tokens (slot i)
      go false = refl

  module _ (found : List Finding) (is : found ≡ keeping (findings me tokens t)) where
    -- an input was found available, and its slot is used
    abbrev wanted : ℕ → Bool
    wanted i = used i && is_available (get_or found i no_finding)

    -- so the available ones are added
    adds : (i : ℕ) → i < 4 → get_or (keeping (findings me tokens t)) i no_finding ≡ get_or (findings me tokens t) i Available
        → (inputs : List Input) {more : List Input} → more ≡ inputs ++ one_if (wanted i) (slot i)
        → more ≡ inputs ++ one_if (used i && available tokens (slot i)) (slot i)
    adds i l e inputs z =
        z ∙ ap (λ (b : Bool). inputs ++ one_if b (slot i))
        (ap (λ (k : List Finding). used i && is_available (get_or k i no_finding)) is
        ∙ ap (λ (f : Finding). used i && is_available f) e ∙ slot_tells i l)
