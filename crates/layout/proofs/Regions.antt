-- Words in regions: tables, a change within a stretch of words, and one law for all regions of what a change leaves.
use Prim.Native.Nat.{ℕ, zero, suc, ◌+◌, ◌*◌, ◌≤◌, ◌<◌}
use mathlib.Core.Path.{◌≡◌, refl, sym, ap, ◌∙◌}
use mathlib.Core.Logic.{◌⊎◌, inl, inr, ⊎_elim}
use mathlib.Core.List.{List, [], ◌∷◌}
use native.Mathlib.Omega.{arith}
use native.Mathlib.Nat.{le_of_suc-le-suc, not-suc-le-zero, suc-mul, mul-le-mul_right}
use Rattle.std.proofs.lemmas.List.{get_or-replicate}
use lib.ListN.{length, get_or, set, replicate, length-set, length-replicate}
use lib.Seq.{get_or-set_same, get_or-set_other, ext_get_or}
use Rattle.layout.specs.Layout.{tab, array_in, Within, Same, Local}
use Rattle.layout.specs.Reads.{tab-at}

-- ---- Tables

pub length-tab : {A : Type 0} (n : ℕ) (f : ℕ → A) → length (tab n f) ≡ n
length-tab zero f = refl
length-tab (suc n) f = ap suc (length-tab n (λ (i : ℕ). f (suc i)))

pub tab-same : {A : Type 0} (n : ℕ) (f g : ℕ → A) → ((i : ℕ) → i < n → g i ≡ f i) → tab n g ≡ tab n f
tab-same zero f g h = refl
tab-same {A} (suc n) f g h =
    ap (λ (x : A). x ∷ tab n (λ (i : ℕ). g (suc i))) (h 0 (omega arith))
    ∙ ap (λ (l : List A). f 0 ∷ l)
    (tab-same n (λ (i : ℕ). f (suc i)) (λ (i : ℕ). g (suc i)) (λ i l. h (suc i) (omega arith)))

pub tab_change : {A : Type 0} (n k : ℕ) (f g : ℕ → A) → k < n → ((i : ℕ) → i < n → (i ≡ k → ⊥) → g i ≡ f i)
    → tab n g ≡ set (tab n f) k (g k)
tab_change zero k f g l h = absurd (not-suc-le-zero l)
tab_change {A} (suc n) zero f g l h =
    ap (λ (r : List A). g 0 ∷ r)
    (tab-same n (λ (i : ℕ). f (suc i)) (λ (i : ℕ). g (suc i)) (λ i m. h (suc i) (omega arith) (λ e. omega arith)))
tab_change {A} (suc n) (suc k) f g l h =
    ap (λ (x : A). x ∷ tab n (λ (i : ℕ). g (suc i))) (h 0 (omega arith) (λ e. omega arith))
    ∙ ap (λ (r : List A). f 0 ∷ r)
    (tab_change n k (λ (i : ℕ). f (suc i)) (λ (i : ℕ). g (suc i)) (le_of_suc-le-suc l)
    (λ i m ne. h (suc i) (omega arith) (λ e. ne (omega arith))))

-- ---- A change within a stretch of words, and what is read elsewhere

pub nothing_changed : (a e : ℕ) (ws : List ℕ) → Within a e ws ws
nothing_changed a e ws = record { long = refl; rest = λ j n. refl }

pub stored : (a e i x : ℕ) (ws : List ℕ) → a ≤ i → i < e → Within a e ws (set ws i x)
stored a e i x ws l h = record {
  long = length-set ws i x;
  rest = λ j n. get_or-set_other ws i j x 0 (λ q. n (omega arith) (omega arith));
}

pub and_then : {a e : ℕ} {ws vs us : List ℕ} → Within a e ws vs → Within a e vs us → Within a e ws us
and_then p q = record { long = q.long ∙ p.long; rest = λ j n. q.rest j n ∙ p.rest j n }

pub wider : (a e b f : ℕ) {ws vs : List ℕ} → b ≤ a → e ≤ f → Within a e ws vs → Within b f ws vs
wider a e b f l h p = record { long = p.long; rest = λ j n. p.rest j (λ x y. n (omega arith) (omega arith)) }

-- no word is in both stretches
abbrev pub Apart : ℕ → ℕ → ℕ → ℕ → Type 0
Apart a e b f = (j : ℕ) → b ≤ j → j < f → a ≤ j → j < e → ⊥

pub apart : {a e : ℕ} {ws vs : List ℕ} → Within a e ws vs → (b f : ℕ) → Apart a e b f → Same b f ws vs
apart p b f h j l m = p.rest j (h j l m)

-- ---- Regions: slots of one size, one behind the other

-- one slot ends where the next begins, or before
stride : (i k size : ℕ) → i < k → i * size + size ≤ k * size
stride i k size h = rw (← suc-mul i size) (mul-le-mul_right size h)

lower_or_higher : (i k : ℕ) → (i ≡ k → ⊥) → (i < k) ⊎ (k < i)
lower_or_higher zero zero n = absurd (n refl)
lower_or_higher zero (suc k) n = inl (omega arith)
lower_or_higher (suc i) zero n = inr (omega arith)
lower_or_higher (suc i) (suc k) n =
    ⊎_elim (λ h. inl (omega arith)) (λ h. inr (omega arith)) (lower_or_higher i k (λ e. n (ap suc e)))

module _ {A : Type 0} (read : List ℕ → ℕ → A) (size place slots : ℕ) (local : Local read size) where
  abbrev slot : ℕ → ℕ
  slot k = place + k * size

  abbrev region : List ℕ → List A
  region ws = tab slots (λ (k : ℕ). read ws (slot k))

  module _ {ws vs : List ℕ} where
    -- a change elsewhere
    pub region_kept : {a e : ℕ} → Within a e ws vs → Apart a e place (place + slots * size) → region vs ≡ region ws
    region_kept {a} {e} p h =
        tab-same slots (λ (k : ℕ). read ws (slot k)) (λ (k : ℕ). read vs (slot k))
        (λ k l. local ws vs (slot k) (λ j x y. let s = stride k slots size l in p.rest j (h j (omega arith) (omega arith))))

    -- a change of one slot
    pub region_set : (k : ℕ) → k < slots → Within (slot k) (slot k + size) ws vs
        → region vs ≡ set (region ws) k (read vs (slot k))
    region_set k h p =
        tab_change slots k (λ (i : ℕ). read ws (slot i)) (λ (i : ℕ). read vs (slot i)) h
        (λ i l ne. local ws vs (slot i) (λ j x y. p.rest j (λ z w. between i j (lower_or_higher i k ne) x y z w)))
      where
        between : (i j : ℕ) → (i < k) ⊎ (k < i) → slot i ≤ j → j < slot i + size → slot k ≤ j → j < slot k + size → ⊥
        between i j (inl l) x y z w = let s = stride i k size l in omega arith
        between i j (inr l) x y z w = let s = stride k i size l in omega arith

-- an element within a list is the same by any default
pub get_or_any : {A : Type 0} (l : List A) (i : ℕ) (d e : A) → i < length l → get_or l i d ≡ get_or l i e
get_or_any [] i d e h = absurd (omega arith)
get_or_any (x ∷ l) zero d e h = refl
get_or_any (x ∷ l) (suc i) d e h = get_or_any l i d e (omega arith)

lower_or_same : (j i : ℕ) → j ≤ i → (j < i) ⊎ (j ≡ i)
lower_or_same zero zero l = inr refl
lower_or_same zero (suc i) l = inl (omega arith)
lower_or_same (suc j) zero l = absurd (omega arith)
lower_or_same (suc j) (suc i) l =
    ⊎_elim (λ m. inl (omega arith)) (λ m. inr (ap suc m)) (lower_or_same j i (omega arith))

-- ---- Arrays: n of one kind, one behind the other

module _ {A : Type 0} (read : List ℕ → ℕ → A) (size : ℕ) (local : Local read size) where
  pub array_local : (n : ℕ) (ws vs : List ℕ) (b : ℕ) → Same b (b + n * size) ws vs
      → array_in n read size vs b ≡ array_in n read size ws b
  array_local n ws vs b s =
      tab-same n (λ (i : ℕ). read ws (b + i * size)) (λ (i : ℕ). read vs (b + i * size))
      (λ i l. local ws vs (b + i * size) (λ j x y. let e = stride i n size l in s j (omega arith) (omega arith)))

  -- the first i of n are stored
  pub record Storing (n b : ℕ) (x : List A) (ws vs : List ℕ) (i : ℕ) : Type 0 where
    pub within : i ≤ n
    pub kept : Within b (b + n * size) ws vs
    pub so : (j : ℕ) (d : A) → j < i → read vs (b + j * size) ≡ get_or x j d

  module _ (n b : ℕ) (x : List A) (long : length x ≡ n) (ws : List ℕ) where
    pub store-start : Storing n b x ws ws 0
    store-start = record { within = omega arith; kept = nothing_changed b (b + n * size) ws; so = λ j d h. absurd (not-suc-le-zero h) }

    -- one more
    pub store-next : (vs us : List ℕ) (i : ℕ) (y : A) → Storing n b x ws vs i → i < n → y ≡ get_or x i y
        → Within (b + i * size) (b + i * size + size) vs us → read us (b + i * size) ≡ y
        → Storing n b x ws us (i + 1)
    store-next vs us i y s h at p e = record {
      within = omega arith;
      kept =
          let l = stride i n size h in
          and_then s.kept (wider (b + i * size) (b + i * size + size) b (b + n * size) (omega arith) (omega arith) p);
      so = λ j d k. go j d (lower_or_same j i (omega arith));
    }
      where
        go : (j : ℕ) (d : A) → (j < i) ⊎ (j ≡ i) → read us (b + j * size) ≡ get_or x j d
        go j d (inl l) =
            let m = stride j i size l in
            local vs us (b + j * size) (λ a y z. p.rest a (λ q r. omega arith)) ∙ s.so j d l
        go j d (inr same) = rw same (e ∙ at ∙ get_or_any x i y d (omega arith))

    -- all of them
    pub store_end : (vs : List ℕ) (i : ℕ) → Storing n b x ws vs i → n ≤ i
        → Within b (b + n * size) ws vs × (array_in n read size vs b ≡ x)
    store_end vs i s h =
        let f : ℕ → A = λ j. read vs (b + j * size) in
        let d = read vs b in (
          s.kept,
          ext_get_or d (tab n f) x (length-tab n f ∙ sym long)
              (λ j k. let m : j < n = rw (length-tab n f) at k in tab-at n f j d m ∙ s.so j d (omega (arith, s.within))),
        )

  -- the first i of n are read
  pub record Reading (n b : ℕ) (ws : List ℕ) (x : List A) (i : ℕ) : Type 0 where
    pub long : length x ≡ n
    pub so : (j : ℕ) (d : A) → j < i → get_or x j d ≡ read ws (b + j * size)

  module _ (n b : ℕ) (ws : List ℕ) where
    -- the first stands in every place
    pub read-start : (x : List A) (y : A) → 0 < n → x ≡ replicate n y → y ≡ read ws b → Reading n b ws x 1
    read-start x y h e ey = record {
      long = rw e (length-replicate n y);
      so = λ j d k. at j d (omega arith);
    }
      where
        at : (j : ℕ) (d : A) → j ≡ 0 → get_or x j d ≡ read ws (b + j * size)
        at j d z = rw (z, e, get_or-replicate n 0 y d h) (ey ∙ ap (read ws) (omega arith))

    -- one more
    pub read-next : (x : List A) (i : ℕ) (y : A) → Reading n b ws x i → i < n → y ≡ read ws (b + i * size) → Reading n b ws (set x i y) (i + 1)
    read-next x i y r h e = record { long = length-set x i y ∙ r.long; so = λ j d k. go j d (lower_or_same j i (omega arith)) }
      where
        go : (j : ℕ) (d : A) → (j < i) ⊎ (j ≡ i) → get_or (set x i y) j d ≡ read ws (b + j * size)
        go j d (inl l) = get_or-set_other x i j y d (λ q. omega arith) ∙ r.so j d l
        go j d (inr same) = rw same (get_or-set_same x i y d (omega (arith, r.long)) ∙ e)

    -- all of them
    pub read_end : (x : List A) (i : ℕ) → Reading n b ws x i → n ≤ i → x ≡ array_in n read size ws b
    read_end x i r h =
        let f : ℕ → A = λ j. read ws (b + j * size) in
        ext_get_or (f 0) x (tab n f) (r.long ∙ sym (length-tab n f))
        (λ j k. r.so j (f 0) (omega (arith, r.long)) ∙ sym (tab-at n f j (f 0) (omega (arith, r.long))))
