-- Demand 3, the serial order: it lists the committed transactions, each once, strictly by last registration.
use Prim.Native.Nat.{ℕ, suc, ◌<◌}
use native.Mathlib.Omega.{arith}
use mathlib.Core.Path.{◌≡◌, refl, ap, sym, ◌∙◌, subst}
use mathlib.Core.Logic.{◌↔◌}
use mathlib.Core.Bool.{Bool, true, false, cond, ◌&&◌}
use mathlib.Core.List.{List, [], ◌∷◌, reverse_aux, Memᴰ}
use Rattle.transaction.specs.declared.Transaction.{Transaction}
use Rattle.model.specs.Answers.{Answer}
use Rattle.model.specs.Steps.{Limits}
use Rattle.model.specs.Shard.{Call}
use Rattle.model.specs.Model.{Entry, Model, empty_model, entry_for, step, after, play}
use Rattle.model.specs.Demand.{committed, is_last, serial_from, serial_order, last_place, ByLast, EachOnce}
use Rattle.model.proofs.Basics.{not_yes, both, and_intro, Case, yes-case, no-case, case}
use Rattle.model.proofs.Entries.{same-eq, same_true}
use Rattle.model.proofs.Outcomes.{commit≢wait}
use Rattle.model.proofs.Effects.{did_refuse, did_mint, did_register, did_hear, did_repeat, effect, did_turn, Effects, did_one, did_bring}
use Rattle.model.proofs.Steps.{Inv}
use Rattle.model.proofs.Decisions.{knows, commit-at}
use Rattle.model.proofs.Serial.{last_entry, last-tail, late}

-- ---- Exactly the committed transactions, each once

module _ (limits : Limits) (model : Model) (w : Inv limits model) where
  -- what is listed is committed, and no newer entry is of it
  serial_in : (rest newer : List Entry) (t : Transaction) → Memᴰ t (serial_from model newer rest) → (committed model t ≡ true) × (is_last newer t ≡ true)
  unfolding serial_from
  serial_in [] newer t m = elim m [ ]
  serial_in (r ∷ older) newer t m =
      go (is_last newer r.transaction && committed model r.transaction) refl m
      (λ d. let h = serial_in older (r ∷ newer) t d in (h.0, last-tail r newer t h.1))
    where
      go : (b : Bool) → is_last newer r.transaction && committed model r.transaction ≡ b
          → Memᴰ t (cond b (r.transaction ∷ serial_from model (r ∷ newer) older) (serial_from model (r ∷ newer) older))
          → (Memᴰ t (serial_from model (r ∷ newer) older) → (committed model t ≡ true) × (is_last newer t ≡ true))
          → (committed model t ≡ true) × (is_last newer t ≡ true)
      go true e (Memᴰ.head z) h =
          let y = both (is_last newer r.transaction) (committed model r.transaction) e in
          (subst (λ (s : Transaction). committed model s ≡ true) (sym z) y.1, subst (λ (s : Transaction). is_last newer s ≡ true) (sym z) y.0)
      go true e (Memᴰ.tail d) h = h d
      go false e d h = h d

  -- nothing is listed twice
  serial-once : (rest newer : List Entry) → EachOnce (serial_from model newer rest)
  unfolding serial_from
  serial-once [] newer = tt
  serial-once (r ∷ older) newer = go (is_last newer r.transaction && committed model r.transaction) (serial-once older (r ∷ newer))
    where
      go : (b : Bool) → EachOnce (serial_from model (r ∷ newer) older)
          → EachOnce (cond b (r.transaction ∷ serial_from model (r ∷ newer) older) (serial_from model (r ∷ newer) older))
      go true h = (λ m. last_entry (r ∷ newer) r.transaction (serial_in older (r ∷ newer) r.transaction m).1 r (Memᴰ.head refl) refl, h)
      go false h = h

  -- a committed transaction of the log is listed
  serial_has : (rest newer : List Entry) (t : Transaction) → committed model t ≡ true → is_last newer t ≡ true
      → (e : Entry) → Memᴰ e rest → e.transaction ≡ t → Memᴰ t (serial_from model newer rest)
  unfolding serial_from
  serial_has [] newer t c u e m z = elim m [ ]
  serial_has (r ∷ older) newer t c u e m z = go (case (is_last (r ∷ newer) t)) m (λ v d. serial_has older (r ∷ newer) t c v e d z)
    where
      skip : (b : Bool) → Memᴰ t (serial_from model (r ∷ newer) older)
          → Memᴰ t (cond b (r.transaction ∷ serial_from model (r ∷ newer) older) (serial_from model (r ∷ newer) older))
      skip true d = Memᴰ.tail d
      skip false d = d

      go : Case (is_last (r ∷ newer) t) → Memᴰ e (r ∷ older)
          → (is_last (r ∷ newer) t ≡ true → Memᴰ e older → Memᴰ t (serial_from model (r ∷ newer) older))
          → Memᴰ t (cond (is_last newer r.transaction && committed model r.transaction)
          (r.transaction ∷ serial_from model (r ∷ newer) older) (serial_from model (r ∷ newer) older))
      go (yes-case v) (Memᴰ.head y) h = absurd (last_entry (r ∷ newer) t v r (Memᴰ.head refl) (ap (λ (a : Entry). a.transaction) (sym y) ∙ z))
      go (yes-case v) (Memᴰ.tail d) h = skip (is_last newer r.transaction && committed model r.transaction) (h v d)
      go (no-case v) q h =
          let y : r.transaction ≡ t = late r newer t u v in
          let b : is_last newer r.transaction && committed model r.transaction ≡ true =
          and_intro (subst (λ (s : Transaction). is_last newer s ≡ true) (sym y) u) (subst (λ (s : Transaction). committed model s ≡ true) (sym y) c) in
          subst (λ (a : Bool). Memᴰ t (cond a (r.transaction ∷ serial_from model (r ∷ newer) older) (serial_from model (r ∷ newer) older)))
          (sym b) (Memᴰ.head (sym y))

  -- a committed transaction stands in the log
  pub committed-logged : (t : Transaction) → committed model t ≡ true → (e : Entry) × Memᴰ e model.log × (e.transaction ≡ t)
  committed-logged t c =
      let r = commit-at limits model w t c in
      let k = knows limits model w r.0 t (λ z. commit≢wait (sym r.1 ∙ z)) in
      let v = (w.at r.0).core.votes t.number k.entry k.is_known r.0 ((w.at r.0).core.own t.number k.entry k.is_known) in
      (v.entry, v.logged, v.of ∙ k.whole)

  -- exactly the committed ones are listed
  pub listed_at : (t : Transaction) → Memᴰ t (serial_order model) ↔ (committed model t ≡ true)
  listed_at t = (λ m. (serial_in model.log [] t m).0, λ c. let e = committed-logged t c in serial_has model.log [] t c refl e.0 e.1 e.2)

  -- each once
  pub once-at : EachOnce (serial_order model)
  once-at = serial-once model.log []

-- ---- The log's places fall

-- each entry stands before the older ones
abbrev Falls : List Entry → Type 0
Falls [] = Unit {0}
Falls (r ∷ older) = ((e : Entry) → Memᴰ e older → e.place < r.place) × Falls older

-- the log's places are below the next call's and fall
record Placed (place : ℕ) (log : List Entry) : Type 0 where
  below : (e : Entry) → Memᴰ e log → e.place < place
  falls : Falls log

-- a call that logs nothing
placed_same : (place : ℕ) (log : List Entry) → Placed place log → Placed (suc place) log
placed_same place log h = record { below = λ e m. let z = h.below e m in omega arith; falls = h.falls }

-- a call that logs its place
placed_new : (place : ℕ) (log : List Entry) (r : Entry) → r.place ≡ place → Placed place log → Placed (suc place) (r ∷ log)
placed_new place log r z h = record { below = go; falls = (λ e m. let y = h.below e m in omega arith, h.falls) }
  where
    go : (e : Entry) → Memᴰ e (r ∷ log) → e.place < suc place
    go e (Memᴰ.head y) = let x : e.place ≡ r.place = ap (λ (a : Entry). a.place) y in omega arith
    go e (Memᴰ.tail m) = let y = h.below e m in omega arith

-- by cases on what a call did
placed_step : (limits : Limits) (place : ℕ) (model : Model) → Placed place model.log
    → (call : Call) (r : Model × Answer) → Effects limits place model call r → Placed (suc place) r.0.log
placed_step limits place model h call _ (did_one did_refuse) = placed_same place model.log h
placed_step limits place model h call _ (did_one (did_mint n)) = placed_same place model.log h
placed_step limits place model h call _ (did_one (did_register {p = p} {t = t} n)) =
    placed_new place model.log (entry_for limits place model.shards p t) refl h
placed_step limits place model h call _ (did_one (did_hear n g z)) = placed_same place model.log h
placed_step limits place model h call _ (did_one (did_repeat n z)) = placed_same place model.log h
placed_step limits place model h call _ (did_one (did_turn n)) = placed_same place model.log h
placed_step limits place model h call _ (did_bring {p = p} {t = t} n g) = placed_new place model.log (entry_for limits place model.shards p t) refl h

-- after every list of calls
falls-after : (limits : Limits) (place : ℕ) (model : Model) (calls : List Call) → Placed place model.log → Falls (after limits place model calls).log
unfolding after
falls-after limits place model [] h = h.falls
falls-after limits place model (call ∷ calls) h =
    falls-after limits (suc place) (step limits place model call).0 calls
    (placed_step limits place model h call (step limits place model call) (effect limits place model call))

-- ---- By last registration

-- the last registration of a transaction that no newer entry is of stands in the rest
last_rest : (newer rest : List Entry) (t : Transaction) → is_last newer t ≡ true → last_place (reverse_aux newer rest) t ≡ last_place rest t
last_rest [] rest t u = refl
last_rest (e ∷ newer) rest t u =
    last_rest newer (e ∷ rest) t (last-tail e newer t u)
    ∙ ap (λ (c : Bool). cond c e.place (last_place rest t)) (not_yes (λ y. last_entry (e ∷ newer) t u e (Memᴰ.head refl) (same-eq e.transaction t y)))

-- a last entry's place is the last registration's
last-at : (newer : List Entry) (r : Entry) (older : List Entry) (t : Transaction) → is_last newer t ≡ true
    → r.transaction ≡ t → last_place (reverse_aux newer (r ∷ older)) t ≡ r.place
last-at newer r older t u z = last_rest newer (r ∷ older) t u ∙ ap (λ (c : Bool). cond c r.place (last_place older t)) (same_true z)

-- what is listed has its last registration in the rest
serial-last : (model : Model) (rest newer : List Entry) (t : Transaction) → Memᴰ t (serial_from model newer rest)
    → (e : Entry) × Memᴰ e rest × (last_place (reverse_aux newer rest) t ≡ e.place)
unfolding serial_from
serial-last model [] newer t m = elim m [ ]
serial-last model (r ∷ older) newer t m =
    go (is_last newer r.transaction && committed model r.transaction) refl m
    (λ d. let h = serial-last model older (r ∷ newer) t d in (h.0, Memᴰ.tail h.1, h.2))
  where
    go : (b : Bool) → is_last newer r.transaction && committed model r.transaction ≡ b
        → Memᴰ t (cond b (r.transaction ∷ serial_from model (r ∷ newer) older) (serial_from model (r ∷ newer) older))
        → (Memᴰ t (serial_from model (r ∷ newer) older) → (e : Entry) × Memᴰ e (r ∷ older) × (last_place (reverse_aux newer (r ∷ older)) t ≡ e.place))
        → (e : Entry) × Memᴰ e (r ∷ older) × (last_place (reverse_aux newer (r ∷ older)) t ≡ e.place)
    go true y (Memᴰ.head z) h = (
      r,
      Memᴰ.head refl,
      last-at newer r older t
          (subst (λ (a : Transaction). is_last newer a ≡ true) (sym z) (both (is_last newer r.transaction) (committed model r.transaction) y).0) (sym z),
    )
    go true y (Memᴰ.tail d) h = h d
    go false y d h = h d

-- the order follows the places
by_last : (model : Model) (rest newer : List Entry) → Falls rest → ByLast (reverse_aux newer rest) (serial_from model newer rest)
unfolding serial_from
by_last model [] newer f = tt
by_last model (r ∷ older) newer f = go (is_last newer r.transaction && committed model r.transaction) refl (by_last model older (r ∷ newer) f.1)
  where
    log : List Entry
    log = reverse_aux newer (r ∷ older)

    go : (b : Bool) → is_last newer r.transaction && committed model r.transaction ≡ b → ByLast log (serial_from model (r ∷ newer) older)
        → ByLast log (cond b (r.transaction ∷ serial_from model (r ∷ newer) older) (serial_from model (r ∷ newer) older))
    go false y h = h
    go true y h =
        let here : last_place log r.transaction ≡ r.place =
        last-at newer r older r.transaction (both (is_last newer r.transaction) (committed model r.transaction) y).0 refl in
        (λ t m. let e = serial-last model older (r ∷ newer) t m in let z = f.0 e.0 e.1 in let x : last_place log t ≡ e.0.place = e.2 in omega arith, h)

-- the serial order of a play
pub sorted_at : (limits : Limits) (calls : List Call) → ByLast (play limits calls).log (serial_order (play limits calls))
unfolding play
sorted_at limits calls =
    by_last (after limits 1 (empty_model limits) calls) (after limits 1 (empty_model limits) calls).log []
    (falls-after limits 1 (empty_model limits) calls (record { below = λ e m. elim m [ ]; falls = tt }))
