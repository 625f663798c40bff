-- The shard after a store: one word, one slot, or a known transaction part by part.
use Prim.Native.Nat.{ℕ, zero, suc, ◌+◌, ◌%◌, ◌≤◌, ◌<◌}
use mathlib.Core.Path.{◌≡◌, refl, ap, sym, ◌∙◌}
use mathlib.Core.Bool.{Bool, true, false, not}
use mathlib.Core.List.{List, [], ◌∷◌}
use native.Mathlib.Omega.{arith}
use native.Mathlib.Nat.{mod-eq_of_lt}
use borrow.Author.Tests.{eqb-true, eqb-false}
use lib.Dec.{eqb}
use lib.ListN.{length, get_or, set, replicate, length-set, length-replicate}
use lib.Seq.{get_or-set_same, get_or-set_other}
use Rattle.transaction.specs.declared.Input.{Input}
use Rattle.transaction.specs.declared.Output.{Output}
use Rattle.model.specs.declared.Token.{Token}
use Rattle.model.specs.declared.Finding.{Finding}
use Rattle.model.specs.declared.Finding.TheVariants.{Available, NotHeld, OtherOwner, OtherAmount, Pledged}
use Rattle.model.specs.declared.Known.{Known}
use Rattle.model.specs.Answers.{finding_number, pledging_number}
use Rattle.std.specs.Prelude.{Some, None}
use Rattle.model.specs.Said.{Said, said_number}
use Rattle.model.specs.Steps.{pledged_to, with_said}
use Rattle.layout.specs.Layout.{
  token_slots,
  known_slots,
  genesis_slots,
  token_size,
  input_size,
  output_size,
  inputs_offset,
  outputs_offset,
  heard_offset,
  found_size,
  findings_offset,
  known_size,
  number_place,
  held_place,
  known_place,
  given_place,
  tokens_place,
  transactions_place,
  shard_words,
  token_place,
  entry_place,
  word,
  byte,
  token_in,
  input_in,
  output_in,
  inputs_in,
  outputs_in,
  transaction_in,
  said_from,
  said_in,
  heard_in,
  finding_from,
  found_in,
  findings_in,
  known_in,
  token_at,
  known_at,
  given_at,
  tokens_of,
  transactions_of,
  given_of,
  shard_of,
  with_tokens,
  with_held,
  with_known,
  with_transactions,
  with_given,
  Within,
  Headed,
  Becomes,
  Cleared,
  slot_token,
  slot_known,
  PutsToken,
  PutsKnown,
  turned_place,
  with_turned,
  flag,
  array_in,
}
use Rattle.layout.proofs.Regions.{tab-same, tab_change, stored, and_then, wider, Apart, apart, region_kept, region_set}
use Rattle.layout.specs.Reads.{known_get, token_local, said_local}
use Rattle.layout.proofs.Slots.{
  token_get,
  inputs-same,
  outputs-same,
  heard-same,
  inputs_array,
  outputs_array,
  heard_array,
  findings_array,
  findings-same,
  transaction-same,
  known_local,
}

-- ---- What a change leaves

module _ {a e : ℕ} {ws vs : List ℕ} (p : Within a e ws vs) where
  given-kept : Apart a e given_place tokens_place → given_of vs ≡ given_of ws
  unfolding given_of
  given-kept h =
      tab-same genesis_slots (given_at ws) (given_at vs)
      (λ k l. ap (λ (w : ℕ). not (eqb w 0)) (p.rest (given_place + k) (h (given_place + k) (omega arith) (omega arith))))

  tokens-kept : Apart a e tokens_place transactions_place → tokens_of vs ≡ tokens_of ws
  unfolding tokens_of
  tokens-kept h = region_kept token_in token_size tokens_place token_slots token_local p h

  known_kept : Apart a e transactions_place shard_words → transactions_of vs ≡ transactions_of ws
  unfolding transactions_of
  known_kept h = region_kept known_in known_size transactions_place known_slots known_local p h

  word_kept : (i : ℕ) → (a ≤ i → i < e → ⊥) → word vs i ≡ word ws i
  word_kept i h = p.rest i h

-- ---- The shard after a change of one word or of one slot

module _ (ws vs : List ℕ) where
  pub held-stored : Within held_place (held_place + 1) ws vs → shard_of vs ≡ with_held (shard_of ws) (word vs held_place)
  held-stored p =
      rw (
        word_kept p number_place (λ x y. omega arith),
        word_kept p known_place (λ x y. omega arith),
        word_kept p turned_place (λ x y. omega arith),
        given-kept p (λ j x y z w. omega arith),
        tokens-kept p (λ j x y z w. omega arith),
        known_kept p (λ j x y z w. omega arith),
      )

  pub count-stored : Within known_place (known_place + 1) ws vs → shard_of vs ≡ with_known (shard_of ws) (word vs known_place)
  count-stored p =
      rw (
        word_kept p number_place (λ x y. omega arith),
        word_kept p held_place (λ x y. omega arith),
        word_kept p turned_place (λ x y. omega arith),
        given-kept p (λ j x y z w. omega arith),
        tokens-kept p (λ j x y z w. omega arith),
        known_kept p (λ j x y z w. omega arith),
      )

  pub turned-stored : Within turned_place (turned_place + 1) ws vs → shard_of vs ≡ with_turned (shard_of ws) (flag vs turned_place)
  turned-stored p =
      rw (
        word_kept p number_place (λ x y. omega arith),
        word_kept p held_place (λ x y. omega arith),
        word_kept p known_place (λ x y. omega arith),
        given-kept p (λ j x y z w. omega arith),
        tokens-kept p (λ j x y z w. omega arith),
        known_kept p (λ j x y z w. omega arith),
      )

module _ (ws vs : List ℕ) (k : ℕ) where
  tokens-set : k < token_slots → Within (token_place k) (token_place k + token_size) ws vs
      → tokens_of vs ≡ set (tokens_of ws) k (token_at vs k)
  unfolding tokens_of
  tokens-set h p = region_set token_in token_size tokens_place token_slots token_local k h p

  known-set : k < known_slots → Within (entry_place k) (entry_place k + known_size) ws vs
      → transactions_of vs ≡ set (transactions_of ws) k (known_at vs k)
  unfolding transactions_of
  known-set h p = region_set known_in known_size transactions_place known_slots known_local k h p

  given-set : k < genesis_slots → Within (given_place + k) (given_place + k + 1) ws vs
      → given_of vs ≡ set (given_of ws) k (given_at vs k)
  unfolding given_of
  given-set h p =
      tab_change genesis_slots k (given_at ws) (given_at vs) h
      (λ i l ne. ap (λ (w : ℕ). not (eqb w 0)) (p.rest (given_place + i) (λ x y. ne (omega arith))))

  pub token-stored : k < token_slots → Within (token_place k) (token_place k + token_size) ws vs → {t : Token}
      → token_at vs k ≡ t
      → shard_of vs ≡ with_tokens (shard_of ws) (set (shard_of ws).tokens k t)
  token-stored h p {t} q =
      let at : tokens_of vs ≡ set (tokens_of ws) k t = tokens-set h p ∙ ap (set (tokens_of ws) k) q in
      rw (
        word_kept p number_place (λ x y. omega arith),
        word_kept p held_place (λ x y. omega arith),
        word_kept p known_place (λ x y. omega arith),
        word_kept p turned_place (λ x y. omega arith),
        given-kept p (λ j x y z w. omega arith),
        known_kept p (λ j x y z w. omega arith),
        at,
      )

  pub known-stored : k < known_slots → Within (entry_place k) (entry_place k + known_size) ws vs → {x : Known}
      → known_at vs k ≡ x
      → shard_of vs ≡ with_transactions (shard_of ws) (set (shard_of ws).transactions k x)
  known-stored h p {x} q =
      let at : transactions_of vs ≡ set (transactions_of ws) k x = known-set h p ∙ ap (set (transactions_of ws) k) q in
      rw (
        word_kept p number_place (λ x y. omega arith),
        word_kept p held_place (λ x y. omega arith),
        word_kept p known_place (λ x y. omega arith),
        word_kept p turned_place (λ x y. omega arith),
        given-kept p (λ j x y z w. omega arith),
        tokens-kept p (λ j x y z w. omega arith),
        at,
      )

  pub given-stored : k < genesis_slots → Within (given_place + k) (given_place + k + 1) ws vs → {g : Bool}
      → given_at vs k ≡ g
      → shard_of vs ≡ with_given (shard_of ws) (set (shard_of ws).given k g)
  given-stored h p {g} q =
      let at : given_of vs ≡ set (given_of ws) k g = given-set h p ∙ ap (set (given_of ws) k) q in
      rw (
        word_kept p number_place (λ x y. omega arith),
        word_kept p held_place (λ x y. omega arith),
        word_kept p known_place (λ x y. omega arith),
        word_kept p turned_place (λ x y. omega arith),
        tokens-kept p (λ j x y z w. omega arith),
        known_kept p (λ j x y z w. omega arith),
        at,
      )

-- ---- One word stored

module _ (ws : List ℕ) (long : length ws ≡ shard_words) where
  pub held-put : (n : ℕ) → Becomes (with_held (shard_of ws) n) (set ws held_place n)
  held-put n =
      let p = stored held_place (held_place + 1) held_place n ws (omega arith) (omega arith) in
      let there : word (set ws held_place n) held_place ≡ n = get_or-set_same ws held_place n 0 (omega arith) in
      record { is = held-stored ws (set ws held_place n) p ∙ ap (with_held (shard_of ws)) there; long = p.long ∙ long }

  pub count-put : (n : ℕ) → Becomes (with_known (shard_of ws) n) (set ws known_place n)
  count-put n =
      let p = stored known_place (known_place + 1) known_place n ws (omega arith) (omega arith) in
      let there : word (set ws known_place n) known_place ≡ n = get_or-set_same ws known_place n 0 (omega arith) in
      record { is = count-stored ws (set ws known_place n) p ∙ ap (with_known (shard_of ws)) there; long = p.long ∙ long }

  pub turned-put : Becomes (with_turned (shard_of ws) true) (set ws turned_place 1)
  turned-put =
      let p = stored turned_place (turned_place + 1) turned_place 1 ws (omega arith) (omega arith) in
      let there : flag (set ws turned_place 1) turned_place ≡ true =
      ap (λ (w : ℕ). not (eqb w 0)) (get_or-set_same ws turned_place 1 0 (omega arith)) in
      record { is = turned-stored ws (set ws turned_place 1) p ∙ ap (with_turned (shard_of ws)) there; long = p.long ∙ long }

  pub flag-put : (k : ℕ) → k < genesis_slots
      → Becomes (with_given (shard_of ws) (set (shard_of ws).given k true)) (set ws (given_place + k) 1)
  flag-put k h =
      let p = stored (given_place + k) (given_place + k + 1) (given_place + k) 1 ws (omega arith) (omega arith) in
      let there : word (set ws (given_place + k) 1) (given_place + k) ≡ 1 =
      get_or-set_same ws (given_place + k) 1 0 (omega arith) in
      record { is = given-stored ws (set ws (given_place + k) 1) k h p (rw there refl); long = p.long ∙ long }

-- a word after a store elsewhere
past : (ws : List ℕ) (i j x : ℕ) → (j ≡ i → ⊥) → word (set ws i x) j ≡ word ws j
past ws i j x n = get_or-set_other ws i j x 0 n

pub pledge_put : (ws : List ℕ) (k number : ℕ) → k < token_slots → length ws ≡ shard_words
    → PutsToken ws k (pledged_to number (slot_token ws k)) (set ws (token_place k + 4) number)
pledge_put ws k number h long =
    let b = token_place k in
    let vs = set ws (b + 4) number in
    let p = stored b (b + token_size) (b + 4) number ws (omega arith) (omega arith) in
    let there : word vs (b + 4) ≡ number = get_or-set_same ws (b + 4) number 0 (omega arith) in
    let token : token_at vs k ≡ pledged_to number (token_at ws k) =
    rw (
      past ws (b + 4) b number (λ e. omega arith),
      past ws (b + 4) (b + 1) number (λ e. omega arith),
      past ws (b + 4) (b + 2) number (λ e. omega arith),
      past ws (b + 4) (b + 3) number (λ e. omega arith),
      there,
    ) refl in
    record {
      is = token-stored ws vs k h p (token ∙ ap (pledged_to number) (sym (token_get ws k h)));
      long = p.long ∙ long;
    }

-- what is heard is that of its number
said-back : (c : Said) → said_from (said_number c % 256) ≡ c
unfolding said_from
said-back None = refl
said-back (Some true) = refl
said-back (Some false) = refl

-- its word
pub said-put : (ws : List ℕ) (b : ℕ) (c : Said) {number : ℕ} → b + 1 ≤ length ws → number ≡ said_number c
    → Within b (b + 1) ws (set ws b number) × (said_in (set ws b number) b ≡ c)
unfolding said_in
said-put ws b c {number} h e = (
  stored b (b + 1) b number ws (omega arith) (omega arith),
  ap (λ (w : ℕ). said_from (w % 256)) (get_or-set_same ws b number 0 (omega arith) ∙ e) ∙ said-back c,
)

-- a verdict noted
pub heard-put : (ws : List ℕ) (k sender : ℕ) (verdict : Bool) {number : ℕ} → number ≡ said_number (Some verdict) → k < known_slots → sender < 8
    → length ws ≡ shard_words → PutsKnown ws k (with_said sender verdict (slot_known ws k)) (set ws (entry_place k + heard_offset + sender) number)
unfolding heard_in
heard-put ws k sender verdict {number} e h m long =
    let b = entry_place k in
    let i = b + heard_offset + sender in
    let vs = set ws i number in
    let said = said-put ws i (Some verdict) (omega arith) e in
    let one : Within i (i + 1) ws vs = said.0 in
    let same : transaction_in vs b ≡ transaction_in ws b =
    transaction-same ws vs b (b + heard_offset) (apart one b (b + heard_offset) (λ j x y z w. omega arith)) b (omega arith) (omega arith) in
    let noted : heard_in vs (b + heard_offset) ≡ set (heard_in ws (b + heard_offset)) sender (Some verdict) =
    tab_change 8 sender (λ (j : ℕ). said_in ws (b + heard_offset + j)) (λ (j : ℕ). said_in vs (b + heard_offset + j)) m
    (λ j x ne. said_local ws vs (b + heard_offset + j) (λ a y z. one.rest a (λ u v. ne (omega arith))))
    ∙ ap (set (heard_in ws (b + heard_offset)) sender) said.1 in
    let found : findings_in vs (b + findings_offset) ≡ findings_in ws (b + findings_offset) =
    findings-same ws vs (b + findings_offset) (b + known_size) (apart one (b + findings_offset) (b + known_size) (λ j x y z w. omega arith))
    (b + findings_offset) (omega arith) (omega arith) in
    let entry : known_at vs k ≡ with_said sender verdict (known_at ws k) = rw (same, noted, found) refl in
    record {
      is =
          known-stored ws vs k h (wider i (i + 1) b (b + known_size) (omega arith) (omega arith) one)
          (entry ∙ ap (with_said sender verdict) (sym (known_get ws k h)));
      long = one.long ∙ long;
    }

-- ---- Runs of stores

-- three words stored one behind the other, and five
abbrev pub three : List ℕ → ℕ → ℕ → ℕ → ℕ → List ℕ
three ws b x₀ x₁ x₂ = set (set (set ws b x₀) (b + 1) x₁) (b + 2) x₂

abbrev pub five : List ℕ → ℕ → ℕ → ℕ → ℕ → ℕ → ℕ → List ℕ
five ws b x₀ x₁ x₂ x₃ x₄ = set (set (three ws b x₀ x₁ x₂) (b + 3) x₃) (b + 4) x₄

-- the first n of these words stand from b on, and nothing else is changed
record Run (n b : ℕ) (xs ws vs : List ℕ) : Type 0 where
  within : Within b (b + n) ws vs
  so : (j : ℕ) → j < n → word vs (b + j) ≡ get_or xs j 0

lt_of : (j i : ℕ) → j < i + 1 → (j ≡ i → ⊥) → j < i
lt_of j i h n = omega arith

none_below : (j : ℕ) → j < 1 → j ≡ 0
none_below j h = omega arith

module _ (b : ℕ) (xs ws : List ℕ) where
  run-first : (x : ℕ) → b < length ws → x ≡ get_or xs 0 0 → Run 1 b xs ws (set ws b x)
  run-first x h e = record {
    within = stored b (b + 1) b x ws (omega arith) (omega arith);
    so = λ j k. rw (none_below j k, ap (word (set ws b x)) (zero_more b)) (get_or-set_same ws b x 0 h ∙ e);
  }
    where
      zero_more : (a : ℕ) → a + 0 ≡ a
      zero_more a = omega arith

  run_more : (n : ℕ) (vs : List ℕ) (x : ℕ) → Run n b xs ws vs → b + n < length ws → x ≡ get_or xs n 0
      → Run (n + 1) b xs ws (set vs (b + n) x)
  run_more n vs x r h e = record {
    within =
        and_then (wider b (b + n) b (b + (n + 1)) (omega arith) (omega arith) r.within)
        (stored b (b + (n + 1)) (b + n) x vs (omega arith) (omega arith));
    so = λ j k. go j k (eqb j n) refl;
  }
    where
      go : (j : ℕ) → j < n + 1 → (c : Bool) → eqb j n ≡ c → word (set vs (b + n) x) (b + j) ≡ get_or xs j 0
      go j k true c =
          let same : j ≡ n = eqb-true j n c in
          rw same (get_or-set_same vs (b + n) x 0 (omega (arith, r.within.long)) ∙ e)
      go j k false c =
          let other : j ≡ n → ⊥ = eqb-false j n c in
          past vs (b + n) (b + j) x (λ y. other (omega arith)) ∙ r.so j (lt_of j n k other)

  run_at : {n : ℕ} {vs : List ℕ} → Run n b xs ws vs → 0 < n → word vs b ≡ get_or xs 0 0
  run_at {n} {vs} r h = ap (word vs) (omega arith) ∙ r.so 0 h

module _ (ws : List ℕ) (b x₀ x₁ x₂ : ℕ) where
  three-run : b + 3 ≤ length ws → (xs : List ℕ) → x₀ ≡ get_or xs 0 0 → x₁ ≡ get_or xs 1 0 → x₂ ≡ get_or xs 2 0
      → Run 3 b xs ws (three ws b x₀ x₁ x₂)
  three-run h xs e₀ e₁ e₂ =
      run_more b xs ws 2 (set (set ws b x₀) (b + 1) x₁) x₂
      (run_more b xs ws 1 (set ws b x₀) x₁ (run-first b xs ws x₀ (omega arith) e₀) (omega arith) e₁) (omega arith) e₂

  five-run : b + 5 ≤ length ws → (xs : List ℕ) (x₃ x₄ : ℕ) → x₀ ≡ get_or xs 0 0 → x₁ ≡ get_or xs 1 0 → x₂ ≡ get_or xs 2 0
      → x₃ ≡ get_or xs 3 0
      → x₄ ≡ get_or xs 4 0 → Run 5 b xs ws (five ws b x₀ x₁ x₂ x₃ x₄)
  five-run h xs x₃ x₄ e₀ e₁ e₂ e₃ e₄ =
      run_more b xs ws 4 (set (three ws b x₀ x₁ x₂) (b + 3) x₃) x₄
      (run_more b xs ws 3 (three ws b x₀ x₁ x₂) x₃ (three-run (omega arith) xs e₀ e₁ e₂) (omega arith) e₃)
      (omega arith) e₄

-- a token's five words
pub five-put : (ws : List ℕ) (b : ℕ) (t : Token) → b + 5 ≤ length ws → t.index < 256
    → let vs = five ws b t.creator t.index t.owner t.amount t.pledge in
    Within b (b + 5) ws vs × (token_in vs b ≡ t)
five-put ws b t h i =
    let xs = t.creator ∷ t.index ∷ t.owner ∷ t.amount ∷ t.pledge ∷ [] in
    let r = five-run ws b t.creator t.index t.owner h xs t.amount t.pledge refl refl refl refl refl in (
      r.within,
      rw (
        run_at b xs ws r (omega arith),
        r.so 1 (omega arith),
        r.so 2 (omega arith),
        r.so 3 (omega arith),
        r.so 4 (omega arith),
        mod-eq_of_lt i,
      ) refl,
    )

pub token-put : (ws vs : List ℕ) (k : ℕ) (t : Token) → k < token_slots → length ws ≡ shard_words
    → Within (token_place k) (token_place k + token_size) ws vs × (token_at vs k ≡ t) → PutsToken ws k t vs
token-put ws vs k t h long p = record { is = token-stored ws vs k h p.0 p.1; long = p.0.long ∙ long }

-- a finding is that of its numbers
finding-back : (found : Finding) → finding_from (finding_number found) (pledging_number found) ≡ found
unfolding finding_from
finding-back Available = refl
finding-back NotHeld = refl
finding-back OtherOwner = refl
finding-back OtherAmount = refl
finding-back (Pledged number) = refl

-- an input's five words, an output's three, a number and two counts
pub input-put : (ws : List ℕ) (b : ℕ) (x : Input) → b + 5 ≤ length ws → x.token.shard < 256 → x.token.index < 256
    → let vs = five ws b x.token.shard x.token.creator x.token.index x.owner x.amount in
    Within b (b + 5) ws vs × (input_in vs b ≡ x)
unfolding input_in
input-put ws b x h p q =
    let xs = x.token.shard ∷ x.token.creator ∷ x.token.index ∷ x.owner ∷ x.amount ∷ [] in
    let r = five-run ws b x.token.shard x.token.creator x.token.index h xs x.owner x.amount refl refl refl refl refl in (
      r.within,
      rw (
        run_at b xs ws r (omega arith),
        r.so 1 (omega arith),
        r.so 2 (omega arith),
        r.so 3 (omega arith),
        r.so 4 (omega arith),
        mod-eq_of_lt p,
        mod-eq_of_lt q,
      ) refl,
    )

pub output-put : (ws : List ℕ) (b : ℕ) (y : Output) → b + 3 ≤ length ws → y.shard < 256
    → let vs = three ws b y.shard y.owner y.amount in
    Within b (b + 3) ws vs × (output_in vs b ≡ y)
unfolding output_in
output-put ws b y h p =
    let xs = y.shard ∷ y.owner ∷ y.amount ∷ [] in
    let r = three-run ws b y.shard y.owner y.amount h xs refl refl refl in
    (r.within, rw (run_at b xs ws r (omega arith), r.so 1 (omega arith), r.so 2 (omega arith), mod-eq_of_lt p) refl)

-- a finding's two words
pub found-put : (ws : List ℕ) (b : ℕ) (x : Finding) {number pledging : ℕ} → b + 2 ≤ length ws
    → number ≡ finding_number x → pledging ≡ pledging_number x
    → let vs = set (set ws b number) (b + 1) pledging in
    Within b (b + 2) ws vs × (found_in vs b ≡ x)
unfolding found_in
found-put ws b x {number} {pledging} h en ep =
    let xs = number ∷ pledging ∷ [] in
    let r = run_more b xs ws 1 (set ws b number) pledging (run-first b xs ws number (omega arith) refl) (omega arith) refl in
    (r.within, rw (run_at b xs ws r (omega arith), r.so 1 (omega arith), en, ep, finding-back x) refl)

-- ---- A whole known transaction

module _ (k : ℕ) (v w x y z u : List ℕ) (t : Known) (h : k < known_slots) (long : length v ≡ shard_words) where
  pub known-put : (let b = entry_place k in
      Within b (b + 3) v w
      × Headed w b t.transaction.number t.transaction.input_count t.transaction.output_count
      → Within (b + inputs_offset) (b + inputs_offset + 20) w x
      × (array_in 4 input_in input_size x (b + inputs_offset) ≡ t.transaction.inputs)
      → Within (b + outputs_offset) (b + outputs_offset + 12) x y
      × (array_in 4 output_in output_size y (b + outputs_offset) ≡ t.transaction.outputs)
      → Within (b + heard_offset) (b + heard_offset + 8) y z × (array_in 8 said_in 1 z (b + heard_offset) ≡ t.heard)
      → Within (b + findings_offset) (b + findings_offset + 8) z u × (array_in 4 found_in found_size u (b + findings_offset) ≡ t.findings)
      → PutsKnown v k t u)
  known-put hp hq hr hs hf =
      let b = entry_place k in
      let e = b + known_size in
      let i = b + inputs_offset in
      let o = b + outputs_offset in
      let g = b + heard_offset in
      let f = b + findings_offset in
      let zu : Within f e z u = wider f (f + 8) f e (omega arith) (omega arith) hf.0 in
      let yz : Within g e y z = wider g (g + 8) g e (omega arith) (omega arith) hs.0 in
      let yu : Within g e y u = and_then yz (wider f e g e (omega arith) (omega arith) zu) in
      let xy : Within o e x y = wider o (o + 12) o e (omega arith) (omega arith) hr.0 in
      let xu : Within o e x u = and_then xy (wider g e o e (omega arith) (omega arith) yu) in
      let wx : Within i e w x = wider i (i + 20) i e (omega arith) (omega arith) hq.0 in
      let wu : Within i e w u = and_then wx (wider o e i e (omega arith) (omega arith) xu) in
      let vu : Within b e v u =
      and_then (wider b (b + 3) b e (omega arith) (omega arith) hp.0)
      (wider i e b e (omega arith) (omega arith) wu) in
      let number : word u b ≡ t.transaction.number = wu.rest b (λ g m. omega arith) ∙ hp.1.numbered in
      let ins : byte u (b + 1) ≡ t.transaction.input_count =
      ap (λ (c : ℕ). c % 256) (wu.rest (b + 1) (λ g m. omega arith)) ∙ hp.1.ins in
      let outs : byte u (b + 2) ≡ t.transaction.output_count =
      ap (λ (c : ℕ). c % 256) (wu.rest (b + 2) (λ g m. omega arith)) ∙ hp.1.outs in
      let inputs : inputs_in u i ≡ t.transaction.inputs =
      inputs-same x u i o (apart xu i o (λ j a c d f. omega arith)) i (omega arith) (omega arith)
      ∙ sym (inputs_array x i) ∙ hq.1 in
      let outputs : outputs_in u o ≡ t.transaction.outputs =
      outputs-same y u o g (apart yu o g (λ j a c d f. omega arith)) o (omega arith) (omega arith)
      ∙ sym (outputs_array y o) ∙ hr.1 in
      let heard : heard_in u g ≡ t.heard =
      heard-same z u g f (apart zu g f (λ j a c d f. omega arith)) g (omega arith) (omega arith)
      ∙ sym (heard_array z g) ∙ hs.1 in
      record {
        is = known-stored v u k h vu (rw (number, ins, outs, inputs, outputs, heard, sym (findings_array u f) ∙ hf.1) refl);
        long = vu.long ∙ long;
      }

-- ---- All words 0

zeros : (n i : ℕ) → get_or {A = ℕ} (replicate n 0) i 0 ≡ 0
zeros zero i = refl
zeros (suc n) zero = refl
zeros (suc n) (suc i) = zeros n i

pub all_cleared : (n number : ℕ) → n ≡ shard_words → number < 256
    → Cleared number (set (replicate n 0) number_place number)
all_cleared n number e h =
    let all : length {A = ℕ} (replicate n 0) ≡ n = length-replicate n 0 in
    record {
      long = length-set (replicate n 0) number_place number ∙ all ∙ e;
      numbered = ap (λ (w : ℕ). w % 256) (get_or-set_same (replicate n 0) number_place number 0 (omega arith)) ∙ mod-eq_of_lt h;
      rest = λ i l. get_or-set_other (replicate n 0) number_place i number 0 (λ q. omega arith) ∙ zeros n i;
    }
