-- What a read gives, and that each reading depends on its own words alone.
use Prim.Native.Nat.{ℕ, zero, suc, ◌+◌, ◌*◌, ◌≤◌, ◌<◌}
use mathlib.Core.Path.{◌≡◌, refl, sym, ap, ◌∙◌}
use mathlib.Core.Bool.{false}
use mathlib.Core.List.{List, ◌∷◌}
use native.Mathlib.Omega.{arith}
use Rattle.std.proofs.Math.Nat.{add-zero}
use lib.ListN.{length, get_or, get_or-eq_default}
use Rattle.transaction.specs.declared.Input.{Input}
use Rattle.transaction.specs.declared.Output.{Output}
use Rattle.transaction.specs.declared.Transaction.{Transaction}
use Rattle.transaction.specs.Tokens.{zero_input, zero_output}
use Rattle.std.specs.Prelude.{None}
use Rattle.model.specs.Said.{Said}
use Rattle.model.specs.declared.Finding.{Finding}
use Rattle.layout.specs.Layout.{
  token_slots,
  known_slots,
  genesis_slots,
  input_size,
  output_size,
  inputs_offset,
  outputs_offset,
  heard_offset,
  found_size,
  findings_offset,
  known_size,
  entry_place,
  word,
  byte,
  tab,
  input_in,
  output_in,
  inputs_in,
  outputs_in,
  transaction_in,
  said_from,
  said_in,
  heard_in,
  found_in,
  findings_in,
  known_in,
  token_at,
  known_at,
  given_at,
  tokens_of,
  transactions_of,
  given_of,
  no_token,
  slot_token,
  slot_known,
  array_in,
  Same,
  Local,
}
use Rattle.layout.specs.Reads.{tab-at, known_get, said_local, input_local, output_local, found_local}
use Rattle.layout.proofs.Regions.{length-tab, array_local}

-- ---- What a read gives

module _ (ws : List ℕ) (k : ℕ) where
  pub token_get : k < token_slots → slot_token ws k ≡ token_at ws k
  unfolding tokens_of
  token_get h = tab-at token_slots (token_at ws) k no_token h

  pub given_get : k < genesis_slots → get_or (given_of ws) k false ≡ given_at ws k
  unfolding given_of
  given_get h = tab-at genesis_slots (given_at ws) k false h

pub heard_get : (ws : List ℕ) (b k : ℕ) → k < 8 → get_or (heard_in ws b) k None ≡ said_in ws (b + k)
unfolding heard_in
heard_get ws b k h = tab-at 8 (λ (i : ℕ). said_in ws (b + i)) k None h

pub heard-none : (ws : List ℕ) (b k : ℕ) → 8 ≤ k → get_or (heard_in ws b) k None ≡ None
unfolding heard_in
heard-none ws b k h =
    get_or-eq_default (tab 8 (λ (i : ℕ). said_in ws (b + i))) None {n = k}
    (rw (length-tab 8 (λ (i : ℕ). said_in ws (b + i))) h)

pub input_get : (ws : List ℕ) (b i : ℕ) → i < 4 → get_or (inputs_in ws b) i zero_input ≡ input_in ws (b + i * input_size)
unfolding inputs_in
input_get ws b zero h = ap (input_in ws) (omega arith)
input_get ws b (suc zero) h = refl
input_get ws b (suc (suc zero)) h = refl
input_get ws b (suc (suc (suc zero))) h = refl
input_get ws b (suc (suc (suc (suc i)))) h = absurd (omega arith)

pub output_get : (ws : List ℕ) (b i : ℕ) → i < 4 → get_or (outputs_in ws b) i zero_output ≡ output_in ws (b + i * output_size)
unfolding outputs_in
output_get ws b zero h = ap (output_in ws) (omega arith)
output_get ws b (suc zero) h = refl
output_get ws b (suc (suc zero)) h = refl
output_get ws b (suc (suc (suc zero))) h = refl
output_get ws b (suc (suc (suc (suc i)))) h = absurd (omega arith)

-- the shard of a slot of a known transaction
pub input-shard : (ws : List ℕ) (k i : ℕ) → k < known_slots → i < 4
    → (get_or (slot_known ws k).transaction.inputs i zero_input).token.shard
    ≡ byte ws (entry_place k + inputs_offset + i * input_size)
unfolding input_in
input-shard ws k i h l =
    rw (known_get ws k h) (ap (λ (x : Input). x.token.shard) (input_get ws (entry_place k + inputs_offset) i l))

pub output-shard : (ws : List ℕ) (k i : ℕ) → k < known_slots → i < 4
    → (get_or (slot_known ws k).transaction.outputs i zero_output).shard
    ≡ byte ws (entry_place k + outputs_offset + i * output_size)
unfolding output_in
output-shard ws k i h l =
    rw (known_get ws k h) (ap (λ (y : Output). y.shard) (output_get ws (entry_place k + outputs_offset) i l))

-- what is heard from a sender on a known transaction
pub heard-at : (ws : List ℕ) (k sender : ℕ) → k < known_slots → sender < 8
    → get_or (slot_known ws k).heard sender None ≡ said_from (byte ws (entry_place k + heard_offset + sender))
unfolding said_in
heard-at ws k sender h l = rw (known_get ws k h) (heard_get ws (entry_place k + heard_offset) sender l)

pub heard-above : (ws : List ℕ) (k sender : ℕ) → k < known_slots → 8 ≤ sender → get_or (slot_known ws k).heard sender None ≡ None
heard-above ws k sender h l = rw (known_get ws k h) (heard-none ws (entry_place k + heard_offset) sender l)

-- from its three parts
pub known-parts : (ws : List ℕ) (k : ℕ) → k < known_slots → {t : Transaction} {heard : List Said} {findings : List Finding}
    → t ≡ (slot_known ws k).transaction → heard ≡ heard_in ws (entry_place k + heard_offset) → findings ≡ (slot_known ws k).findings
    → record { transaction = t; heard = heard; findings = findings } ≡ slot_known ws k
known-parts ws k h et eh ef = rw (et, eh, ef, known_get ws k h) refl

-- ---- All slots are there

pub length-tokens : (ws : List ℕ) → length (tokens_of ws) ≡ token_slots
unfolding tokens_of
length-tokens ws = length-tab token_slots (token_at ws)

pub length-known : (ws : List ℕ) → length (transactions_of ws) ≡ known_slots
unfolding transactions_of
length-known ws = length-tab known_slots (known_at ws)

pub length-given : (ws : List ℕ) → length (given_of ws) ≡ genesis_slots
unfolding given_of
length-given ws = length-tab genesis_slots (given_at ws)

-- a known transaction's arrays
pub inputs_array : (ws : List ℕ) (b : ℕ) → array_in 4 input_in input_size ws b ≡ inputs_in ws b
unfolding inputs_in
inputs_array ws b = ap (λ (i : ℕ). input_in ws i ∷ tab 3 (λ (j : ℕ). input_in ws (b + suc j * input_size))) (add-zero b)

pub outputs_array : (ws : List ℕ) (b : ℕ) → array_in 4 output_in output_size ws b ≡ outputs_in ws b
unfolding outputs_in
outputs_array ws b = ap (λ (i : ℕ). output_in ws i ∷ tab 3 (λ (j : ℕ). output_in ws (b + suc j * output_size))) (add-zero b)

pub findings_array : (ws : List ℕ) (b : ℕ) → array_in 4 found_in found_size ws b ≡ findings_in ws b
unfolding findings_in
findings_array ws b = ap (λ (i : ℕ). found_in ws i ∷ tab 3 (λ (j : ℕ). found_in ws (b + suc j * found_size))) (add-zero b)

pub heard_array : (ws : List ℕ) (b : ℕ) → array_in 8 said_in 1 ws b ≡ heard_in ws b
unfolding heard_in
heard_array ws b = refl

-- ---- Each reading depends on its own words alone

module _ (ws vs : List ℕ) where
  module _ (b f : ℕ) (s : Same b f ws vs) where
    -- a word, and a word of a byte
    at : (i : ℕ) → b ≤ i → i < f → word vs i ≡ word ws i
    at i l h = s i l h

    part : (i n : ℕ) → b ≤ i → i + n ≤ f → Same i (i + n) ws vs
    part i n l h j x y = s j (omega arith) (omega arith)

    pub inputs-same : (i : ℕ) → b ≤ i → i + 4 * input_size ≤ f → inputs_in vs i ≡ inputs_in ws i
    inputs-same i l h =
        sym (inputs_array vs i) ∙ array_local input_in input_size input_local 4 ws vs i (part i (4 * input_size) l h) ∙ inputs_array ws i

    pub outputs-same : (i : ℕ) → b ≤ i → i + 4 * output_size ≤ f → outputs_in vs i ≡ outputs_in ws i
    outputs-same i l h =
        sym (outputs_array vs i) ∙ array_local output_in output_size output_local 4 ws vs i (part i (4 * output_size) l h)
        ∙ outputs_array ws i

    pub heard-same : (i : ℕ) → b ≤ i → i + 8 ≤ f → heard_in vs i ≡ heard_in ws i
    heard-same i l h = sym (heard_array vs i) ∙ array_local said_in 1 said_local 8 ws vs i (part i 8 l h) ∙ heard_array ws i

    pub findings-same : (i : ℕ) → b ≤ i → i + 4 * found_size ≤ f → findings_in vs i ≡ findings_in ws i
    findings-same i l h =
        sym (findings_array vs i) ∙ array_local found_in found_size found_local 4 ws vs i (part i (4 * found_size) l h)
        ∙ findings_array ws i

    pub transaction-same : (i : ℕ) → b ≤ i → i + heard_offset ≤ f → transaction_in vs i ≡ transaction_in ws i
    transaction-same i l h =
        rw (
          at i (omega arith) (omega arith),
          at (i + 1) (omega arith) (omega arith),
          at (i + 2) (omega arith) (omega arith),
          inputs-same (i + inputs_offset) (omega arith) (omega arith),
          outputs-same (i + outputs_offset) (omega arith) (omega arith),
        )

    known_same : (i : ℕ) → b ≤ i → i + known_size ≤ f → known_in vs i ≡ known_in ws i
    known_same i l h =
        rw (
          transaction-same i (omega arith) (omega arith),
          heard-same (i + heard_offset) (omega arith) (omega arith),
          findings-same (i + findings_offset) (omega arith) (omega arith),
        )

pub known_local : Local known_in known_size
known_local ws vs i s = known_same ws vs i (i + known_size) s i (omega arith) (omega arith)
