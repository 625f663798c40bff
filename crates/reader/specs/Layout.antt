-- Document 01, 'Records': where each field of a record stands.
-- A list of bytes is read at a place k, from 0; past the end stands 0.
use Rattle.std.specs.Prelude.{ℕ, ◌+◌, ◌*◌, Option, Some, None, cond, List, [], ◌∷◌, eqb, get_or}
use Rattle.transaction.specs.declared.Input.{Input}
use Rattle.transaction.specs.declared.Output.{Output}
use Rattle.transaction.specs.declared.Transaction.{Transaction}

-- all numbers are unsigned, high byte first
abbrev pub byte_at : List ℕ → ℕ → ℕ
byte_at l k = get_or l k 0

abbrev pub joined : ℕ → ℕ → ℕ → ℕ → ℕ
joined a b c d = ((a * 256 + b) * 256 + c) * 256 + d

unfoldable pub word_at : List ℕ → ℕ → ℕ
word_at l k = joined (byte_at l k) (byte_at l (k + 1)) (byte_at l (k + 2)) (byte_at l (k + 3))

-- one byte of kind, then a body whose length the kind fixes; every other kind has none
unfoldable pub body_length : ℕ → Option ℕ
body_length kind =
    cond (eqb kind 1) (Some 99) (cond (eqb kind 2) (Some 101) (cond (eqb kind 3) (Some 10) (cond (eqb kind 4) (Some 1) None)))

-- an input's 14 bytes: shard 1, creator 4, index 1, owner 4, amount 4
unfoldable pub input_at : List ℕ → ℕ → Input
input_at l k =
    record {
      token = record { shard = byte_at l k; creator = word_at l (k + 1); index = byte_at l (k + 5) };
      owner = word_at l (k + 6);
      amount = word_at l (k + 10);
    }

-- an output's 9 bytes: shard 1, owner 4, amount 4
unfoldable pub output_at : List ℕ → ℕ → Output
output_at l k = record { shard = byte_at l k; owner = word_at l (k + 1); amount = word_at l (k + 5) }

-- four of one size, one behind the other
abbrev pub four_at : {A : Type 0} → ℕ → (List ℕ → ℕ → A) → List ℕ → ℕ → List A
four_at size read l k = read l k ∷ read l (k + size) ∷ read l (k + 2 * size) ∷ read l (k + 3 * size) ∷ []

-- four inputs of 14, four outputs of 9
unfoldable pub inputs_at : List ℕ → ℕ → List Input
inputs_at l k = input_at l k ∷ input_at l (k + 14) ∷ input_at l (k + 28) ∷ input_at l (k + 42) ∷ []

unfoldable pub outputs_at : List ℕ → ℕ → List Output
outputs_at l k = output_at l k ∷ output_at l (k + 9) ∷ output_at l (k + 18) ∷ output_at l (k + 27) ∷ []

-- a transaction's 98 bytes: number 4, input count 1, output count 1, the inputs, the outputs
unfoldable pub transaction_at : List ℕ → ℕ → Transaction
transaction_at l k =
    record {
      number = word_at l k;
      input_count = byte_at l (k + 4);
      output_count = byte_at l (k + 5);
      inputs = inputs_at l (k + 6);
      outputs = outputs_at l (k + 62);
    }
