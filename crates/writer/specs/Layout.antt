-- Document 01, 'Records': the bytes of each kind of record, field behind field.
use Rattle.std.specs.Prelude.{ℕ, ◌/◌, ◌%◌, ◌≡◌, refl, length, List, [], ◌∷◌, ◌++◌, get_or}
use Rattle.transaction.specs.declared.Input.{Input}
use Rattle.transaction.specs.declared.Output.{Output}
use Rattle.transaction.specs.declared.Transaction.{Transaction}
use Rattle.transaction.specs.Tokens.{zero_input, zero_output}

-- all numbers are unsigned, high byte first
abbrev pub byte_of : ℕ → List ℕ
byte_of v = v ∷ []

unfoldable pub word_of : ℕ → List ℕ
word_of v = v / 16777216 ∷ v / 65536 % 256 ∷ v / 256 % 256 ∷ v % 256 ∷ []

-- an input's 14 bytes: shard 1, creator 4, index 1, owner 4, amount 4
unfoldable pub input_bytes : Input → List ℕ
input_bytes x =
    byte_of x.token.shard ++ word_of x.token.creator ++ byte_of x.token.index ++ word_of x.owner
    ++ word_of x.amount

-- an output's 9 bytes: shard 1, owner 4, amount 4
unfoldable pub output_bytes : Output → List ℕ
output_bytes y = byte_of y.shard ++ word_of y.owner ++ word_of y.amount

-- laws that impls of src/ cite
pub length-word : (v : ℕ) → length (word_of v) ≡ 4
unfolding word_of
length-word v = refl

pub length-input : (x : Input) → length (input_bytes x) ≡ 14
unfolding word_of input_bytes
length-input x = refl

pub length-output : (y : Output) → length (output_bytes y) ≡ 9
unfolding word_of output_bytes
length-output y = refl

-- several, one behind the other
abbrev pub bytes_of_all : {A : Type 0} → (A → List ℕ) → List A → List ℕ
bytes_of_all f [] = []
bytes_of_all f (x ∷ xs) = f x ++ bytes_of_all f xs

-- four inputs of 14, four outputs of 9
unfoldable pub inputs_bytes : List Input → List ℕ
inputs_bytes x =
    input_bytes (get_or x 0 zero_input) ++ input_bytes (get_or x 1 zero_input) ++ input_bytes (get_or x 2 zero_input)
    ++ input_bytes (get_or x 3 zero_input)

unfoldable pub outputs_bytes : List Output → List ℕ
outputs_bytes y =
    output_bytes (get_or y 0 zero_output) ++ output_bytes (get_or y 1 zero_output) ++ output_bytes (get_or y 2 zero_output)
    ++ output_bytes (get_or y 3 zero_output)

-- a transaction's 98 bytes: number 4, input count 1, output count 1, the inputs, the outputs
unfoldable pub transaction_bytes : Transaction → List ℕ
transaction_bytes t =
    word_of t.number ++ byte_of t.input_count ++ byte_of t.output_count ++ inputs_bytes t.inputs
    ++ outputs_bytes t.outputs

-- the whole record: one byte of kind, then the body
unfoldable pub register_bytes : ℕ → Transaction → List ℕ
register_bytes receiver t = byte_of 1 ++ byte_of receiver ++ transaction_bytes t

unfoldable pub vote_bytes : ℕ → ℕ → ℕ → Transaction → List ℕ
vote_bytes receiver sender verdict t =
    byte_of 2 ++ byte_of receiver ++ byte_of sender ++ byte_of verdict ++ transaction_bytes t

unfoldable pub mint_bytes : ℕ → ℕ → ℕ → ℕ → List ℕ
mint_bytes receiver index owner amount = byte_of 3 ++ byte_of receiver ++ byte_of index ++ word_of owner ++ word_of amount

unfoldable pub turn_bytes : ℕ → List ℕ
turn_bytes receiver = byte_of 4 ++ byte_of receiver
