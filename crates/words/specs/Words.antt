-- A transaction (swap) as 35 words, both ways: number, input count, output count, four inputs of five words, four
-- outputs of three words.
use Rattle.std.specs.Prelude.{ℕ, ◌+◌, ◌*◌, Bool, cond, List, [], ◌∷◌, ◌++◌, ltb, get_or}
use Rattle.transaction.specs.declared.Input.{Input}
use Rattle.transaction.specs.declared.Output.{Output}
use Rattle.transaction.specs.declared.Transaction.{Transaction}
use Rattle.transaction.specs.Tokens.{zero_input, zero_output}

-- the words in front of the inputs, of an input, in front of the outputs, of an output
abbrev pub inputs_at : ℕ
inputs_at = 3

abbrev pub input_size : ℕ
input_size = 5

abbrev pub outputs_at : ℕ
outputs_at = 23

abbrev pub output_size : ℕ
output_size = 3

-- 1 for yes, 0 for no
abbrev pub yes : Bool → ℕ
yes b = cond b 1 0

-- A word where the field is a byte: a word above 255 stands for 255, which no field allows.
unfoldable pub byte_of : ℕ → ℕ
byte_of w = cond (ltb 255 w) 255 w

-- the word at a place, and as a byte
abbrev pub word_at : List ℕ → ℕ → ℕ
word_at words k = get_or words k 0

abbrev pub byte_at : List ℕ → ℕ → ℕ
byte_at words k = byte_of (word_at words k)

-- an input from a place on: shard (pantry), creator (making swap), index (position), owner (household), amount
-- (portions)
unfoldable pub input_at : List ℕ → ℕ → Input
input_at words at =
    record {
      token = record { shard = byte_at words at; creator = word_at words (at + 1); index = byte_at words (at + 2) };
      owner = word_at words (at + 3);
      amount = word_at words (at + 4);
    }

-- an output from a place on: shard, owner, amount
unfoldable pub output_at : List ℕ → ℕ → Output
output_at words at = record { shard = byte_at words at; owner = word_at words (at + 1); amount = word_at words (at + 2) }

-- the input and the output in each slot, 0 to 3
abbrev pub input_from : List ℕ → ℕ → Input
input_from words k = input_at words (inputs_at + k * input_size)

abbrev pub output_from : List ℕ → ℕ → Output
output_from words k = output_at words (outputs_at + k * output_size)

-- the transaction that the words stand for
unfoldable pub transaction_from : List ℕ → Transaction
transaction_from words =
    record {
      number = word_at words 0;
      input_count = byte_at words 1;
      output_count = byte_at words 2;
      inputs = input_from words 0 ∷ input_from words 1 ∷ input_from words 2 ∷ input_from words 3 ∷ [];
      outputs = output_from words 0 ∷ output_from words 1 ∷ output_from words 2 ∷ output_from words 3 ∷ [];
    }

-- the words of an input, and those of an output
abbrev pub input_words : Input → List ℕ
input_words x = x.token.shard ∷ x.token.creator ∷ x.token.index ∷ x.owner ∷ x.amount ∷ []

abbrev pub output_words : Output → List ℕ
output_words y = y.shard ∷ y.owner ∷ y.amount ∷ []

-- all 35 words of a transaction
unfoldable pub words_of : Transaction → List ℕ
words_of t =
    t.number ∷ t.input_count ∷ t.output_count
    ∷ (input_words (get_or t.inputs 0 zero_input) ++ input_words (get_or t.inputs 1 zero_input)
    ++ input_words (get_or t.inputs 2 zero_input) ++ input_words (get_or t.inputs 3 zero_input)
    ++ output_words (get_or t.outputs 0 zero_output) ++ output_words (get_or t.outputs 1 zero_output)
    ++ output_words (get_or t.outputs 2 zero_output) ++ output_words (get_or t.outputs 3 zero_output))
