-- Document 01, 'Tokens and swaps': what a transaction is made of, and when two of them are the same.
use Rattle.std.specs.Prelude.{ℕ, Option, Bool, ◌&&◌, List, ◌++◌, map, eqb, slice_get, take, replicate}
use Rattle.transaction.specs.declared.TokenId.{TokenId}
use Rattle.transaction.specs.declared.Input.{Input}
use Rattle.transaction.specs.declared.Output.{Output}
use Rattle.transaction.specs.declared.Transaction.{Transaction}
use Rattle.transaction.specs.Lists.{any, agree}

-- slots that are all zero
abbrev pub zero_input : Input
zero_input = record { token = record { shard = 0; creator = 0; index = 0 }; owner = 0; amount = 0 }

abbrev pub zero_output : Output
zero_output = record { shard = 0; owner = 0; amount = 0 }

-- the used slots: 1 to 4 inputs, 1 to 4 outputs
abbrev pub used_inputs : Transaction → List Input
used_inputs t = take t.input_count t.inputs

abbrev pub used_outputs : Transaction → List Output
used_outputs t = take t.output_count t.outputs

-- the used input at a place, counted from 0
unfoldable pub used_input : Transaction → ℕ → Option Input
used_input t place = slice_get (used_inputs t) place

unfoldable pub used_output : Transaction → ℕ → Option Output
used_output t place = slice_get (used_outputs t) place

-- its shards (document 01: its pantries) are those of its inputs and outputs
abbrev pub input_shard : Input → ℕ
input_shard x = x.token.shard

abbrev pub output_shard : Output → ℕ
output_shard y = y.shard

abbrev pub shards_of : Transaction → List ℕ
shards_of t = map input_shard (used_inputs t) ++ map output_shard (used_outputs t)

unfoldable pub takes_part : ℕ → Transaction → Bool
takes_part shard t = any (eqb shard) (shards_of t)

-- one token id (document 01: a token's name)
unfoldable pub same_token : TokenId → TokenId → Bool
same_token a b = eqb a.shard b.shard && eqb a.creator b.creator && eqb a.index b.index

unfoldable pub same_input : Input → Input → Bool
same_input a b = same_token a.token b.token && eqb a.owner b.owner && eqb a.amount b.amount

unfoldable pub same_output : Output → Output → Bool
same_output a b = eqb a.shard b.shard && eqb a.owner b.owner && eqb a.amount b.amount

-- two transactions (swaps) are the same only if every field agrees
unfoldable pub same_transaction : Transaction → Transaction → Bool
same_transaction a b =
    eqb a.number b.number && eqb a.input_count b.input_count
    && eqb a.output_count b.output_count
    && agree same_input a.inputs b.inputs
    && agree same_output a.outputs b.outputs

-- the transaction whose every field is zero
abbrev pub blank_transaction : Transaction
blank_transaction =
    record {
      number = 0;
      input_count = 0;
      output_count = 0;
      inputs = replicate 4 zero_input;
      outputs = replicate 4 zero_output;
    }
