-- Rows 3, 4 and 5 of document 01's table of refusals, for a transaction (swap), a genesis token (opening) and a turn.
-- `genesis` is the number of genesis indices (opening positions) of a shard: 128 in a house.
use Rattle.std.specs.Prelude.{ℕ, Result, Bool, cond, not, ◌&&◌, List, [], ◌∷◌, eqb, leb, ltb}
use Rattle.transaction.specs.declared.Input.{Input}
use Rattle.transaction.specs.declared.Output.{Output}
use Rattle.transaction.specs.declared.Transaction.{Transaction}
use Rattle.transaction.specs.declared.refusal.Refusal.{Refusal}
use Rattle.transaction.specs.declared.refusal.Refusal.TheVariants.{OutOfRange, TokenTwice, SumsDiffer}
use Rattle.transaction.specs.Lists.{total, repeats, slots_fit, first_of}
use Rattle.transaction.specs.Tokens.{
  used_inputs,
  used_outputs,
  same_token,
  same_input,
  same_output,
  zero_input,
  zero_output,
}

-- eight shards (pantries), 0 to 7
abbrev pub shard_fits : ℕ → Bool
shard_fits shard = leb shard 7

-- a genesis token's index (opening position) is below the limit;
-- a made token's, its place among all outputs of its creator, is 0 to 3
unfoldable pub index_fits : ℕ → ℕ → ℕ → Bool
index_fits genesis creator index = ltb index (cond (eqb creator 0) genesis 4)

-- an owner (household) is not 0, and an amount (portions) is 1 to 1,000,000
unfoldable pub value_fits : ℕ → ℕ → Bool
value_fits owner amount = not (eqb owner 0) && leb 1 amount && leb amount 1000000

unfoldable pub input_fits : ℕ → Input → Bool
input_fits genesis x =
    shard_fits x.token.shard && index_fits genesis x.token.creator x.token.index
    && value_fits x.owner x.amount

unfoldable pub output_fits : Output → Bool
output_fits y = shard_fits y.shard && value_fits y.owner y.amount

-- a number that is not 0, 1 to 4 inputs and 1 to 4 outputs
unfoldable pub counts_fit : Transaction → Bool
counts_fit t =
    not (eqb t.number 0)
    && leb 1 t.input_count && leb t.input_count 4
    && leb 1 t.output_count && leb t.output_count 4

-- 3: number, counts and used slots are in range, and slots beyond the count are all zero
unfoldable pub fields_fit : ℕ → Transaction → Bool
fields_fit genesis t =
    counts_fit t
    && slots_fit (input_fits genesis) (same_input zero_input) t.input_count t.inputs
    && slots_fit output_fits (same_output zero_output) t.output_count t.outputs

-- 4: one token is named twice
unfoldable pub same_name : Input → Input → Bool
same_name x y = same_token x.token y.token

-- the same, asked of an earlier input
abbrev pub names : Input → Input → Bool
names x y = same_name y x

unfoldable pub named_twice : Transaction → Bool
named_twice t = repeats same_name (used_inputs t)

-- 5: input amounts and output amounts have equal sums
abbrev pub input_amount : Input → ℕ
input_amount x = x.amount

abbrev pub output_amount : Output → ℕ
output_amount y = y.amount

unfoldable pub balanced : Transaction → Bool
balanced t = eqb (total input_amount (used_inputs t)) (total output_amount (used_outputs t))

-- the checks of a transaction, in the table's order
abbrev pub checks : ℕ → Transaction → List (Bool × Refusal)
checks genesis t = (not (fields_fit genesis t), OutOfRange) ∷ (named_twice t, TokenTwice) ∷ (not (balanced t), SumsDiffer) ∷ []

-- the first fitting of 3, 4, 5; ok where none fits
unfoldable pub cause_of : ℕ → Transaction → Result Unit Refusal
cause_of genesis t = first_of (checks genesis t)

-- the genesis indices of a house: 0 to 127
abbrev pub house_genesis : ℕ
house_genesis = 128

-- The fields of a record, by its kind; the shard that receives it, and of a vote the sender, are 0 to 7,
-- and a verdict is 1 (yes) or 0 (no).
abbrev pub register_checks : ℕ → ℕ → Transaction → List (Bool × Refusal)
register_checks genesis receiver t = (not (shard_fits receiver), OutOfRange) ∷ checks genesis t

abbrev pub vote_checks : ℕ → ℕ → ℕ → ℕ → Transaction → List (Bool × Refusal)
vote_checks genesis receiver sender verdict t =
    (not (shard_fits receiver), OutOfRange) ∷ (not (shard_fits sender), OutOfRange) ∷ (not (leb verdict 1), OutOfRange) ∷ checks genesis t

-- a genesis token (opening)
unfoldable pub mint_fits : ℕ → ℕ → ℕ → ℕ → ℕ → Bool
mint_fits genesis receiver index owner amount = shard_fits receiver && index_fits genesis 0 index && value_fits owner amount

abbrev pub mint_checks : ℕ → ℕ → ℕ → ℕ → ℕ → List (Bool × Refusal)
mint_checks genesis receiver index owner amount = (not (mint_fits genesis receiver index owner amount), OutOfRange) ∷ []

-- a turn (document 02, 4): its one field is the shard that receives it
abbrev pub turn_checks : ℕ → List (Bool × Refusal)
turn_checks receiver = (not (shard_fits receiver), OutOfRange) ∷ []
