-- What stands where in a shard's words, and the shard that the words stand for. A word more is one line among the
-- places; a field more is one line there and one in the reading.
use Rattle.std.specs.Prelude.{
  ℕ,
  zero,
  suc,
  ◌+◌,
  ◌*◌,
  ◌%◌,
  ◌≤◌,
  ◌<◌,
  Bool,
  true,
  false,
  cond,
  not,
  ◌≡◌,
  Some,
  None,
  List,
  [],
  ◌∷◌,
  eqb,
  length,
  get_or,
  set,
  take,
}
use Rattle.transaction.specs.declared.Input.{Input}
use Rattle.transaction.specs.declared.Output.{Output}
use Rattle.transaction.specs.declared.Transaction.{Transaction}
use Rattle.model.specs.declared.Token.{Token}
use Rattle.model.specs.declared.Finding.{Finding}
use Rattle.model.specs.declared.Finding.TheVariants.{Available, NotHeld, OtherOwner, OtherAmount, Pledged}
use Rattle.model.specs.declared.Known.{Known}
use Rattle.model.specs.Said.{Said}
use Rattle.model.specs.Steps.{Ledger}

-- ---- How many slots there are, and how many words each has

-- tokens (document 01: at most 128 are held), known transactions (swaps, at most 32), genesis indices (opening
-- positions, 128)
abbrev pub token_slots : ℕ
token_slots = 128

abbrev pub known_slots : ℕ
known_slots = 32

abbrev pub genesis_slots : ℕ
genesis_slots = 128

-- a token: creator, index, owner, amount, pledge
abbrev pub token_size : ℕ
token_size = 5

-- an input: shard, creator, index, owner, amount; an output: shard, owner, amount
abbrev pub input_size : ℕ
input_size = 5

abbrev pub output_size : ℕ
output_size = 3

-- within a transaction: its number and two counts, then four inputs, then four outputs
abbrev pub inputs_offset : ℕ
inputs_offset = 3

abbrev pub outputs_offset : ℕ
outputs_offset = inputs_offset + 4 * input_size

-- a finding: its number, and that of the pledging transaction
abbrev pub found_size : ℕ
found_size = 2

-- a known transaction: the transaction, then the verdict heard from each of the eight shards, then four findings
abbrev pub heard_offset : ℕ
heard_offset = outputs_offset + 4 * output_size

abbrev pub findings_offset : ℕ
findings_offset = heard_offset + 8

abbrev pub known_size : ℕ
known_size = findings_offset + 4 * found_size

-- ---- Places

-- the shard's number, how many tokens it holds, how many transactions it knows, whether it has turned
abbrev pub number_place : ℕ
number_place = 0

abbrev pub held_place : ℕ
held_place = 1

abbrev pub known_place : ℕ
known_place = 2

abbrev pub turned_place : ℕ
turned_place = 3

-- the flags of the genesis indices given, the tokens, the known transactions
abbrev pub given_place : ℕ
given_place = 4

abbrev pub tokens_place : ℕ
tokens_place = given_place + genesis_slots

abbrev pub transactions_place : ℕ
transactions_place = tokens_place + token_slots * token_size

-- all words of a shard
abbrev pub shard_words : ℕ
shard_words = transactions_place + known_slots * known_size

-- where a token and a known transaction begin
abbrev pub token_place : ℕ → ℕ
token_place k = tokens_place + k * token_size

abbrev pub entry_place : ℕ → ℕ
entry_place k = transactions_place + k * known_size

-- ---- Reading

-- a word, and a word of a byte
abbrev pub word : List ℕ → ℕ → ℕ
word ws i = get_or ws i 0

abbrev pub byte : List ℕ → ℕ → ℕ
byte ws i = get_or ws i 0 % 256

-- the list of f 0, f 1 and so on, n of them
abbrev pub tab : {A : Type 0} → ℕ → (ℕ → A) → List A
tab zero f = []
tab (suc n) f = f 0 ∷ tab n (λ (i : ℕ). f (suc i))

-- n of them, one behind the other, each of so many words
abbrev pub array_in : {A : Type 0} → ℕ → (List ℕ → ℕ → A) → ℕ → List ℕ → ℕ → List A
array_in n read size ws b = tab n (λ (i : ℕ). read ws (b + i * size))

abbrev pub token_in : List ℕ → ℕ → Token
token_in ws b =
    record {
      creator = word ws b;
      index = byte ws (b + 1);
      owner = word ws (b + 2);
      amount = word ws (b + 3);
      pledge = word ws (b + 4);
    }

unfoldable pub input_in : List ℕ → ℕ → Input
input_in ws b =
    record {
      token = record { shard = byte ws b; creator = word ws (b + 1); index = byte ws (b + 2) };
      owner = word ws (b + 3);
      amount = word ws (b + 4);
    }

unfoldable pub output_in : List ℕ → ℕ → Output
output_in ws b = record { shard = byte ws b; owner = word ws (b + 1); amount = word ws (b + 2) }

unfoldable pub inputs_in : List ℕ → ℕ → List Input
inputs_in ws b =
    input_in ws b ∷ input_in ws (b + input_size) ∷ input_in ws (b + 2 * input_size) ∷ input_in ws (b + 3 * input_size) ∷ []

unfoldable pub outputs_in : List ℕ → ℕ → List Output
outputs_in ws b =
    output_in ws b ∷ output_in ws (b + output_size) ∷ output_in ws (b + 2 * output_size)
    ∷ output_in ws (b + 3 * output_size) ∷ []

abbrev pub transaction_in : List ℕ → ℕ → Transaction
transaction_in ws b =
    record {
      number = word ws b;
      input_count = byte ws (b + 1);
      output_count = byte ws (b + 2);
      inputs = inputs_in ws (b + inputs_offset);
      outputs = outputs_in ws (b + outputs_offset);
    }

-- what is heard from a sender: 1 is no and 2 is yes, and any other number is that of one who is not heard
unfoldable pub said_from : ℕ → Said
said_from number = cond (eqb number 1) (Some false) (cond (eqb number 2) (Some true) None)

unfoldable pub said_in : List ℕ → ℕ → Said
said_in ws b = said_from (byte ws b)

-- the verdicts heard
unfoldable pub heard_in : List ℕ → ℕ → List Said
heard_in ws b = tab 8 (λ (i : ℕ). said_in ws (b + i))

-- the finding of a number (document 02, 2); any other number is that of an input that was available
unfoldable pub finding_from : ℕ → ℕ → Finding
finding_from number pledging =
    cond (eqb number 2) NotHeld
    (cond (eqb number 3) OtherOwner
    (cond (eqb number 4) OtherAmount
    (cond (eqb number 5) (Pledged pledging) Available)))

unfoldable pub found_in : List ℕ → ℕ → Finding
found_in ws b = finding_from (word ws b) (word ws (b + 1))

-- the findings
unfoldable pub findings_in : List ℕ → ℕ → List Finding
findings_in ws b =
    found_in ws b ∷ found_in ws (b + found_size) ∷ found_in ws (b + 2 * found_size) ∷ found_in ws (b + 3 * found_size) ∷ []

abbrev pub known_in : List ℕ → ℕ → Known
known_in ws b =
    record {
      transaction = transaction_in ws b;
      heard = heard_in ws (b + heard_offset);
      findings = findings_in ws (b + findings_offset);
    }

abbrev pub token_at : List ℕ → ℕ → Token
token_at ws k = token_in ws (token_place k)

abbrev pub known_at : List ℕ → ℕ → Known
known_at ws k = known_in ws (entry_place k)

-- a flag is any word but 0
abbrev pub flag : List ℕ → ℕ → Bool
flag ws i = not (eqb (word ws i) 0)

abbrev pub given_at : List ℕ → ℕ → Bool
given_at ws k = flag ws (given_place + k)

unfoldable pub tokens_of : List ℕ → List Token
tokens_of ws = tab token_slots (token_at ws)

unfoldable pub transactions_of : List ℕ → List Known
transactions_of ws = tab known_slots (known_at ws)

unfoldable pub given_of : List ℕ → List Bool
given_of ws = tab genesis_slots (given_at ws)

-- ---- The shard that the words stand for

-- a shard (document 01: a pantry): its number, the counts, all slots, used or not, and whether it has turned (document 02, 4)
pub record Shard : Type 0 where
  pub number : ℕ
  pub held : ℕ
  pub known : ℕ
  pub tokens : List Token
  pub transactions : List Known
  pub given : List Bool
  pub turned : Bool

abbrev pub shard_of : List ℕ → Shard
shard_of ws =
    record {
      number = byte ws number_place;
      held = word ws held_place;
      known = word ws known_place;
      tokens = tokens_of ws;
      transactions = transactions_of ws;
      given = given_of ws;
      turned = flag ws turned_place;
    }

-- its ledger as the reference model has it: the tokens and the known transactions are the first ones of their slots, in
-- order
unfoldable pub view : Shard → Ledger
view s =
    record {
      tokens = take s.held s.tokens;
      given = s.given;
      known = take s.known s.transactions;
      turned = s.turned;
    }

abbrev pub ledger_of : List ℕ → Ledger
ledger_of ws = view (shard_of ws)

-- ---- A shard with one part changed

-- with these counts, slots and flags, and all else as it was
abbrev pub storing : Shard → ℕ → List Token → ℕ → List Known → List Bool → Bool → Shard
storing s held tokens known transactions given turned =
    record {
      number = s.number;
      held = held;
      known = known;
      tokens = tokens;
      transactions = transactions;
      given = given;
      turned = turned;
    }

abbrev pub with_tokens : Shard → List Token → Shard
with_tokens s l = storing s s.held l s.known s.transactions s.given s.turned

abbrev pub with_held : Shard → ℕ → Shard
with_held s n = storing s n s.tokens s.known s.transactions s.given s.turned

abbrev pub with_known : Shard → ℕ → Shard
with_known s n = storing s s.held s.tokens n s.transactions s.given s.turned

abbrev pub with_transactions : Shard → List Known → Shard
with_transactions s l = storing s s.held s.tokens s.known l s.given s.turned

abbrev pub with_given : Shard → List Bool → Shard
with_given s l = storing s s.held s.tokens s.known s.transactions l s.turned

abbrev pub with_turned : Shard → Bool → Shard
with_turned s b = storing s s.held s.tokens s.known s.transactions s.given b

-- the words stand for this shard, and are as many as a shard has
pub record Becomes (s : Shard) (ws : List ℕ) : Type 0 where
  pub is : shard_of ws ≡ s
  pub long : length ws ≡ shard_words

-- nobody asks for these
abbrev pub no_token : Token
no_token = token_in [] 0

abbrev pub no_known : Known
no_known = known_in [] 0

abbrev pub no_finding : Finding
no_finding = Available

-- the token and the known transaction in a slot
abbrev pub slot_token : List ℕ → ℕ → Token
slot_token ws k = get_or (shard_of ws).tokens k no_token

abbrev pub slot_known : List ℕ → ℕ → Known
slot_known ws k = get_or (shard_of ws).transactions k no_known

-- one token stored, and one known transaction
abbrev pub PutsToken : List ℕ → ℕ → Token → List ℕ → Type 0
PutsToken ws k t vs = Becomes (with_tokens (shard_of ws) (set (shard_of ws).tokens k t)) vs

abbrev pub PutsKnown : List ℕ → ℕ → Known → List ℕ → Type 0
PutsKnown ws k x vs = Becomes (with_transactions (shard_of ws) (set (shard_of ws).transactions k x)) vs

-- ---- What the stores of a known transaction's parts promise each other

-- only words from a on and below e differ
pub record Within (a e : ℕ) (ws vs : List ℕ) : Type 0 where
  pub long : length vs ≡ length ws
  pub rest : (j : ℕ) → (a ≤ j → j < e → ⊥) → word vs j ≡ word ws j

-- the words from b on and below f are the same
abbrev pub Same : ℕ → ℕ → List ℕ → List ℕ → Type 0
Same b f ws vs = (j : ℕ) → b ≤ j → j < f → word vs j ≡ word ws j

-- what stands in a slot depends on the slot's words alone
abbrev pub Local : {A : Type 0} → (List ℕ → ℕ → A) → ℕ → Type 0
Local read size = (ws vs : List ℕ) (i : ℕ) → Same i (i + size) ws vs → read vs i ≡ read ws i

-- a number and two counts stand here
pub record Headed (ws : List ℕ) (b number inputs outputs : ℕ) : Type 0 where
  pub numbered : word ws b ≡ number
  pub ins : byte ws (b + 1) ≡ inputs
  pub outs : byte ws (b + 2) ≡ outputs

-- all words are 0 but the number
pub record Cleared (number : ℕ) (ws : List ℕ) : Type 0 where
  pub long : length ws ≡ shard_words
  pub numbered : byte ws number_place ≡ number
  pub rest : (i : ℕ) → number_place < i → word ws i ≡ 0
