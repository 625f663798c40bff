-- Every record written reads back as the same fields.
use Prim.Native.Nat.{ℕ, ◌/◌, ◌%◌}
use mathlib.Core.Path.{◌≡◌, refl, sym, ap, ◌∙◌}
use mathlib.Core.Bool.{cond}
use mathlib.Core.List.{List, [], ◌∷◌, ◌++◌}
use native.Mathlib.Omega.{arith}
use Rattle.std.proofs.Common.{Result, Ok, Err, is_ok}
use lib.ListN.{length, get_or, drop, length-append}
use lib.Seq.{drop_at}
use Rattle.transaction.specs.declared.Transaction.{Transaction}
use Rattle.transaction.specs.declared.refusal.Refusal.{Refusal}
use Rattle.transaction.specs.Lists.{first_of}
use Rattle.transaction.specs.Tokens.{zero_input, zero_output, blank_transaction}
use Rattle.transaction.specs.Checks.{house_genesis, register_checks, vote_checks, mint_checks, turn_checks}
use Rattle.transaction.proofs.Slots.{four}
use Rattle.transaction.proofs.Long.{Long}
use Rattle.reader.specs.declared.Record.{Record}
use Rattle.reader.specs.declared.Record.TheVariants.{Register, Vote, Mint, Turn}
use Rattle.reader.specs.declared.Reading.{Reading}
use Rattle.reader.specs.Layout.{joined, word_at, input_at, output_at, inputs_at, outputs_at, transaction_at, body_length}
use Rattle.reader.specs.Reading.{head_cause, reading_of, rest_of}
use Rattle.reader.proofs.Cases.{
  head-whole,
  reading_good,
  cause_1,
  record_1,
  transaction_1,
  taken_1,
  cause_2,
  record_2,
  transaction_2,
  taken_2,
  cause_3,
  record_3,
  transaction_3,
  taken_3,
  cause_4,
  record_4,
  transaction_4,
  taken_4,
}
use Rattle.writer.specs.Layout.{
  word_of,
  input_bytes,
  output_bytes,
  inputs_bytes,
  outputs_bytes,
  transaction_bytes,
  register_bytes,
  vote_bytes,
  mint_bytes,
  turn_bytes,
}
use Rattle.writer.specs.Writing.{register_cause, vote_cause, mint_cause, turn_cause, lent_after}
use Rattle.writer.proofs.Stores.{length-transaction, length-register, length-vote, length-mint, length-turn}
use Rattle.writer.proofs.Writes.{fields-pass}
use Rattle.codec.specs.Records.{record_bytes, record_cause, read_back}

-- four bytes of a number make the number
word_back : (v : ℕ) → joined (v / 16777216) (v / 65536 % 256) (v / 256 % 256) (v % 256) ≡ v
word_back v = omega arith

-- the four slots of a list
abbrev slots : {A : Type 0} → A → List A → List A
slots d x = get_or x 0 d ∷ get_or x 1 d ∷ get_or x 2 d ∷ get_or x 3 d ∷ []

-- a transaction's bytes, with anything behind them, hold its fields
listed : Transaction → Transaction
listed t =
    record {
      number = t.number;
      input_count = t.input_count;
      output_count = t.output_count;
      inputs = slots zero_input t.inputs;
      outputs = slots zero_output t.outputs;
    }

transaction-listed : (t : Transaction) (l : List ℕ) → transaction_at (transaction_bytes t ++ l) 0 ≡ listed t
unfolding
    word_at input_at output_at inputs_at outputs_at transaction_at
    word_of input_bytes output_bytes inputs_bytes outputs_bytes transaction_bytes
    listed
transaction-listed t l = simp word_back

listed-is : (t : Transaction) → Long t → listed t ≡ t
unfolding listed
listed-is t long = rw (four zero_input t.inputs long.inputs, four zero_output t.outputs long.outputs)

pub transaction-back : (t : Transaction) (l : List ℕ) → Long t → transaction_at (transaction_bytes t ++ l) 0 ≡ t
transaction-back t l long = transaction-listed t l ∙ listed-is t long

-- behind two bytes, and behind four
behind_2 : (a b : ℕ) (q : List ℕ) → transaction_at (a ∷ b ∷ q) 2 ≡ transaction_at q 0
unfolding word_at input_at output_at inputs_at outputs_at transaction_at
behind_2 a b q = refl

behind_4 : (a b c d : ℕ) (q : List ℕ) → transaction_at (a ∷ b ∷ c ∷ d ∷ q) 4 ≡ transaction_at q 0
unfolding word_at input_at output_at inputs_at outputs_at transaction_at
behind_4 a b c d q = refl

-- a record of kind 1, with anything behind it
module _ (r : ℕ) (t : Transaction) (l : List ℕ) where
  register-whole : head_cause (register_bytes r t ++ l) ≡ Ok tt
  unfolding register_bytes body_length
  register-whole =
      sym (head-whole (register_bytes r t ++ l) {n = 99} (λ e. omega arith) refl
      (omega (arith, length-append (transaction_bytes t) l, length-transaction t)))

  pub register-rest : rest_of (register_bytes r t ++ l) ≡ l
  unfolding rest_of register_bytes
  register-rest =
      rw (taken_1 (register_bytes r t ++ l) register-whole refl)
      (drop_at (register_bytes r t) l 100 (length-register r t))

  pub register-back : Long t → first_of (register_checks house_genesis r t) ≡ Ok tt
      → reading_of (register_bytes r t ++ l) ≡ record { answer = Ok (Register r); transaction = t; taken = 100 }
  unfolding register_bytes
  register-back long pass =
      let whole = register_bytes r t ++ l in
      let fields : transaction_at whole 2 ≡ t = behind_2 1 r (transaction_bytes t ++ l) ∙ transaction-back t l long in
      let checked = ap (λ (x : Transaction). first_of (register_checks house_genesis r x)) fields in
      sym
      (reading_good whole register-whole
      (cause_1 whole register-whole refl ∙ checked ∙ pass)
      (sym (record_1 whole register-whole refl))
      (sym fields ∙ sym (transaction_1 whole register-whole refl))
      (sym (taken_1 whole register-whole refl)))

-- a record of kind 2
module _ (r s v : ℕ) (t : Transaction) (l : List ℕ) where
  vote-whole : head_cause (vote_bytes r s v t ++ l) ≡ Ok tt
  unfolding vote_bytes body_length
  vote-whole =
      sym (head-whole (vote_bytes r s v t ++ l) {n = 101} (λ e. omega arith) refl
      (omega (arith, length-append (transaction_bytes t) l, length-transaction t)))

  pub vote-rest : rest_of (vote_bytes r s v t ++ l) ≡ l
  unfolding rest_of vote_bytes
  vote-rest =
      rw (taken_2 (vote_bytes r s v t ++ l) vote-whole refl)
      (drop_at (vote_bytes r s v t) l 102 (length-vote r s v t))

  pub vote-back : Long t → first_of (vote_checks house_genesis r s v t) ≡ Ok tt
      → reading_of (vote_bytes r s v t ++ l) ≡ record { answer = Ok (Vote r s v); transaction = t; taken = 102 }
  unfolding vote_bytes
  vote-back long pass =
      let whole = vote_bytes r s v t ++ l in
      let fields : transaction_at whole 4 ≡ t = behind_4 2 r s v (transaction_bytes t ++ l) ∙ transaction-back t l long in
      let checked = ap (λ (x : Transaction). first_of (vote_checks house_genesis r s v x)) fields in
      sym
      (reading_good whole vote-whole
      (cause_2 whole vote-whole refl ∙ checked ∙ pass)
      (sym (record_2 whole vote-whole refl))
      (sym fields ∙ sym (transaction_2 whole vote-whole refl))
      (sym (taken_2 whole vote-whole refl)))

-- a record of kind 3
module _ (r i o a : ℕ) (l : List ℕ) where
  mint-whole : head_cause (mint_bytes r i o a ++ l) ≡ Ok tt
  unfolding word_of mint_bytes body_length
  mint-whole =
      sym (head-whole (mint_bytes r i o a ++ l) {n = 10} (λ e. omega arith) refl (omega arith))

  pub mint-rest : rest_of (mint_bytes r i o a ++ l) ≡ l
  unfolding rest_of word_of mint_bytes
  mint-rest = rw (taken_3 (mint_bytes r i o a ++ l) mint-whole refl) refl

  owner-back : word_at (mint_bytes r i o a ++ l) 3 ≡ o
  unfolding word_at word_of mint_bytes
  owner-back = word_back o

  amount-back : word_at (mint_bytes r i o a ++ l) 7 ≡ a
  unfolding word_at word_of mint_bytes
  amount-back = word_back a

  pub mint-back : first_of (mint_checks house_genesis r i o a) ≡ Ok tt
      → reading_of (mint_bytes r i o a ++ l)
      ≡ record { answer = Ok (Mint r i o a); transaction = blank_transaction; taken = 11 }
  unfolding word_of mint_bytes
  mint-back pass =
      let whole = mint_bytes r i o a ++ l in
      let checked = ap (λ (x : ℕ). first_of (mint_checks house_genesis r i x (word_at whole 7))) owner-back
      ∙ ap (λ (x : ℕ). first_of (mint_checks house_genesis r i o x)) amount-back in
      let fields = ap (λ (x : ℕ). Mint r i x (word_at whole 7)) owner-back ∙ ap (λ (x : ℕ). Mint r i o x) amount-back in
      sym
      (reading_good whole mint-whole
      (cause_3 whole mint-whole refl ∙ checked ∙ pass)
      (sym fields ∙ sym (record_3 whole mint-whole refl))
      (sym (transaction_3 whole mint-whole refl))
      (sym (taken_3 whole mint-whole refl)))

-- a record of kind 4
module _ (r : ℕ) (l : List ℕ) where
  turn-whole : head_cause (turn_bytes r ++ l) ≡ Ok tt
  unfolding turn_bytes body_length
  turn-whole =
      sym (head-whole (turn_bytes r ++ l) {n = 1} (λ e. omega arith) refl (omega arith))

  pub turn-rest : rest_of (turn_bytes r ++ l) ≡ l
  unfolding rest_of turn_bytes
  turn-rest = rw (taken_4 (turn_bytes r ++ l) turn-whole refl) refl

  pub turn-back : first_of (turn_checks r) ≡ Ok tt
      → reading_of (turn_bytes r ++ l) ≡ record { answer = Ok (Turn r); transaction = blank_transaction; taken = 2 }
  unfolding turn_bytes
  turn-back pass =
      let whole = turn_bytes r ++ l in
      sym
      (reading_good whole turn-whole
      (cause_4 whole turn-whole refl ∙ pass)
      (sym (record_4 whole turn-whole refl))
      (sym (transaction_4 whole turn-whole refl))
      (sym (taken_4 whole turn-whole refl)))

-- a record of any kind: its reading where all checks pass, and the reading of what stood there before where one does not
by-cause : (cause : Result Unit Refusal) (bytes before : List ℕ) {good : Reading}
    → (cause ≡ Ok tt → reading_of (bytes ++ drop (length bytes) before) ≡ good)
    → reading_of (lent_after cause bytes before) ≡ cond (is_ok cause) good (reading_of before)
by-cause (Ok pass) bytes before back = back refl
by-cause (Err refusal) bytes before back = refl

-- THEOREM: what stands at the front after a record was written reads back as its fields.
pub written_reads_back : (fields : Record) (t : Transaction) (before : List ℕ) → Long t
    → reading_of (lent_after (record_cause fields t (length before)) (record_bytes fields t) before)
    ≡ read_back fields t before
written_reads_back (Register r) t before long =
    by-cause (register_cause r t (length before)) (register_bytes r t) before
    (λ z.
    let pass = fields-pass (register_checks house_genesis r t) 100 (length before) (unfold register_cause in z) in
    rw (length-register r t) (register-back r t (drop 100 before) long pass))
written_reads_back (Vote r s v) t before long =
    by-cause (vote_cause r s v t (length before)) (vote_bytes r s v t) before
    (λ z.
    let pass = fields-pass (vote_checks house_genesis r s v t) 102 (length before) (unfold vote_cause in z) in
    rw (length-vote r s v t) (vote-back r s v t (drop 102 before) long pass))
written_reads_back (Mint r i o a) t before long =
    by-cause (mint_cause r i o a (length before)) (mint_bytes r i o a) before
    (λ z.
    let pass = fields-pass (mint_checks house_genesis r i o a) 11 (length before) (unfold mint_cause in z) in
    rw (length-mint r i o a) (mint-back r i o a (drop 11 before) pass))
written_reads_back (Turn r) t before long =
    by-cause (turn_cause r (length before)) (turn_bytes r) before
    (λ z.
    let pass = fields-pass (turn_checks r) 2 (length before) (unfold turn_cause in z) in
    rw (length-turn r) (turn-back r (drop 2 before) pass))
