-- What a table that refuses nothing says: every test of it has passed.
use Prim.Native.Nat.{ℕ, ◌+◌, ◌≤◌, ◌<◌}
use native.Mathlib.Omega.{arith}
use mathlib.Core.Path.{◌≡◌, refl, sym, ap, ◌∙◌}
use mathlib.Core.Bool.{Bool, true, false, cond, ◌&&◌, not}
use mathlib.Core.List.Memᴰ
use mathlib.Core.List.{List, [], ◌∷◌, Memᴰ}
use borrow.Author.Tests.{leb-true, leb-false, ltb-true, ltb-false}
use lib.Dec.{eqb, leb}
use lib.ListN.{length, get_or}
use Rattle.transaction.specs.declared.Transaction.{Transaction}
use Rattle.transaction.specs.Lists.{any, first_of}
use Rattle.transaction.specs.Tokens.{shards_of, takes_part}
use Rattle.transaction.specs.Checks.{shard_fits, index_fits, value_fits, counts_fit, fields_fit, named_twice, balanced, mint_fits}
use Rattle.transaction.proofs.Causes.{counts}
use Rattle.transaction.proofs.Tables.{first-behind}
use Rattle.model.specs.declared.Known.{Known}
use Rattle.model.specs.Said.{Said}
use Rattle.model.specs.Steps.{Limits, Ledger, is_for, entry_of, heard_from, outputs_here, after_register}
use Rattle.model.specs.Shard.{
  has_number,
  is_other,
  reserved,
  other_verdict,
  mint_refusals,
  register_refusals,
  deliver_form,
  deliver_rest,
  deliver_refusals,
  turn_refusals,
  is_unknown,
  bring_rest,
  hear_rest,
}
use Rattle.model.proofs.Basics.{eqb-eq, eqb_apart, both, not-no, not_is, passed, first-append, any_at, eqb_yes, first-none}
use Rattle.model.proofs.Entries.{whole-known, new-number, registered-known, registered-unheard, known-number, registered-alone}
use Rattle.std.specs.Prelude.{None, Ok}

-- ---- Parts of the field checks

-- there are eight shards
pub shard-below : (p : ℕ) → shard_fits p ≡ true → p < 8
shard-below p e = let h = leb-true p 7 e in omega arith

-- a transaction's number is not 0
pub number-positive : (genesis : ℕ) (t : Transaction) → fields_fit genesis t ≡ true → t.number ≡ 0 → ⊥
unfolding counts_fit
number-positive genesis t e =
    let c = counts genesis t e in
    let n : Bool = not (eqb t.number 0) in
    let a = both (n && leb 1 t.input_count && leb t.input_count 4 && leb 1 t.output_count) (leb t.output_count 4) c in
    let b = both (n && leb 1 t.input_count && leb t.input_count 4) (leb 1 t.output_count) a.0 in
    let d = both (n && leb 1 t.input_count) (leb t.input_count 4) b.0 in
    eqb_apart (not_is (both n (leb 1 t.input_count) d.0).0)

-- a shard that takes part is one of the transaction
pub part_in : (p : ℕ) (t : Transaction) → takes_part p t ≡ true → Memᴰ p (shards_of t)
unfolding takes_part
part_in p t e = let r = any_at (eqb p) (shards_of t) e in Memᴰ.cast (eqb-eq p r.0 r.2) r.1

-- a list of length 0 is empty
nothing : (l : List Known) → length l ≡ 0 → l ≡ []
nothing [] e = refl
nothing (k ∷ l) e = absurd (omega arith)

-- ---- Forms

module _ (limits : Limits) (me receiver : ℕ) where
  -- what both kinds of record that carry a transaction have passed
  pub record FormPasses (t : Transaction) : Type 0 where
    pub addressed : receiver ≡ me
    pub receiver_fits : shard_fits receiver ≡ true
    pub fields : fields_fit limits.genesis t ≡ true
    pub distinct : named_twice t ≡ false
    pub balances : balanced t ≡ true
    pub is_part : takes_part receiver t ≡ true

  -- what every vote has passed: 3 to 6
  pub record VotePasses (sender verdict : ℕ) (t : Transaction) : Type 0 where
    pub form : FormPasses t
    pub sender-fits : shard_fits sender ≡ true
    pub verdict_fits : verdict ≤ 1
    pub sender-part : takes_part sender t ≡ true

  -- what their table says
  pub vote-passes : (sender verdict : ℕ) (t : Transaction) → first_of (deliver_form limits me receiver sender verdict t) ≡ Ok tt
      → VotePasses sender verdict t
  unfolding deliver_form
  vote-passes sender verdict t e =
      let g = passed (deliver_form limits me receiver sender verdict t) e in
      record {
        form = record {
          addressed = eqb-eq receiver me (not-no (eqb receiver me) g.0);
          receiver_fits = not-no (shard_fits receiver) g.1.0;
          fields = not-no (fields_fit limits.genesis t) g.1.1.1.1.0;
          distinct = g.1.1.1.1.1.0;
          balances = not-no (balanced t) g.1.1.1.1.1.1.0;
          is_part = not-no (takes_part receiver t) g.1.1.1.1.1.1.1.0;
        };
        sender-fits = not-no (shard_fits sender) g.1.1.0;
        verdict_fits = leb-true verdict 1 (not-no (leb verdict 1) g.1.1.1.0);
        sender-part = not-no (takes_part sender t) g.1.1.1.1.1.1.1.1.0;
      }

-- ---- The four tables

module _ (limits : Limits) (me : ℕ) (ledger : Ledger) (receiver : ℕ) where
  -- a genesis token that passes
  pub record MintPasses (index owner amount : ℕ) : Type 0 where
    pub addressed : receiver ≡ me
    pub receiver_fits : shard_fits receiver ≡ true
    pub index-fits : index < limits.genesis
    pub none-known : ledger.known ≡ []
    pub ungiven : get_or ledger.given index false ≡ false

  -- what its table says
  pub mint-passes : (index owner amount : ℕ) → first_of (mint_refusals limits me ledger receiver index owner amount) ≡ Ok tt → MintPasses index owner amount
  unfolding mint_refusals mint_fits index_fits
  mint-passes index owner amount e =
      let g = passed (mint_refusals limits me ledger receiver index owner amount) e in
      let f = both (shard_fits receiver && index_fits limits.genesis 0 index) (value_fits owner amount)
      (not-no (mint_fits limits.genesis receiver index owner amount) g.1.0) in
      let h = both (shard_fits receiver) (index_fits limits.genesis 0 index) f.0 in
      record {
        addressed = eqb-eq receiver me (not-no (eqb receiver me) g.0);
        receiver_fits = h.0;
        index-fits = ltb-true index limits.genesis h.1;
        none-known = nothing ledger.known (eqb-eq (length ledger.known) 0 (not-no (eqb (length ledger.known) 0) g.1.1.0));
        ungiven = g.1.1.1.0;
      }

  -- a turn that passes
  pub record TurnPasses : Type 0 where
    pub addressed : receiver ≡ me
    pub receiver_fits : shard_fits receiver ≡ true
    pub unturned : ledger.turned ≡ false

  -- what its table says
  pub turn-passes : first_of (turn_refusals me ledger receiver) ≡ Ok tt → TurnPasses
  unfolding turn_refusals
  turn-passes e =
      let g = passed (turn_refusals me ledger receiver) e in
      record {
        addressed = eqb-eq receiver me (not-no (eqb receiver me) g.0);
        receiver_fits = not-no (shard_fits receiver) g.1.0;
        unturned = g.1.1.0;
      }

  -- a registration that passes
  pub record RegisterPasses (t : Transaction) : Type 0 where
    pub form : FormPasses limits me receiver t
    pub no_other : any (is_other t) ledger.known ≡ false
    pub unknown : any (is_for t) ledger.known ≡ false
    pub known-room : length ledger.known < limits.transactions
    pub token-room : length ledger.tokens + reserved me ledger.known + length (outputs_here me t) ≤ limits.tokens

  -- what its table says
  pub register-passes : (t : Transaction) → first_of (register_refusals limits me ledger receiver t) ≡ Ok tt → RegisterPasses t
  unfolding register_refusals
  register-passes t e =
      let g = passed (register_refusals limits me ledger receiver t) e in
      record {
        form = record {
          addressed = eqb-eq receiver me (not-no (eqb receiver me) g.0);
          receiver_fits = not-no (shard_fits receiver) g.1.0;
          fields = not-no (fields_fit limits.genesis t) g.1.1.0;
          distinct = g.1.1.1.0;
          balances = not-no (balanced t) g.1.1.1.1.0;
          is_part = not-no (takes_part receiver t) g.1.1.1.1.1.0;
        };
        no_other = g.1.1.1.1.1.1.0;
        unknown = g.1.1.1.1.1.1.1.0;
        known-room = leb-false limits.transactions (length ledger.known) g.1.1.1.1.1.1.1.1.0;
        token-room = ltb-false limits.tokens
            (length ledger.tokens + reserved me ledger.known + length (outputs_here me t)) g.1.1.1.1.1.1.1.1.1.0;
      }

  -- a vote on a known number that passes
  pub record DeliverPasses (sender verdict : ℕ) (t : Transaction) : Type 0 where
    pub passes : VotePasses limits me receiver sender verdict t
    pub is_known : any (is_for t) ledger.known ≡ true
    pub no-clash : other_verdict (heard_from sender (entry_of t ledger.known)) verdict ≡ false

  -- a vote on an unknown number that passes: the transaction that it brings passes as a registration
  pub record BringPasses (sender verdict : ℕ) (t : Transaction) : Type 0 where
    pub passes : VotePasses limits me receiver sender verdict t
    pub from-other : sender ≡ me → ⊥
    pub registers : first_of (register_refusals limits me ledger receiver t) ≡ Ok tt

  module _ (sender verdict : ℕ) (t : Transaction) (e : first_of (deliver_refusals limits me ledger receiver sender verdict t) ≡ Ok tt) where
    -- 3 to 6 come first
    pub form-passes : first_of (deliver_form limits me receiver sender verdict t) ≡ Ok tt
    unfolding deliver_refusals deliver_form
    form-passes = first-append (deliver_form limits me receiver sender verdict t) (deliver_rest limits me ledger sender verdict t) e

    -- then what the ledger says
    rest-passes : first_of (deliver_rest limits me ledger sender verdict t) ≡ Ok tt
    unfolding deliver_refusals deliver_form
    rest-passes =
        let form = deliver_form limits me receiver sender verdict t in
        sym (first-behind form (deliver_rest limits me ledger sender verdict t) form-passes) ∙ e

    -- of a known number
    pub deliver-passes : is_unknown t ledger.known ≡ false → DeliverPasses sender verdict t
    deliver-passes known =
        let rows = hear_rest ledger sender verdict t in
        let g = passed rows (ap (λ (b : Bool). first_of (cond b (bring_rest limits me ledger sender t) rows)) (sym known) ∙ rest-passes) in
        record {
          passes = vote-passes limits me receiver sender verdict t form-passes;
          is_known = whole-known t ledger.known (not-no (any (has_number t) ledger.known) known) g.0;
          no-clash = g.1.0;
        }

    -- of an unknown one
    pub bring-passes : is_unknown t ledger.known ≡ true → BringPasses sender verdict t
    unfolding register_refusals
    bring-passes unknown =
        let rows = bring_rest limits me ledger sender t in
        let g = passed rows (ap (λ (b : Bool). first_of (cond b rows (hear_rest ledger sender verdict t))) (sym unknown) ∙ rest-passes) in
        let vote = vote-passes limits me receiver sender verdict t form-passes in
        let new = new-number t ledger.known unknown in
        let form = vote.form in
        let addressed : not (eqb receiver me) ≡ false = ap not (eqb_yes form.addressed) in
        let fits : not (shard_fits receiver) ≡ false = ap not form.receiver_fits in
        let fields : not (fields_fit limits.genesis t) ≡ false = ap not form.fields in
        let balances : not (balanced t) ≡ false = ap not form.balances in
        let part : not (takes_part receiver t) ≡ false = ap not form.is_part in
        record {
          passes = vote;
          from-other = eqb_apart g.0;
          registers = first-none (register_refusals limits me ledger receiver t)
              (addressed, (fits, (fields, (form.distinct, (balances, (part, (new.0, (new.1, g.1))))))));
        }

-- a vote that brings its transaction is the two calls one behind the other: what the registration has passed, and what the vote passes then
module _ {limits : Limits} {me : ℕ} {ledger : Ledger} {receiver sender verdict : ℕ} {t : Transaction}
    (h : BringPasses limits me ledger receiver sender verdict t) where
  pub brought-registers : RegisterPasses limits me ledger receiver t
  brought-registers = register-passes limits me ledger receiver t h.registers

  pub brought-fresh : heard_from sender (entry_of t (after_register me ledger t).known) ≡ None
  brought-fresh = registered-unheard me ledger t brought-registers.unknown sender h.from-other

  pub brought-hears : DeliverPasses limits me (after_register me ledger t) receiver sender verdict t
  brought-hears = record {
    passes = h.passes;
    is_known = registered-known me ledger t brought-registers.unknown;
    no-clash = ap (λ (heard : Said). other_verdict heard verdict) brought-fresh;
  }

  -- its number is known then
  pub brought-known : is_unknown t (after_register me ledger t).known ≡ false
  brought-known = ap not (known-number t (after_register me ledger t).known brought-hears.is_known)

  -- so that no test of its table refuses it
  pub brought-passes : first_of (deliver_form limits me receiver sender verdict t) ≡ Ok tt
      → first_of (deliver_refusals limits me (after_register me ledger t) receiver sender verdict t) ≡ Ok tt
  unfolding deliver_refusals deliver_form
  brought-passes form =
      let registered = after_register me ledger t in
      let rows = hear_rest registered sender verdict t in
      let alone = registered-alone me ledger t brought-registers.unknown brought-registers.no_other in
      first-behind (deliver_form limits me receiver sender verdict t) (deliver_rest limits me registered sender verdict t) form
      ∙ ap (λ (b : Bool). first_of (cond b (bring_rest limits me registered sender t) rows)) brought-known
      ∙ first-none rows (alone, (brought-hears.no-clash, tt))
