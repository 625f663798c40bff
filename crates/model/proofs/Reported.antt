-- Document 02, 2, 'Which token spoiled it', of any tokens and any ledger: what a finding says beside its definition, and what the call for them answers.
use Prim.Native.Nat.{ℕ, suc, ◌≤◌}
use native.Mathlib.Omega.{arith}
use mathlib.Core.Path.{◌≡◌, refl, ap, ◌∙◌}
use mathlib.Core.Bool.{Bool, true, false, cond, ◌&&◌, not}
use mathlib.Core.Option.{Option, none, some}
use mathlib.Core.List.{List, [], ◌∷◌, map, Memᴰ}
use borrow.Author.Tests.{leb-true}
use lib.Dec.{eqb, leb}
use lib.ListN.{length, take, length-take, length-map}
use Rattle.transaction.specs.declared.Input.{Input}
use Rattle.transaction.specs.declared.Transaction.{Transaction}
use Rattle.transaction.specs.Lists.{any, all, first_of}
use Rattle.transaction.specs.Tokens.{used_inputs}
use Rattle.transaction.specs.Checks.{shard_fits, counts_fit, fields_fit}
use Rattle.transaction.proofs.Causes.{counts}
use Rattle.model.specs.declared.Token.{Token}
use Rattle.model.specs.declared.Finding.{Finding}
use Rattle.model.specs.declared.Finding.TheVariants.{Available, OtherOwner, OtherAmount, Pledged}
use Rattle.model.specs.Lists.{lookup}
use Rattle.std.specs.Prelude.{Result, Ok, Err}
use Rattle.transaction.specs.declared.refusal.Refusal.{Refusal}
use Rattle.transaction.specs.declared.refusal.Refusal.TheVariants.{OutOfRange, NoSuchNumber}
use Rattle.model.specs.Answers.{Report, is_available, told_number}
use Rattle.model.specs.Steps.{Ledger, input_here, inputs_here, names, free_for, available, obstacle, finding, findings, keeping, vote, nothing_known}
use Rattle.model.specs.Shard.{is_numbered}
use Rattle.model.specs.Demand.{token_at}
use Rattle.model.specs.Findings.{
  State,
  is-available,
  is-not-held,
  has_other_owner,
  has_other_amount,
  is-pledged,
  States,
  no_more,
  and_more,
  numbered,
  report_refusals,
  told,
  unless_refused,
  report,
}
use Rattle.model.proofs.Basics.{eqb-eq, eqb_yes, eqb_same, eqb_apart, not-no, passed, both, and_intro, clash, any_of, keep-length, find_at}
use Rattle.model.proofs.Lookups.{lookup-passes, lookup-mem}
use Rattle.model.proofs.Holdings.{NoTwice, available-token}
use Prim.Native.Nat.{◌<◌}
use native.Mathlib.Nat.{not-suc-le-zero, le_of_suc-le-suc}
use lib.ListN.{get_or}
use Rattle.model.specs.Lists.{find}
use Rattle.model.specs.declared.Finding.TheVariants.{NotHeld}

-- ---- Findings of any tokens

-- the finding about an input is 'available' exactly where the input is
pub finding-available : (tokens : List Token) (x : Input) → is_available (finding tokens x) ≡ available tokens x
unfolding finding
finding-available tokens x = go (available tokens x)
  where
    stands : (o : Option Token) → is_available (obstacle x o) ≡ false
    stands none = refl
    stands (some token) = cut (eqb token.owner x.owner) (eqb token.amount x.amount)
      where
        cut : (a b : Bool) → is_available (cond (not a) OtherOwner (cond (not b) OtherAmount (Pledged token.pledge))) ≡ false
        cut false b = refl
        cut true false = refl
        cut true true = refl

    go : (b : Bool) → is_available (cond b Available (obstacle x (lookup (names x) tokens))) ≡ b
    go true = refl
    go false = stands (lookup (names x) tokens)

-- where it is available
pub finding-free : (tokens : List Token) (x : Input) → available tokens x ≡ true → finding tokens x ≡ Available
unfolding finding
finding-free tokens x e = ap (λ (b : Bool). cond b Available (obstacle x (lookup (names x) tokens))) e

-- the first element of which a test holds, and none
module _ {A : Type 0} (f : A → Bool) where
  lookup-there : (l : List A) (d : A) → find f l < length l → lookup f l ≡ some (get_or l (find f l) d)
  lookup-there [] d h = absurd (not-suc-le-zero h)
  lookup-there (a ∷ l) d h = go (f a) h (lookup-there l d)
    where
      go : (b : Bool) → cond b 0 (suc (find f l)) < suc (length l)
          → (find f l < length l → lookup f l ≡ some (get_or l (find f l) d))
          → cond b (some a) (lookup f l) ≡ some (get_or (a ∷ l) (cond b 0 (suc (find f l))) d)
      go true h rest = refl
      go false h rest = rest (le_of_suc-le-suc h)

  lookup-past : (l : List A) → length l ≤ find f l → lookup f l ≡ none
  lookup-past [] h = refl
  lookup-past (a ∷ l) h = go (f a) h (lookup-past l)
    where
      go : (b : Bool) → suc (length l) ≤ cond b 0 (suc (find f l)) → (length l ≤ find f l → lookup f l ≡ none)
          → cond b (some a) (lookup f l) ≡ none
      go true h rest = absurd (not-suc-le-zero h)
      go false h rest = rest (le_of_suc-le-suc h)

-- and where it is not: by the token of its name, or that there is none
module _ (tokens : List Token) (x : Input) (taken : available tokens x ≡ false) where
  pub finding-named : (d : Token) → find (names x) tokens < length tokens
      → finding tokens x ≡ obstacle x (some (get_or tokens (find (names x) tokens) d))
  unfolding finding
  finding-named d h =
      ap (λ (b : Bool). cond b Available (obstacle x (lookup (names x) tokens))) taken ∙ ap (obstacle x) (lookup-there (names x) tokens d h)

  pub finding-none : length tokens ≤ find (names x) tokens → finding tokens x ≡ NotHeld
  unfolding finding
  finding-none h =
      ap (λ (b : Bool). cond b Available (obstacle x (lookup (names x) tokens))) taken ∙ ap (obstacle x) (lookup-past (names x) tokens h)

-- a vote is yes exactly where all findings are 'available'
pub vote-findings : (p : ℕ) (tokens : List Token) (t : Transaction) → all is_available (findings p tokens t) ≡ vote p tokens t
unfolding findings vote
vote-findings p tokens t = go (inputs_here p t)
  where
    go : (inputs : List Input) → all is_available (map (finding tokens) inputs) ≡ all (available tokens) inputs
    go [] = refl
    go (x ∷ inputs) = λ i. finding-available tokens x i && go inputs i

-- there is one for each input here
pub findings-length : (p : ℕ) (tokens : List Token) (t : Transaction) → length (findings p tokens t) ≡ length (inputs_here p t)
unfolding findings
findings-length p tokens t = length-map (inputs_here p t) (finding tokens)

-- a transaction that passes check 3 has at most four inputs, so at most four here
pub few-inputs : (genesis p : ℕ) (t : Transaction) → fields_fit genesis t ≡ true → length (inputs_here p t) ≤ 4
unfolding counts_fit inputs_here
few-inputs genesis p t e =
    let c = counts genesis t e in
    let n : Bool = not (eqb t.number 0) in
    let a = both (n && leb 1 t.input_count && leb t.input_count 4 && leb 1 t.output_count) (leb t.output_count 4) c in
    let b = both (n && leb 1 t.input_count && leb t.input_count 4) (leb 1 t.output_count) a.0 in
    let d = leb-true t.input_count 4 (both (n && leb 1 t.input_count) (leb t.input_count 4) b.0).1 in
    let kept = keep-length (input_here p) (used_inputs t) in
    let used = length-take t.input_count t.inputs in
    omega arith

-- up to four findings are read back as they were kept
pub kept_back : (found : List Finding) → length found ≤ 4 → take (length found) (keeping found) ≡ found
unfolding keeping
kept_back [] h = refl
kept_back (a ∷ []) h = refl
kept_back (a ∷ b ∷ []) h = refl
kept_back (a ∷ b ∷ c ∷ []) h = refl
kept_back (a ∷ b ∷ c ∷ d ∷ []) h = refl
kept_back (a ∷ b ∷ c ∷ d ∷ e ∷ found) h = absurd (omega arith)

-- where no token is held twice, the finding is the true state of the input's token
pub finding_state : (tokens : List Token) → NoTwice tokens → (x : Input) → State tokens x (finding tokens x)
unfolding finding available
finding_state tokens once x = go (available tokens x) refl
  where
    held : (token : Token) → token_at tokens x.token.creator x.token.index ≡ some token → available tokens x ≡ false
        → (a : Bool) → eqb token.owner x.owner ≡ a → (b : Bool) → eqb token.amount x.amount ≡ b
        → State tokens x (cond (not a) OtherOwner (cond (not b) OtherAmount (Pledged token.pledge)))
    held token there e false owner b amount = has_other_owner token there (eqb_apart owner)
    held token there e true owner false amount =
        has_other_amount token there (eqb-eq token.owner x.owner owner) (eqb_apart amount)
    held token there e true owner true amount =
        let named = lookup-passes (names x) tokens there in
        let free : token.pledge ≡ 0 → free_for x token ≡ true = λ z. and_intro (and_intro (and_intro named owner) amount) (eqb_yes z) in
        is-pledged token there (eqb-eq token.owner x.owner owner) (eqb-eq token.amount x.amount amount)
        (λ z. clash (any_of (free_for x) (lookup-mem (names x) tokens there) (free z)) e)

    go : (b : Bool) → available tokens x ≡ b → State tokens x (cond b Available (obstacle x (lookup (names x) tokens)))
    go true e =
        let a = available-token tokens x once e in
        is-available a.token a.is-there (ap (λ v. v.owner) a.is_value) (ap (λ v. v.amount) a.is_value) a.is_free
    go false e = cut (lookup (names x) tokens) refl
      where
        cut : (o : Option Token) → lookup (names x) tokens ≡ o → State tokens x (obstacle x o)
        cut none z = is-not-held z
        cut (some token) z = held token z e (eqb token.owner x.owner) refl (eqb token.amount x.amount) refl

-- and so are all of them, input by input
pub findings-states : (p : ℕ) (tokens : List Token) (t : Transaction) → NoTwice tokens → States tokens (inputs_here p t) (findings p tokens t)
unfolding findings
findings-states p tokens t once = go (inputs_here p t)
  where
    go : (inputs : List Input) → States tokens inputs (map (finding tokens) inputs)
    go [] = no_more
    go (x ∷ inputs) = and_more (finding_state tokens once x) (go inputs)

-- ---- The report

-- why the call is refused, if it is
abbrev pub refused_by : Report → Result Unit Refusal
refused_by (Err refusal) = Err refusal
refused_by (Ok found) = Ok tt

module _ (me : ℕ) (ledger : Ledger) (shard number : ℕ) where
  -- the first refusal that fits; none where the findings are told
  pub report-number : refused_by (report me ledger shard number) ≡ first_of (report_refusals me ledger shard number)
  unfolding report
  report-number = go (first_of (report_refusals me ledger shard number))
    where
      go : (found : Result Unit Refusal) → refused_by (unless_refused found (told me (numbered number ledger.known))) ≡ found
      go (Ok tt) = refl
      go (Err refusal) = refl

  -- its number is no larger than 18
  pub report-small : told_number (report me ledger shard number) ≤ 18
  unfolding report
  report-small = go (not (eqb shard me)) (not (shard_fits shard)) (eqb number 0) (not (any (is_numbered number) ledger.known))
    where
      go : (a b c d : Bool)
          → told_number (unless_refused (first_of ((a, OutOfRange) ∷ (b, OutOfRange) ∷ (c, OutOfRange) ∷ (d, NoSuchNumber) ∷ []))
          (told me (numbered number ledger.known))) ≤ 18
      go true b c d = omega arith
      go false true c d = omega arith
      go false false true d = omega arith
      go false false false true = omega arith
      go false false false false = omega arith

  -- a call that no test refuses is told what the shard has kept of the transaction of that number
  pub report-told : first_of (report_refusals me ledger shard number) ≡ Ok tt → report me ledger shard number ≡ Ok (told me (numbered number ledger.known))
  unfolding report
  report-told e = ap (λ (found : Result Unit Refusal). unless_refused found (told me (numbered number ledger.known))) e

  -- any other is refused, with no finding
  pub report-refused : {refusal : Refusal} → first_of (report_refusals me ledger shard number) ≡ Err refusal
      → report me ledger shard number ≡ Err refusal
  unfolding report
  report-refused e = ap (λ (found : Result Unit Refusal). unless_refused found (told me (numbered number ledger.known))) e

  -- where the findings are told, the number is known
  pub number-known : first_of (report_refusals me ledger shard number) ≡ Ok tt → any (is_numbered number) ledger.known ≡ true
  number-known e = not-no (any (is_numbered number) ledger.known) (passed (report_refusals me ledger shard number) e).1.1.1.0

  -- and so is its transaction
  pub told-known : first_of (report_refusals me ledger shard number) ≡ Ok tt
      → Memᴰ (numbered number ledger.known) ledger.known × ((numbered number ledger.known).transaction.number ≡ number)
  told-known e =
      let r = find_at (is_numbered number) ledger.known nothing_known (number-known e) in
      (r.0, eqb-eq (numbered number ledger.known).transaction.number number r.1)

-- a shard above 7 is refused with 3, whatever is known
pub report-above : (ledger : Ledger) (shard number : ℕ) → shard_fits shard ≡ false → report shard ledger shard number ≡ Err OutOfRange
unfolding report
report-above ledger shard number h = rw (eqb_same shard, h) refl
