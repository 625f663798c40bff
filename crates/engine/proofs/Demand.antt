-- DEMAND 3 THROUGH THE LIBRARY'S DOOR. For every list of plankeeper_mint, _register, _deliver, _turn and _apply with any
-- words and any bytes, refused ones included, on memory that plankeeper_new made a cluster of, and the numbers and clusters
-- that the contracts of these exported functions fix, call after call: the numbers are the codes of the reference
-- model's answers to the calls asked for, and every clause of demand 3 holds of the ledgers. What plankeeper_findings reports
-- after such calls is the true state of the tokens at the registration.
--
-- As in crates/cluster/proofs/Demand.antt a contract is read off the function itself (`Asked`, `Learnt`), so that one
-- that said less would break this proof.
use Prim.Native.Nat.{ℕ, ◌+◌, ◌≤◌}
use mathlib.Core.Path.{◌≡◌, refl, sym, ap, ◌∙◌, subst}
use mathlib.Core.Logic.{◌≢◌}
use mathlib.Core.Bool.{Bool, true, false, cond}
use mathlib.Core.List.{List, [], ◌∷◌, Memᴰ}
use native.Mathlib.Omega.{arith}
use lib.Dec.{eqb}
use lib.ListN.{length}
use contract.Lifetimes.{Lfts}
use Rattle.transaction.specs.declared.Transaction.{Transaction}
use Rattle.std.proofs.Common.{Result, Ok, Err}
use Rattle.transaction.specs.declared.refusal.Refusal.{Refusal}
use Rattle.transaction.specs.declared.refusal.Refusal.TheVariants.{
  UnknownKind,
  TooShort,
  OutOfRange,
  TokenTwice,
  SumsDiffer,
  NotTakingPart,
  NumberTaken,
  KnownAlready,
  TransactionsFull,
  TokensFull,
  NumberUnknown,
  OtherVerdict,
  MintTooLate,
  IndexGiven,
  BufferTooShort,
  VoteNotGiven,
  HeldOff,
  NoSuchNumber,
  TurnedAlready,
}
use Rattle.transaction.specs.Refusals.{refusal_number, answer_of}
use Rattle.reader.specs.declared.Record.{Record}
use Rattle.transaction.specs.Lists.{first_of}
use Rattle.transaction.specs.Checks.{house_genesis, register_checks, vote_checks, mint_checks, turn_checks}
use Rattle.reader.specs.Layout.{byte_at, word_at, transaction_at}
use Rattle.reader.specs.Reading.{kind_of, head_checks, body_checks, read_cause, record_at, reading_of}
use Rattle.model.specs.declared.Finding.{Finding}
use Rattle.model.specs.declared.Done.TheVariants.{Minted, Registered, Heard, Again, Turned, Brought}
use Rattle.model.specs.declared.Outcome.TheVariants.{Wait}
use Rattle.model.specs.Steps.{Ledger, house}
use Rattle.model.specs.Shard.{Call}
use Rattle.model.specs.Answers.{Answer, Report, told_number}
use Rattle.model.specs.Cluster.{ledger_at, cluster_step}
use Rattle.model.specs.Model.{play}
use Rattle.model.specs.Demand.{outcome_in}
use Rattle.model.proofs.Basics.{number_behind, never_answers}
use Rattle.model.specs.Findings.{report_at, reported, TrueFindings}
use Rattle.model.proofs.Tables.{never_eleven}
use Rattle.model.proofs.Reported.{report-small}
use Rattle.model.proofs.TrueFindings.{true_findings, reported-count}
use Rattle.model.proofs.Bridge as bridge
use Rattle.model.proofs.Bridge.{reference, RunDemand, run_demand_3}
use Rattle.cluster.specs.View.{view, Sound, Fresh}
use Rattle.cluster.proofs.References.{Place, refers, reads}
use Rattle.cluster.proofs.Demand.{Cluster}
use Rattle.words.specs.Words.{byte_of}
use Rattle.engine.specs.Codes.{answer_code, told_code}
use Rattle.engine.specs.Queries.{findings_words, findings_after, TellsFindings}
use Rattle.engine.specs.Calls.{cluster_called, applied_as, applied, ClusterDoes}
use Rattle.engine.specs.Asks.{
  Ask,
  mints,
  registers,
  delivers,
  turns,
  applies,
  Meant,
  refusal,
  asked,
  record_means,
  means,
  meant_by,
  calls_of,
  codes_of,
}
use Rattle.engine.proofs.clusters.plankeeper_new.Reads as of-new
use Rattle.engine.proofs.clusters.plankeeper_mint.Reads as of-mint
use Rattle.engine.proofs.clusters.plankeeper_register.Reads as of-register
use Rattle.engine.proofs.clusters.plankeeper_deliver.Reads as of-deliver
use Rattle.engine.proofs.clusters.plankeeper_turn.Reads as of-turn
use Rattle.engine.proofs.clusters.plankeeper_apply.Reads as of-apply
use Rattle.engine.proofs.cluster_queries.plankeeper_findings.Reads as of-findings

-- how memory is lent: a cluster alone, or beside it what is read from
pub record Lent : Type 0 where
  pub alone : Lfts 1
  pub both : Lfts 2
  pub to : Place
  pub from : Place

-- `plankeeper_new`, lent any words, may have left this cluster
pub record Starts (c : Cluster) : Type 0 where
  pub at : Lent
  pub before : Cluster
  pub kept : of-new.Asked at.alone (refers at.to before, tt)
      → of-new.Learnt at.alone (refers at.to before, tt) tt (refers at.to c, tt)

-- the function, lent this cluster and handed these words or bytes, may have left that cluster and returned that number
abbrev pub Leaves : Lent → Cluster → Ask → Cluster → ℕ → Type 0
Leaves at c (mints p i o a) c' code =
    of-mint.Asked at.alone (refers at.to c, (p, (i, (o, (a, tt)))))
    → of-mint.Learnt at.alone (refers at.to c, (p, (i, (o, (a, tt))))) code
    (refers at.to c', (p, (i, (o, (a, tt)))))
Leaves at c (registers p w) c' code =
    let words = reads at.from w in
    of-register.Asked at.both (refers at.to c, (p, (words, tt)))
    → of-register.Learnt at.both (refers at.to c, (p, (words, tt))) code (refers at.to c', (p, (words, tt)))
Leaves at c (delivers p q v w) c' code =
    let words = reads at.from w in
    of-deliver.Asked at.both (refers at.to c, (p, (q, (v, (words, tt)))))
    → of-deliver.Learnt at.both (refers at.to c, (p, (q, (v, (words, tt))))) code
    (refers at.to c', (p, (q, (v, (words, tt)))))
Leaves at c (turns p) c' code =
    of-turn.Asked at.alone (refers at.to c, (p, tt))
    → of-turn.Learnt at.alone (refers at.to c, (p, tt)) code (refers at.to c', (p, tt))
Leaves at c (applies l) c' code =
    let bytes = reads at.from l in
    of-apply.Asked at.both (refers at.to c, (bytes, tt))
    → of-apply.Learnt at.both (refers at.to c, (bytes, tt)) code (refers at.to c', (bytes, tt))

pub record Returns (c : Cluster) (ask : Ask) (c' : Cluster) (code : ℕ) : Type 0 where
  pub at : Lent
  pub kept : Leaves at c ask c' code

-- A run: each function is lent the cluster that the one before it left. The functions and the numbers stand in order,
-- the first one first.
pub data Run : Cluster → List Ask → List ℕ → Cluster → Type 0 where
  done : {c : Cluster} → Run c [] [] c
  then : {c c' c'' : Cluster} {ask : Ask} {code : ℕ} {asks : List Ask} {codes : List ℕ}
      → Returns c ask c' code → Run c' asks codes c'' → Run c (ask ∷ asks) (code ∷ codes) c''

-- ---- One function: its promise, by what was asked for

abbrev step_of : Cluster → Meant → List Ledger × Answer
step_of c (refusal cause) = (view c, Err cause)
step_of c (asked call) = cluster_called c call

record_step : (c : Cluster) (a : Result Record Refusal) (t : Transaction) → applied_as c a t ≡ step_of c (record_means a t)
unfolding applied_as record_means
record_step c (Ok fields) t = refl
record_step c (Err cause) t = refl

promised : (at : Lent) (c c' : Cluster) (ask : Ask) (code : ℕ) → Sound c → Leaves at c ask c' code
    → ClusterDoes (step_of c (means ask)) code c'
unfolding means applied
promised at c c' (mints p i o a) code sound x = x sound
promised at c c' (registers p w) code sound x = x sound
promised at c c' (delivers p q v w) code sound x = x sound
promised at c c' (turns p) code sound x = x sound
promised at c c' (applies l) code sound x =
    subst (λ (y : List Ledger × Answer). ClusterDoes y code c')
    (record_step c (reading_of l).answer (reading_of l).transaction) (x sound)

-- ---- All of them: a run of the reference model's cluster goes beside

abbrev ModelRun : List Ledger → List Call → List Answer → List Ledger → Type 0
ModelRun = bridge.Run (reference house)

pub record Follows (c : Cluster) (meant : List Meant) (codes : List ℕ) (c' : Cluster) : Type 0 where
  pub replies : List Answer
  pub run : ModelRun (view c) (calls_of meant) replies (view c')
  pub told : codes ≡ codes_of meant replies
  pub sound : Sound c'

one : (c c₁ c' : Cluster) (m : Meant) (code : ℕ) (rest : List Meant) (codes : List ℕ) → ClusterDoes (step_of c m) code c₁
    → Follows c₁ rest codes c' → Follows c (m ∷ rest) (code ∷ codes) c'
unfolding answer_code
one c c₁ c' (refusal cause) code rest codes does f = record {
  replies = f.replies;
  run = subst (λ (l : List Ledger). ModelRun l (calls_of rest) f.replies (view c')) does.ledgers f.run;
  told = λ j. does.answered j ∷ f.told j;
  sound = f.sound;
}
one c c₁ c' (asked call) code rest codes does f = record {
  replies = (cluster_step house (view c) call).1 ∷ f.replies;
  run = bridge.then (refl, does.ledgers) f.run;
  told = λ j. does.answered j ∷ f.told j;
  sound = f.sound;
}

pub follows : {c c' : Cluster} {asks : List Ask} {codes : List ℕ} → Sound c → Run c asks codes c'
    → Follows c (meant_by asks) codes c'
follows sound done = record { replies = []; run = bridge.done; told = refl; sound = sound }
follows {c = c} {c' = c'} sound (then {c' = c₁} {ask = ask} {code = code} {asks = asks} {codes = codes} x rest) =
    let does = promised x.at c c₁ ask code sound x.kept in
    one c c₁ c' (means ask) code (meant_by asks) codes does (follows does.sound rest)

-- ---- THEOREM

pub record PlannerDemand (asks : List Ask) (codes : List ℕ) (c : Cluster) : Type 0 where
  -- the numbers returned are the codes of the model's answers
  pub replies : List Answer
  pub told : codes ≡ codes_of (meant_by asks) replies
  -- each clause of demand 3, of the calls asked for, these answers and the ledgers after the run
  pub demand : RunDemand (reference house) (calls_of (meant_by asks)) replies (view c)
  -- a decision stays, whatever functions are called further
  pub finality : {more : List Ask} {others : List ℕ} {c' : Cluster} → Run c more others c' → (p : ℕ) (t : Transaction)
      → outcome_in (ledger_at house (view c) p) t ≢ Wait
      → outcome_in (ledger_at house (view c') p) t ≡ outcome_in (ledger_at house (view c) p) t
  -- and the memory can be handed to every further call and query
  pub sound : Sound c

pub planner_demand_3 : {c₀ c : Cluster} {asks : List Ask} {codes : List ℕ} → Starts c₀ → Run c₀ asks codes c
    → PlannerDemand asks codes c
planner_demand_3 {c = c} {asks = asks} starts run =
    let fresh : Fresh _ = starts.kept tt in
    let f = follows fresh.sound run in
    let empty =
    subst (λ (l : List Ledger). ModelRun l (calls_of (meant_by asks)) f.replies (view c)) fresh.empty
    f.run in
    let demand = run_demand_3 (reference house) empty in
    record {
      replies = f.replies;
      told = f.told;
      demand = demand;
      finality = λ further p t h. let g = follows f.sound further in demand.finality _ g.replies _ g.run p t h;
      sound = f.sound;
    }

-- ---- 11 is never returned (document 02, 6)

-- no record is refused with it
read_eleven : (l : List ℕ) → read_cause l ≡ Err NumberUnknown → ⊥
unfolding read_cause
read_eleven l e =
    go (eqb (kind_of l) 1) (eqb (kind_of l) 2) (eqb (kind_of l) 3) (number_behind NumberUnknown (head_checks l) (body_checks l) refl e).1
  where
    register : List (Bool × Refusal)
    register = register_checks house_genesis (byte_at l 1) (transaction_at l 2)

    vote : List (Bool × Refusal)
    vote = vote_checks house_genesis (byte_at l 1) (byte_at l 2) (byte_at l 3) (transaction_at l 4)

    mint : List (Bool × Refusal)
    mint = mint_checks house_genesis (byte_at l 1) (byte_at l 2) (word_at l 3) (word_at l 7)

    turn : List (Bool × Refusal)
    turn = turn_checks (byte_at l 1)

    go : (a b c : Bool) → first_of (cond a register (cond b vote (cond c mint turn))) ≡ Err NumberUnknown → ⊥
    go true b c e = never_answers NumberUnknown register refl e
    go false true c e = never_answers NumberUnknown vote refl e
    go false false true e = never_answers NumberUnknown mint refl e
    go false false false e = never_answers NumberUnknown turn refl e

-- it is the number of one refusal
of_eleven : (cause : Refusal) → refusal_number cause ≡ 11 → NumberUnknown ≡ cause
of_eleven UnknownKind e = absurd (omega arith)
of_eleven TooShort e = absurd (omega arith)
of_eleven OutOfRange e = absurd (omega arith)
of_eleven TokenTwice e = absurd (omega arith)
of_eleven SumsDiffer e = absurd (omega arith)
of_eleven NotTakingPart e = absurd (omega arith)
of_eleven NumberTaken e = absurd (omega arith)
of_eleven KnownAlready e = absurd (omega arith)
of_eleven TransactionsFull e = absurd (omega arith)
of_eleven TokensFull e = absurd (omega arith)
of_eleven NumberUnknown e = refl
of_eleven OtherVerdict e = absurd (omega arith)
of_eleven MintTooLate e = absurd (omega arith)
of_eleven IndexGiven e = absurd (omega arith)
of_eleven BufferTooShort e = absurd (omega arith)
of_eleven VoteNotGiven e = absurd (omega arith)
of_eleven HeldOff e = absurd (omega arith)
of_eleven NoSuchNumber e = absurd (omega arith)
of_eleven TurnedAlready e = absurd (omega arith)

-- and the code of that refusal alone
code_eleven : (answer : Answer) → answer_code answer ≡ 11 → Err NumberUnknown ≡ answer
unfolding answer_code
code_eleven (Err cause) e = ap Err (of_eleven cause e)
code_eleven (Ok Minted) e = absurd (omega arith)
code_eleven (Ok (Registered verdict outcome)) e = absurd (omega arith)
code_eleven (Ok (Heard outcome)) e = absurd (omega arith)
code_eleven (Ok (Again outcome)) e = absurd (omega arith)
code_eleven (Ok Turned) e = absurd (omega arith)
code_eleven (Ok (Brought verdict outcome)) e = absurd (omega arith)

-- no function asks for it
meant_eleven : (ask : Ask) → means ask ≡ refusal NumberUnknown → ⊥
unfolding means record_means reading_of
meant_eleven (mints p i o a) e = let z : ◌≡◌ {A = ℕ} 0 1 = cc in omega arith
meant_eleven (registers p w) e = let z : ◌≡◌ {A = ℕ} 0 1 = cc in omega arith
meant_eleven (delivers p q v w) e = let z : ◌≡◌ {A = ℕ} 0 1 = cc in omega arith
meant_eleven (turns p) e = let z : ◌≡◌ {A = ℕ} 0 1 = cc in omega arith
meant_eleven (applies l) e = go (read_cause l) refl e
  where
    go : (found : Result Unit Refusal) → read_cause l ≡ found
        → record_means (answer_of found (record_at l)) (reading_of l).transaction ≡ refusal NumberUnknown → ⊥
    go (Ok passed) z e = let z : ◌≡◌ {A = ℕ} 0 1 = cc in omega arith
    go (Err cause) z e = read_eleven l cc

-- so that a number returned is it only where an answer is
told_eleven : (asks : List Ask) (answers : List Answer) → Memᴰ 11 (codes_of (meant_by asks) answers) → Memᴰ (Err NumberUnknown) answers
told_eleven [] answers m = elim m [ ]
told_eleven (ask ∷ asks) answers m = go (means ask) refl answers (told_eleven asks) m
  where
    go : (meant : Meant) → means ask ≡ meant → (answers : List Answer)
        → ((l : List Answer) → Memᴰ 11 (codes_of (meant_by asks) l) → Memᴰ (Err NumberUnknown) l) → Memᴰ 11 (codes_of (meant ∷ meant_by asks) answers)
        → Memᴰ (Err NumberUnknown) answers
    go (refusal cause) z answers rest (mathlib.Core.List.Memᴰ.head e) = absurd (meant_eleven ask (z ∙ ap refusal (sym (of_eleven cause (sym e)))))
    go (refusal cause) z answers rest (mathlib.Core.List.Memᴰ.tail m) = rest answers m
    go (asked call) z [] rest m = elim m [ ]
    go (asked call) z (answer ∷ answers) rest (mathlib.Core.List.Memᴰ.head e) = mathlib.Core.List.Memᴰ.head (code_eleven answer (sym e))
    go (asked call) z (answer ∷ answers) rest (mathlib.Core.List.Memᴰ.tail m) = mathlib.Core.List.Memᴰ.tail (rest answers m)

-- THEOREM: no number that these functions return, in any such run, is 11
pub planner_never_eleven : {c₀ c : Cluster} {asks : List Ask} {codes : List ℕ} → Starts c₀ → Run c₀ asks codes c → Memᴰ 11 codes → ⊥
planner_never_eleven {asks = asks} starts run m =
    let p = planner_demand_3 starts run in
    let among : Memᴰ (Err NumberUnknown) p.replies = told_eleven asks p.replies (subst (λ (l : List ℕ). Memᴰ 11 l) p.told m) in
    never_eleven house (calls_of (meant_by asks)) (subst (λ (l : List Answer). Memᴰ (Err NumberUnknown) l) p.demand.answered among)

-- ---- The findings are true (document 02, 2)

-- `plankeeper_findings`, lent this cluster, handed a shard and a number and lent words to write to, may have returned that number and left those words
pub record Tells (c : Cluster) (shard number : ℕ) (before : List ℕ) (code : ℕ) (after : List ℕ) : Type 0 where
  pub at : Lent
  pub kept : of-findings.Asked at.both (reads at.from c, (shard, (number, (refers at.to before, tt))))
      → of-findings.Learnt at.both (reads at.from c, (shard, (number, (refers at.to before, tt)))) code
      (reads at.from c, (shard, (number, (refers at.to after, tt))))

-- the number and the words are those of true findings
pub record TrueWords (calls : List Call) (p number code : ℕ) (after : List ℕ) : Type 0 where
  pub found : List Finding
  pub true_found : TrueFindings house calls p number found
  pub many : code ≡ 700 + length found
  pub words : after ≡ findings_words 4 found

-- of what the model reports after the calls
told_true : (calls : List Call) (p number : ℕ) {before : List ℕ} {code : ℕ} {after : List ℕ}
    → TellsFindings (report_at house (play house calls).shards p number) before code after → 700 ≤ code → TrueWords calls p number code after
unfolding told_code findings_after
told_true calls p number {before} {code} {after} tells h = go r refl
  where
    r : Report
    r = report_at house (play house calls).shards p number

    go : (answer : Report) → r ≡ answer → TrueWords calls p number code after
    go (Err cause) e =
        let is : code ≡ refusal_number cause = tells.answered ∙ ap told_code e in
        let small : refusal_number cause ≤ 18
        = subst (λ (n : ℕ). n ≤ 18) (ap told_number e) (report-small p (ledger_at house (play house calls).shards p) p number) in
        absurd (omega (arith, h, is, small))
    go (Ok found) e = record {
      found = reported r;
      true_found = true_findings house calls p number found e;
      many = tells.answered ∙ ap told_code e ∙ ap (λ (n : ℕ). 700 + n) (sym (reported-count house calls p number found e));
      words =
          tells.filled ∙ ap (λ (x : Report). findings_after x before) e
          ∙ ap (λ (x : Report). findings_words 4 (reported x)) (sym e);
    }

-- THEOREM: whatever shard and number are asked for after every such run, where it is not refused the words are those of findings, each the true
-- state of that token at that registration
pub planner_true_findings : {c₀ c : Cluster} {asks : List Ask} {codes : List ℕ} → Starts c₀ → Run c₀ asks codes c
    → {shard number : ℕ} {before : List ℕ} {code : ℕ} {after : List ℕ} → Tells c shard number before code after → 700 ≤ code
    → TrueWords (calls_of (meant_by asks)) (byte_of shard) number code after
planner_true_findings {c = c} {asks = asks} starts run {shard} {number} {before} {code} {after} x h =
    let p = planner_demand_3 starts run in
    told_true (calls_of (meant_by asks)) (byte_of shard) number
    (subst (λ (l : List Ledger). TellsFindings (report_at house l (byte_of shard) number) before code after) p.demand.viewed (x.kept p.sound)) h
