-- What the exported functions promise, from what the functions that they call promise.
use Prim.Native.Nat.{ℕ, ◌+◌}
use mathlib.Core.Path.{◌≡◌, refl, sym, ap, ◌∙◌}
use mathlib.Core.List.{List}
use native.Mathlib.Omega.{arith}
use lib.ListN.{length, length-drop}
use Rattle.std.proofs.Common.{Ok, Err}
use Rattle.transaction.specs.declared.refusal.Refusal.{Refusal}
use Rattle.transaction.specs.Refusals.{refusal_number}
use Rattle.reader.specs.declared.Record.{Record}
use Rattle.reader.specs.declared.Reading.{Reading}
use Rattle.reader.specs.Reading.{taken_of, rest_of, Reads}
use Rattle.reader.proofs.Cases.{taken-within}
use Rattle.model.specs.Answers.{Answer}
use Rattle.model.specs.Shard.{Call}
use Rattle.shard.specs.View as shard
use Rattle.cluster.specs.View as cluster
use Rattle.calls.specs.Calls.{call_of}
use Rattle.engine.specs.Codes.{answer_code}
use Rattle.engine.specs.Calls.{cluster_called, shard_called, applied_as, applied, ClusterDoes, ShardDoes}

-- a record and what stands behind it are all of the bytes
pub rest-length : (l : List ℕ) {rest : List ℕ} → rest ≡ rest_of l → taken_of l + length rest ≡ length l
unfolding rest_of
rest-length l e = omega (arith, ap length e, length-drop (taken_of l) l, taken-within l)

-- ---- Calls

module _ {answer : Answer} {code : ℕ} (coded : code ≡ answer_code answer) where
  pub cluster_does : {before after : List (List ℕ)} {call : Call} → cluster.Steps before call answer after
      → ClusterDoes (cluster_called before call) code after
  cluster_does steps = record {
    answered = coded ∙ ap answer_code steps.answered;
    ledgers = steps.ledgers;
    sound = steps.sound;
  }

  pub shard_does : {before after : List ℕ} {call : Call} → shard.Steps before call answer after
      → ShardDoes (shard.number before) (shard_called before call) code after
  shard_does steps = record {
    answered = coded ∙ ap answer_code steps.answered;
    ledger = steps.ledger;
    numbered = steps.numbered;
    sound = steps.sound;
  }

-- the record at the front of the bytes
module _ (c : List (List ℕ)) {bytes : List ℕ} {r : Reading} (reads : Reads bytes r) where
  applied-is : applied c bytes ≡ applied_as c r.answer r.transaction
  unfolding applied
  applied-is = sym (ap (λ (x : Reading). applied_as c x.answer x.transaction) reads.whole)

  pub does_read : {fields : Record} {code : ℕ} {after : List (List ℕ)} → r.answer ≡ Ok fields
      → ClusterDoes (cluster_called c (call_of fields r.transaction)) code after
      → ClusterDoes (applied c bytes) code after
  unfolding applied_as
  does_read e does = rw (applied-is, e) does

  pub does_refused : cluster.Sound c → {cause : Refusal} {code : ℕ} → r.answer ≡ Err cause → code ≡ refusal_number cause
      → ClusterDoes (applied c bytes) code c
  unfolding applied_as answer_code
  does_refused sound e coded = rw (applied-is, e) (record { answered = coded; ledgers = refl; sound = sound })
