-- The cluster (round) of eight shards: what each call does to the ledgers. The contracts of the cluster's functions cite `cluster_step`.
use Rattle.std.specs.Prelude.{ℕ, Err, is_ok, Bool, cond, not, ◌&&◌, List, get_or, set, replicate}
use Rattle.transaction.specs.declared.Transaction.{Transaction}
use Rattle.transaction.specs.Lists.{any, first_of}
use Rattle.model.specs.declared.Known.{Known}
use Rattle.transaction.specs.declared.refusal.Refusal.TheVariants.{VoteNotGiven}
use Rattle.model.specs.Answers.{Answer}
use Rattle.model.specs.Said.{says}
use Rattle.model.specs.Steps.{Limits, Ledger, empty_ledger, is_for, heard_from}
use Rattle.model.specs.Shard.{Call, mint, register, deliver, turn, deliver_form, shard_step}

-- eight shards, each empty at first
abbrev pub empty_shards : Limits → List Ledger
empty_shards limits = replicate 8 (empty_ledger limits)

-- the ledger of a shard; the empty one for a number above 7
abbrev pub ledger_at : Limits → List Ledger → ℕ → Ledger
ledger_at limits shards shard = get_or shards shard (empty_ledger limits)

-- this is the transaction, and this is the verdict heard from the sender
abbrev pub has_given : ℕ → ℕ → Transaction → Known → Bool
has_given sender verdict t k = is_for t k && says (heard_from sender k) verdict

-- the sender has given this vote on this transaction, as its own ledger has it
unfoldable pub gave : Ledger → ℕ → ℕ → Transaction → Bool
gave ledger sender verdict t = any (has_given sender verdict t) ledger.known

-- the call at its receiving shard
unfoldable pub at_shard : Limits → List Ledger → ℕ → Call → List Ledger × Answer
at_shard limits shards receiver call =
    let done = shard_step limits receiver (ledger_at limits shards receiver) call in
    (set shards receiver done.0, done.1)

-- 16: a vote that passes 3 to 6, and its sender has not given it
unfoldable pub not_given : Limits → List Ledger → ℕ → ℕ → ℕ → Transaction → Bool
not_given limits shards receiver sender verdict t =
    is_ok (first_of (deliver_form limits receiver receiver sender verdict t))
    && not (gave (ledger_at limits shards sender) sender verdict t)

-- One call at the cluster.
unfoldable pub cluster_step : Limits → List Ledger → Call → List Ledger × Answer
cluster_step limits shards (mint receiver index owner amount) = at_shard limits shards receiver (mint receiver index owner amount)
cluster_step limits shards (register receiver t) = at_shard limits shards receiver (register receiver t)
cluster_step limits shards (deliver receiver sender verdict t) =
    cond (not_given limits shards receiver sender verdict t)
    (shards, Err VoteNotGiven)
    (at_shard limits shards receiver (deliver receiver sender verdict t))
cluster_step limits shards (turn receiver) = at_shard limits shards receiver (turn receiver)
