-- DEMAND 3 ABOUT THE CODE. For every list of openings, registrations, vote deliveries and turns with any arguments, refused ones included, and the
-- answers and clusters that the contracts of `new`, `mint_token`, `register_transaction`, `deliver_vote` and `turn_shard` fix, call after call: the
-- record `RunDemand` holds (crates/model/proofs/Bridge.antt), which has each clause of demand 3 as a field; no answer is 11; and what `findings_of` reports
-- after such a run is the true state of the tokens at the registration.
--
-- A contract is read off the function itself: `Asked` is what its `requires` asks of the arguments, `Learnt` what its `ensures` tells of the
-- arguments, the result and the lent cluster afterwards, as the checker generates both from src/lib.rt. There is no second copy of a contract here, so
-- that a contract that said less would break this proof.
use Prim.Native.Nat.{ℕ}
use mathlib.Core.Path.{◌≡◌, sym, subst, ◌∙◌}
use mathlib.Core.List.{List, Memᴰ}
use contract.Lifetimes.{Lfts}
use Rattle.std.specs.Prelude.{Ok, Err}
use Rattle.transaction.specs.declared.refusal.Refusal.TheVariants.{NumberUnknown}
use Rattle.model.specs.declared.Findings.{Findings}
use Rattle.model.specs.Answers.{Answer, Report}
use Rattle.model.specs.Steps.{house}
use Rattle.model.specs.Shard.{Call, mint, register, deliver, turn}
use Rattle.model.specs.Findings.{reported, TrueFindings}
use Rattle.model.proofs.Bridge.{Engine, Run, RunDemand, run_demand_3, run_never_eleven, run_sound, run_true_findings}
use Rattle.cluster.specs.View.{view, Sound, Fresh, Steps}
use Rattle.cluster.proofs.References.{Place, refers, reads}
use Rattle.cluster.proofs.new.Reads as new
use Rattle.cluster.proofs.mint_token.Reads as mint-token
use Rattle.cluster.proofs.register_transaction.Reads as register-transaction
use Rattle.cluster.proofs.deliver_vote.Reads as deliver-vote
use Rattle.cluster.proofs.turn_shard.Reads as turn-shard
use Rattle.cluster.proofs.queries.findings_of.Reads as findings-of

-- a cluster's words
abbrev pub Cluster : Type 0
Cluster = List (List ℕ)

-- how a cluster is lent: for which lifetime is nothing that a contract speaks of either
pub record Lent : Type 0 where
  pub lifetimes : Lfts 1
  pub place : Place

-- `new`, lent any words, may have left this cluster
pub record Starts (c : Cluster) : Type 0 where
  pub at : Lent
  pub before : Cluster
  pub kept : new.Asked at.lifetimes (refers at.place before, tt)
      → new.Learnt at.lifetimes (refers at.place before, tt) tt (refers at.place c, tt)

-- the function of the call, lent this cluster and handed the call's arguments, may have left that cluster and returned that answer
abbrev pub Leaves : Lent → Cluster → Call → Cluster → Answer → Type 0
Leaves at c (mint p i o a) c' answer =
    mint-token.Asked at.lifetimes (refers at.place c, (p, (i, (o, (a, tt)))))
    → mint-token.Learnt at.lifetimes (refers at.place c, (p, (i, (o, (a, tt))))) answer (refers at.place c', (p, (i, (o, (a, tt)))))
Leaves at c (register p t) c' answer =
    register-transaction.Asked at.lifetimes (refers at.place c, (p, (t, tt)))
    → register-transaction.Learnt at.lifetimes (refers at.place c, (p, (t, tt))) answer (refers at.place c', (p, (t, tt)))
Leaves at c (deliver p q v t) c' answer =
    deliver-vote.Asked at.lifetimes (refers at.place c, (p, (q, (v, (t, tt)))))
    → deliver-vote.Learnt at.lifetimes (refers at.place c, (p, (q, (v, (t, tt))))) answer (refers at.place c', (p, (q, (v, (t, tt)))))
Leaves at c (turn p) c' answer =
    turn-shard.Asked at.lifetimes (refers at.place c, (p, tt))
    → turn-shard.Learnt at.lifetimes (refers at.place c, (p, tt)) answer (refers at.place c', (p, tt))

pub record Returns (c : Cluster) (call : Call) (c' : Cluster) (answer : Answer) : Type 0 where
  pub at : Lent
  pub kept : Leaves at c call c' answer

-- every call may be made on a cluster that the public calls built, and keeps the promise `Steps`
keeps-to : (at : Lent) (c c' : Cluster) (call : Call) (answer : Answer) → Sound c → Leaves at c call c' answer → Steps c call answer c'
keeps-to at c c' (mint p i o a) answer sound x = x sound
keeps-to at c c' (register p t) answer sound x = x sound
keeps-to at c c' (deliver p q v t) answer sound x = x sound
keeps-to at c c' (turn p) answer sound x = x sound

pub promised : (c c' : Cluster) (call : Call) (answer : Answer) → Sound c → Returns c call c' answer → Steps c call answer c'
promised c c' call answer sound x = keeps-to x.at c c' call answer sound x.kept

-- what `new` left is fresh
pub started : {c : Cluster} → Starts c → Fresh c
started s = s.kept tt

-- the code as an engine, from a cluster that `new` left
abbrev pub code : (c₀ : Cluster) → Starts c₀ → Engine house
code c₀ starts = record {
  State = Cluster;
  view = view;
  Sound = Sound;
  Does = Returns;
  first = c₀;
  first-sound = (started starts).sound;
  first-empty = (started starts).empty;
  keeps = λ c c' call answer sound x. (promised c c' call answer sound x).sound;
  same_answer = λ c c' call answer sound x. (promised c c' call answer sound x).answered;
  same-ledgers = λ c c' call answer sound x. (promised c c' call answer sound x).ledgers;
}

-- THEOREM
pub demand_3 : (c₀ : Cluster) (starts : Starts c₀) {c : Cluster} {calls : List Call} {replies : List Answer}
    → Run (code c₀ starts) c₀ calls replies c → RunDemand (code c₀ starts) calls replies c
demand_3 c₀ starts run = run_demand_3 (code c₀ starts) run

-- THEOREM: in every such run 11 is never answered (document 02, 6)
pub never_eleven : (c₀ : Cluster) (starts : Starts c₀) {c : Cluster} {calls : List Call} {replies : List Answer}
    → Run (code c₀ starts) c₀ calls replies c → Memᴰ (Err NumberUnknown) replies → ⊥
never_eleven c₀ starts run = run_never_eleven (code c₀ starts) run

-- `findings_of`, lent this cluster and handed a shard and a number, may have returned this report
pub record Reports (c : Cluster) (p number : ℕ) (r : Report) : Type 0 where
  pub at : Lent
  pub kept : findings-of.Asked at.lifetimes (reads at.place c, (p, (number, tt)))
      → findings-of.Learnt at.lifetimes (reads at.place c, (p, (number, tt))) r (reads at.place c, (p, (number, tt)))

-- THEOREM: each finding that it reports, after every such run, is the true state of that token at that registration (document 02, 2)
pub true_findings : (c₀ : Cluster) (starts : Starts c₀) {c : Cluster} {calls : List Call} {replies : List Answer}
    → Run (code c₀ starts) c₀ calls replies c → {p number : ℕ} {found : Findings} {r : Report} → Reports c p number r
    → r ≡ Ok found → TrueFindings house calls p number (reported r)
true_findings c₀ starts {c} {calls} run {p} {number} {found} {r} x e =
    let is = x.kept (run_sound (code c₀ starts) (started starts).sound run) in
    subst (λ (y : Report). TrueFindings house calls p number (reported y)) (sym is)
    (run_true_findings (code c₀ starts) run p number found (sym is ∙ e))
