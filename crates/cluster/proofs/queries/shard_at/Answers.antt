use Rattle.std.proofs.Common.{ℕ, List, [], Option, Some, None, Bor, arith}
use Rattle.std.specs.Prelude.{MatchOption}
use Rattle.std.specs.Slice.{IsItemAt}
use Rattle.cluster.specs.View.{Sound, NoShard, IsShard}
use Rattle.cluster.proofs.Asked.{is-shard, no-shard-at}
use Rattle.cluster.proofs.queries.shard_at.Goals as goal

-- A place below eight has a shard's words, which are found there.
finds : {c : List (List ℕ)} (sound : Sound c) (p : ℕ) (r : Option (Bor (List ℕ))) → IsItemAt c p r
    → MatchOption r (NoShard c p) (λ s. IsShard c p s.now)
finds sound p None k = no-shard-at sound (omega (arith, sound.eight, k.3))
finds sound p (Some s) k = is-shard sound (omega (arith, sound.eight, k.3.0)) (k.4 (omega arith) [])

pub returns : goal.returns
returns c = finds c.requires c.args.number c.get.result (rw c.from.ensures at c.get.ensures.lookup)
