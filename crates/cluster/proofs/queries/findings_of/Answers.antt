use Rattle.std.proofs.Common.{List, ℕ, Bor, Err, ap, ◌∙◌}
use Rattle.std.proofs.lemmas.Option.{MatchOption-at_none}
use Rattle.shard.proofs.Reports.{refusal-of}
use Rattle.shard.proofs.Tables.{passed_on}
use Rattle.cluster.specs.View.{NoShard, IsShard}
use Rattle.cluster.proofs.Asked.{report-none}
use Rattle.cluster.proofs.queries.findings_of.Goals as goal

pub returns-in_err-s : goal.returns-in_err-s
returns-in_err-s c =
    let found = λ (s : Bor (List ℕ)). IsShard c.args.c.now c.args.number s.now in
    let none = MatchOption-at_none (NoShard c.args.c.now c.args.number) found c.in_err-s.ensures.ok_part c.shard_at.ensures in
    passed_on c.from_residual.result c.from_residual.ensures.1
    ∙ ap Err (refusal-of c.shard_at.result c.in_err-s.ensures.value)
    ∙ report-none c.requires c.args.number c.args.transaction none.above
