use Rattle.std.proofs.Common.{ap}
use Rattle.transaction.specs.Tokens.{zero_output}
use Rattle.model.specs.Steps.{tokens_from, made_here}
use Rattle.holdings.proofs.Tokens.{make-start, make-room, make-next, make_end}
use Rattle.holdings.proofs.committing.make.Goals as goal

pub loop-i-init : goal.loop-i-init
loop-i-init c = make-start c.args.me c.args.t.number c.used_outputs-y-items.result.now c.args.s.now c.requires.0

-- There is room for the tokens of all outputs, so for that of one more.
pub make_one-requires : goal.make_one-requires
unfolding made_here
make_one-requires c =
    make-room c.args.me c.args.t.number c.used_outputs-y-items.result.now c.args.s.now c.loop-i.s c.loop-i.i zero_output
    c.loop-i-test.true c.loop-i.invariant (rw c.used_outputs-y-items.ensures c.requires)

-- One output's token more.
pub loop-i-preserved : goal.loop-i-preserved
loop-i-preserved c =
    make-next c.args.me c.args.t.number c.used_outputs-y-items.result.now c.args.s.now c.loop-i.s c.loop-i.i zero_output
    c.loop-i-test.true c.loop-i.invariant c.make_one.new.s c.make_one.ensures

pub returns : goal.returns
unfolding made_here
returns c =
    make_end c.args.me c.args.t.number c.used_outputs-y-items.result.now c.args.s.now c.loop-i.s c.loop-i.i (made_here c.args.me c.args.t)
    c.loop-i-test.false (ap (tokens_from c.args.me c.args.t.number 0) c.used_outputs-y-items.ensures) c.loop-i.invariant
