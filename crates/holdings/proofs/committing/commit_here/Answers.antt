use Rattle.holdings.proofs.Tokens.{commit-room, committed}
use Rattle.holdings.proofs.committing.commit_here.Goals as goal

-- What the commit leaves fits, so that there is room for the outputs here.
pub make-requires : goal.make-requires
make-requires c =
    let here = c.inputs_here-inputs.result in
    commit-room c.args.me c.args.t here c.inputs_here-inputs.ensures
    c.args.s.now _ c.requires.0 c.destroy.ensures c.requires.1

pub returns : goal.returns
returns c =
    let here = c.inputs_here-inputs.result in
    committed c.args.me c.args.t here c.inputs_here-inputs.ensures
    c.args.s.now _ c.requires.0 c.destroy.ensures _ c.make.ensures
