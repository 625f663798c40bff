use Rattle.std.proofs.Common.{refl, arith, rules}
use Rattle.model.specs.Steps.{pledge_when}
use Rattle.loops.proofs.Places.{place-start, place-stays, place_end}
use Rattle.layout.specs.Layout.{tokens_of, view, no_token}
use Rattle.layout.proofs.Slots.{length-tokens}
use Rattle.holdings.proofs.Tokens.{again, as_many, picked_if, picked-not, place-next}
use Rattle.holdings.proofs.pledging.pledge_where.Goals as goal
use Rattle.holdings.proofs.pledging.pledge_where.Goals.{then-picks, else-picks}

pub loop-k-init : goal.loop-k-init
loop-k-init g c = record {
  count = c.held-k-end.ensures;
  same = record { is = refl; long = c.requires.room.long };
  pledged = λ test tells. place-start (omega (arith, length-tokens c.args.s.now));
}

-- The test picks the token at k, which is pledged; or it does not, and the token stays as it is.
pub loop-k-preserved : goal.loop-k-preserved
loop-k-preserved g c =
    let number = c.args.number in
    let ws = c.args.s.now in
    elim c.if-picks.branch [
      | then-picks w ↦
          rw w.s-is (record {
            count = c.loop-k.invariant.count;
            same = again ws c.loop-k.s _ c.loop-k.invariant.same w.put_pledge.ensures;
            pledged = λ test tells.
                place-next (pledge_when number test) (tokens_of ws) c.held-k-end.result c.loop-k.s _ c.loop-k.k
                (c.loop-k.invariant.pledged test tells) (search rules)
                (picked_if number test (tells _ _ c.picks.ensures) c.token_at.ensures w.if-picks.true) w.put_pledge.ensures;
          })
      | else-picks w ↦
          rw w.s-is (record {
            count = c.loop-k.invariant.count;
            same = c.loop-k.invariant.same;
            pledged = λ test tells.
                place-stays no_token (c.loop-k.invariant.pledged test tells) (search rules)
                (picked-not number test (tells _ _ c.picks.ensures) c.token_at.ensures w.if-picks.false);
          })
    ]

-- All tokens held have had their turn.
pub returns : goal.returns
unfolding view
returns g c test tells =
    let pledged = place_end (c.loop-k.invariant.pledged test tells) (search rules) in
    as_many c.args.s.now c.loop-k.s c.loop-k.invariant.same c.requires.room.held (rw (← c.loop-k.invariant.count) pledged)
