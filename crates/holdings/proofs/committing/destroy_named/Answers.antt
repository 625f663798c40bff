use Rattle.std.proofs.Common.{[], ◌∷◌, refl, arith, rules}
use Rattle.model.specs.Steps.{stays}
use Rattle.loops.proofs.Places.{pack_start, pack_out, pack_end}
use Rattle.layout.specs.Layout.{tokens_of, view, no_token}
use Rattle.layout.proofs.Slots.{length-tokens}
use Rattle.holdings.specs.Held.{destroying}
use Rattle.holdings.proofs.Tokens.{again, counted, stays_if, stays-not, pack_next}
use Rattle.holdings.proofs.committing.destroy_named.Goals as goal
use Rattle.holdings.proofs.committing.destroy_named.Goals.{then-not-names_token, else-not-names_token}

pub loop-k-init : goal.loop-k-init
loop-k-init c = record {
  held = c.held-n.ensures;
  same = record { is = refl; long = c.requires.long };
  packed = pack_start (omega (arith, length-tokens c.args.s.now));
}

-- The input does not name the token at k, which moves to the others that stay; or it names the token, which goes.
pub loop-k-preserved : goal.loop-k-preserved
loop-k-preserved c =
    let x = c.args.x in
    let ws = c.args.s.now in
    elim c.if-not-names_token.branch [
      | then-not-names_token w ↦
          let stay = stays_if x c.names_token.ensures c.token_at-token.ensures (rw w.if-not-names_token.true refl) in
          rw (w.s-is, w.count-is) (record {
            held = c.loop-k.invariant.held;
            same = again ws c.loop-k.s _ c.loop-k.invariant.same w.put_token.ensures;
            packed =
                pack_next (stays (x ∷ [])) (tokens_of ws) c.held-n.result c.loop-k.s _ c.loop-k.count c.loop-k.k
                c.loop-k.invariant.packed (search rules) stay c.token_at-token.ensures w.put_token.ensures;
          })
      | else-not-names_token w ↦
          let goes = stays-not x c.names_token.ensures c.token_at-token.ensures (rw w.if-not-names_token.false refl) in
          rw (w.s-is, w.count-is) (record {
            held = c.loop-k.invariant.held;
            same = c.loop-k.invariant.same;
            packed = pack_out no_token c.loop-k.invariant.packed (search rules) goes;
          })
    ]

-- All tokens held have had their turn: those before the count are held.
pub returns : goal.returns
unfolding view destroying
returns c =
    let packed = pack_end c.loop-k.invariant.packed (search rules) in
    counted c.args.s.now c.loop-k.s c.loop-k.invariant.same _ c.loop-k.count
    c.set_held.ensures (omega arith) (rw (← c.loop-k.invariant.held) packed)
