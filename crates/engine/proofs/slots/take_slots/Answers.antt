-- Slot by slot: the first that does not fit decides, and where all fit their words stand in one run.
use Rattle.std.proofs.Common.{◌≡◌, ◌∙◌, sym, arith, refl}
use mathlib.Core.Bool.{false≢true}
use Rattle.engine.proofs.Taken.{none-passed, one-more, unfit-at, all-fit, next-run, whole-run}
use Rattle.engine.proofs.slots.take_slots.Goals as goal

pub loop-k-init : goal.loop-k-init
loop-k-init g c = record {
  fit = none-passed (g.S.Taken.read_at c.args.bytes.now) g.S.Taken.SIZE c.args.at g.S.Taken.used_fits g.S.Taken.unused_fits c.args.count;
  stored = refl;
}

pub returns-then-not-take_slot : goal.returns-then-not-take_slot
returns-then-not-take_slot g c =
    let test = rw (c.from.ensures, c.SIZE.ensures) at c.take_slot.ensures.answered in
    let fails =
    unfit-at (g.S.Taken.read_at c.args.bytes.now) g.S.Taken.SIZE c.args.at g.S.Taken.used_fits g.S.Taken.unused_fits c.args.count
    c.loop-k.k c.loop-k-test.true c.loop-k.invariant.fit (sym test ∙ c.if-not-take_slot.true) in
    record { answered = fails; stored = λ e. absurd (false≢true e) }

pub loop-k-preserved : goal.loop-k-preserved
loop-k-preserved g c =
    let read = g.S.Taken.read_at c.args.bytes.now in
    let test = rw (c.from.ensures, c.SIZE.ensures) at c.take_slot.ensures.answered in
    let words = rw c.SIZE.ensures at c.take_slot.ensures.stored in
    record {
      fit =
          one-more read g.S.Taken.SIZE c.args.at g.S.Taken.used_fits g.S.Taken.unused_fits c.args.count
          c.loop-k.k c.loop-k.invariant.fit (sym test ∙ c.if-not-take_slot.false);
      stored =
          next-run g.S.Slot.in_words g.S.Taken.SIZE read c.args.at g.row.N g.met.S.Slot.long c.loop-k.k c.args.to c.args.fields.now
          c.loop-k.invariant.stored words;
    }

pub returns : goal.returns
returns g c =
    let read = g.S.Taken.read_at c.args.bytes.now in
    let four : c.loop-k.k ≡ 4 = omega arith in
    record {
      answered =
          all-fit read g.S.Taken.SIZE c.args.at g.S.Taken.used_fits g.S.Taken.unused_fits c.args.count
          c.loop-k.k c.loop-k-test.false c.loop-k.invariant.fit;
      stored = λ _. (rw four at c.loop-k.invariant.stored) ∙ rw (whole-run g.S.Slot.in_words g.S.Taken.SIZE read c.args.at) refl;
    }
