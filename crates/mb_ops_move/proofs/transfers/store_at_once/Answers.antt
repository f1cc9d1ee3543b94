use Rattle.std.proofs.Common.{◌∙◌, sym, refl, arith}
use Rattle.mb_ops_move.proofs.Done.{all_left, next_of, all_done, stored_next, stores_left, stores_done}
use Rattle.mb_ops_move.proofs.transfers.store_at_once.Goals as goal

pub loop-bit-init : goal.loop-bit-init
loop-bit-init g c = record {
  left = all_left c.args.movem.now c.args.ea c.ranges.ea.fits;
  told = refl;
  within = omega arith;
  few = omega arith;
  rest = refl;
}

pub loop-bit-preserved : goal.loop-bit-preserved
loop-bit-preserved g c =
    let m = c.args.movem.now in
    let plain = c.args.plain.now in
    let next = next_of m c.args.ea c.loop-bit.done c.loop-bit.from c.in-Some.bit c.loop-bit.invariant.left c.in-Some.ensures.next in
    let few = c.loop-bit.invariant.few in
    let onward = c.in-Some.ensures.onward in
    let range = c.in-Some.ensures.range in record {
      left = next.left;
      told = stored_next g.P.Port.bus m c.args.ea c.args.space c.loop-bit.done c.in-Some.bit c.in-Some-named_by.register plain
          c.register.result (g.P.Port.world c.args.port.now) (g.P.Port.world c.loop-bit.port) (g.P.Port.world c.write_at_once.new.port) next
          c.in-Some-named_by.ensures.value (c.in-Some-named_by.ensures.stored m.size plain ∙ sym c.register.ensures)
          (rw c.transfer_at-at.ensures.value at c.write_at_once.ensures.done c.if-not-write_at_once.false) c.loop-bit.invariant.told;
      within = omega (arith, range);
      few = omega (arith, few, onward);
      rest = c.write_at_once.ensures.rest ∙ c.loop-bit.invariant.rest;
    }

pub returns-in_default-named_by-clause-means : goal.returns-in_default-named_by-clause-means
returns-in_default-named_by-clause-means g c =
    stores_left g.P.Port.bus c.args.movem.now c.args.ea c.args.space c.loop-bit.done c.args.plain.now (g.P.Port.world c.args.port.now)
    (g.P.Port.world c.loop-bit.port) c.requires.store c.loop-bit.invariant.told

pub returns-then-not-write_at_once-clause-means : goal.returns-then-not-write_at_once-clause-means
returns-then-not-write_at_once-clause-means g c =
    rw (c.write_at_once.ensures.undone c.if-not-write_at_once.true)
    (stores_left g.P.Port.bus c.args.movem.now c.args.ea c.args.space c.loop-bit.done c.args.plain.now (g.P.Port.world c.args.port.now)
    (g.P.Port.world c.loop-bit.port) c.requires.store c.loop-bit.invariant.told)

pub returns-clause-means : goal.returns-clause-means
returns-clause-means g c =
    let m = c.args.movem.now in
    stores_done g.P.Port.bus m c.args.ea c.args.space c.loop-bit.done c.args.plain.now c.step_past.new.plain
    (g.P.Port.world c.args.port.now) (g.P.Port.world c.loop-bit.port) c.requires.store c.loop-bit.invariant.told
    (all_done m c.args.ea c.loop-bit.done c.loop-bit.from c.loop-bit.invariant.left c.in_default.ensures.none) c.step_past.ensures
