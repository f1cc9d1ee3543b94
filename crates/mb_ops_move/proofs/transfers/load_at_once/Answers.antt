use Rattle.std.proofs.Common.{ℕ, ◌∙◌, ap, sym, refl, arith}
use Rattle.mb_instr.specs.Registers.{with_register}
use Rattle.mb_ops_move.proofs.Done.{all_left, next_of, all_done, loaded_next, loads_left, loads_done}
use Rattle.mb_ops_move.proofs.transfers.load_at_once.Goals as goal

pub loop-bit-init : goal.loop-bit-init
loop-bit-init g c = record {
  left = all_left c.args.movem.now c.args.ea c.ranges.ea.fits;
  told = refl;
  within = omega arith;
  few = omega arith;
}

pub loop-bit-preserved : goal.loop-bit-preserved
loop-bit-preserved g c =
    let m = c.args.movem.now in
    let now = c.loop-bit.plain in
    let register = c.in-Some-named_by.register in
    let next = next_of m c.args.ea c.loop-bit.done c.loop-bit.from c.in-Some.bit c.loop-bit.invariant.left c.in-Some.ensures.next in
    let into =
    c.in-Some-named_by.ensures.loaded m.size now c.in-Some-read_at_once.value
    ∙ ap (λ (n : ℕ). with_register now register n) (sym c.sign_extend.ensures) ∙ sym c.set_register.ensures in
    let few = c.loop-bit.invariant.few in
    let onward = c.in-Some.ensures.onward in
    let range = c.in-Some.ensures.range in record {
      left = next.left;
      told = loaded_next g.P.Port.bus m c.args.ea c.args.space c.loop-bit.done c.in-Some.bit register c.args.plain.now now
          c.set_register.new.self c.in-Some-read_at_once.value (g.P.Port.world c.args.port.now) next c.in-Some-named_by.ensures.value
          (rw c.transfer_at-at.ensures.value at c.in-Some-read_at_once.ensures.means) into c.loop-bit.invariant.told;
      within = omega (arith, range);
      few = omega (arith, few, onward);
    }

pub returns-in_default-named_by-clause-means : goal.returns-in_default-named_by-clause-means
returns-in_default-named_by-clause-means g c =
    loads_left g.P.Port.bus c.args.movem.now c.args.ea c.args.space c.loop-bit.done c.args.plain.now c.loop-bit.plain
    (g.P.Port.world c.args.port.now) c.requires.load c.loop-bit.invariant.told

pub returns-in_default-read_at_once-clause-means : goal.returns-in_default-read_at_once-clause-means
returns-in_default-read_at_once-clause-means g c =
    loads_left g.P.Port.bus c.args.movem.now c.args.ea c.args.space c.loop-bit.done c.args.plain.now c.loop-bit.plain
    (g.P.Port.world c.args.port.now) c.requires.load c.loop-bit.invariant.told

pub returns-clause-means : goal.returns-clause-means
returns-clause-means g c =
    let m = c.args.movem.now in
    loads_done g.P.Port.bus m c.args.ea c.args.space c.loop-bit.done c.args.plain.now c.loop-bit.plain c.step_past.new.plain
    (g.P.Port.world c.args.port.now) c.requires.load c.loop-bit.invariant.told
    (all_done m c.args.ea c.loop-bit.done c.loop-bit.from c.loop-bit.invariant.left c.in_default.ensures.none) c.step_past.ensures
