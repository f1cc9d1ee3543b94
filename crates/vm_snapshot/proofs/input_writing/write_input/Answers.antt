use Rattle.std.proofs.Common.{◌<◌, length, refl, [], arith}
use Rattle.mb_report.proofs.BufferLemmas.{buffers_nothing}
use Rattle.vm_snapshot.proofs.Writings.{written_more, written_whole}
use Rattle.vm_snapshot.proofs.input_writing.write_input.Goals as goal

pub loop-place-init : goal.loop-place-init
loop-place-init g c = record { part = []; buffers = buffers_nothing _ _ _; rest = refl }

pub loop-place-preserved : goal.loop-place-preserved
loop-place-preserved g c =
    let l = c.loop-place in
    let inside : l.place < length c.args.script.now = omega (arith, c.loop-place-test.true, c.count-place-end.ensures.counted) in
    rw c.open_at-begun.ensures (written_more l.invariant inside c.write_at.ensures)

pub returns : goal.returns
returns g c =
    written_whole c.loop-place.invariant (omega (arith, c.loop-place-test.false, c.count-place-end.ensures.counted)) c.close.ensures
