use Rattle.mb_report.proofs.BufferLemmas.{buffers_then, buffers_printed}
use Rattle.vm_snapshot.proofs.guest_writing.write_head.Goals as goal

pub returns : goal.returns
returns g c =
    let board = rw c.from.ensures at c.write_count.ensures in
    let slice = rw c.from-2.ensures at c.write_count-2.ensures in
    let guests = rw c.from-3.ensures at c.write_count-3.ensures in
    buffers_printed _ _ _ _ _ _ _ _ _ _ c.new-text.ensures.held c.new-text.ensures.so_far
    (buffers_then (buffers_then (buffers_then c.add.ensures board) slice) guests) c.finish.ensures
