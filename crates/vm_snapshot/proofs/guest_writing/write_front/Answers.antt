use Rattle.mb_report.proofs.BufferLemmas.{buffers_then, buffers_printed}
use Rattle.vm_snapshot.proofs.guest_writing.write_front.Goals as goal

pub returns : goal.returns
returns g c =
    let ram = rw c.from.ensures at c.write_count.ensures in
    let lines = rw (c.from-2.ensures, c.line_count.ensures.count) at c.write_count-3.ensures in
    record {
      prints =
          buffers_printed _ _ _ _ _ _ _ _ _ _ c.new-text.ensures.held c.new-text.ensures.so_far
          (buffers_then (buffers_then (buffers_then (buffers_then ram c.write_count-2.ensures) c.write_all_kept.ensures) lines) c.write_input.ensures)
          c.finish.ensures;
      entries = c.line_count.ensures.entries;
    }
