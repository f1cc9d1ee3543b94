use Rattle.std.proofs.Common.{add-one}
use Rattle.mb_report.proofs.BufferLemmas.{buffers_nothing, buffers_then}
use Rattle.mb_report.proofs.dump.write_dump.Goals as goal

pub loop-row-init : goal.loop-row-init
loop-row-init g c = buffers_nothing _ _ _

pub loop-row-preserved : goal.loop-row-preserved
loop-row-preserved g c =
    let added = rw (c.deref.ensures.0, c.dump_line.ensures, c.row_at.ensures.row) at c.add.ensures in
    rw (add-one c.loop-row.row) (buffers_then c.loop-row.invariant added)
