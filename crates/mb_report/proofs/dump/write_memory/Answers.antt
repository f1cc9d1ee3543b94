use Rattle.std.proofs.Common.{◌*◌, take, drop, add-one}
use Rattle.mb_report.proofs.BufferLemmas.{buffers_nothing, buffers_then}
use Rattle.mb_report.specs.Text.{memory_line}
use Rattle.mb_report.proofs.dump.write_memory.Goals as goal

pub loop-row-init : goal.loop-row-init
loop-row-init g c = buffers_nothing _ _ _

pub loop-row-preserved : goal.loop-row-preserved
loop-row-preserved g c =
    let row = c.loop-row.row in
    let at = 16 * row in
    let added = rw c.row_at.ensures.row at c.write_memory_row.ensures in
    rw (add-one row) (buffers_then {y = memory_line at (take 16 (drop at c.args.ram.now))} c.loop-row.invariant added)
