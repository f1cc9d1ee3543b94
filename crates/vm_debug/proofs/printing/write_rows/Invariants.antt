use Rattle.std.proofs.Common.{◌<◌, ◌^◌}
use Rattle.vm_debug.proofs.Rows.{RowsWritten}
use Rattle.vm_debug.proofs.printing.write_rows.Given as goal

abbrev pub invariant-loop-row : goal.invariant-loop-row
invariant-loop-row g l = record {
  rows : RowsWritten l.ram l.at l.count l.place l._row l.initial.text l.text (g.O.Sink.taken l.initial.out) (g.O.Sink.taken l.out)
      (g.O.Sink.faults l.initial.out) (g.O.Sink.faults l.out);
  place : l.place < 2 ^ 32;
}
