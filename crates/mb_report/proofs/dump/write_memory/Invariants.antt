use Rattle.mb_report.specs.Buffered.{Buffers}
use Rattle.mb_report.specs.Text.{memory_line, first_rows}
use Rattle.mb_report.proofs.dump.write_memory.Given as goal

abbrev pub invariant-loop-row : goal.invariant-loop-row
invariant-loop-row g l = Buffers l.initial.text l.text (g.O.Sink.taken l.initial.out) (g.O.Sink.taken l.out)
    (g.O.Sink.faults l.initial.out) (g.O.Sink.faults l.out) (first_rows memory_line 16 l.ram l.row)
