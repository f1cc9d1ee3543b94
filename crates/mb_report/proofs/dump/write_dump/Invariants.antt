use Rattle.mb_report.specs.Buffered.{Buffers}
use Rattle.mb_report.specs.Text.{dump_line, first_rows}
use Rattle.mb_report.proofs.dump.write_dump.Given as goal

abbrev pub invariant-loop-row : goal.invariant-loop-row
invariant-loop-row g l = Buffers l.initial.text l.text (g.O.Sink.taken l.initial.out) (g.O.Sink.taken l.out)
    (g.O.Sink.faults l.initial.out) (g.O.Sink.faults l.out) (first_rows dump_line 32 l.bytes l.row)
