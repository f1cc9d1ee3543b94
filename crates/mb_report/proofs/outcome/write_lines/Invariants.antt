use Rattle.std.proofs.Common.{take}
use Rattle.std.specs.List.{flat_map}
use Rattle.mb_report.specs.Buffered.{Buffers}
use Rattle.mb_report.specs.Text.{line_text}
use Rattle.mb_report.specs.Lines.{line_of}
use Rattle.mb_report.proofs.outcome.write_lines.Given as goal

abbrev pub invariant-loop-line : goal.invariant-loop-line
invariant-loop-line g l = Buffers l.initial.text l.text (g.O.Sink.taken l.initial.out) (g.O.Sink.taken l.out)
    (g.O.Sink.faults l.initial.out) (g.O.Sink.faults l.out)
    (flat_map (λ line. line_text (line_of line)) (take l.line-index l.lines))
