use Rattle.std.proofs.Common.{take}
use Rattle.std.specs.List.{flat_map}
use Rattle.mb_report.specs.Buffered.{Buffers}
use Rattle.mb_report.specs.Kept.{kept_line}
use Rattle.vm_snapshot.proofs.guest_writing.write_all_kept.Given as goal

abbrev pub invariant-loop-entry : goal.invariant-loop-entry
invariant-loop-entry g l = Buffers l.initial.text l.text (g.O.Sink.taken l.initial.out) (g.O.Sink.taken l.out)
    (g.O.Sink.faults l.initial.out) (g.O.Sink.faults l.out) (flat_map kept_line (take l.entry-index l.kept))
