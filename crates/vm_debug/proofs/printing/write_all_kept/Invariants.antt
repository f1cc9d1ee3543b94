use Rattle.std.proofs.Common.{◌-◌, ◌≤◌, length, take}
use Rattle.std.specs.List.{flat_map}
use Rattle.mb_report.specs.Buffered.{Buffers}
use Rattle.mb_report.specs.Kept.{kept_line}
use Rattle.vm_debug.proofs.printing.write_all_kept.Given as goal

abbrev pub invariant-loop-kept : goal.invariant-loop-kept
invariant-loop-kept g l = record {
  few : l.place ≤ length l.guest.kept;
  text : Buffers l.initial.text l.text (g.O.Sink.taken l.initial.out) (g.O.Sink.taken l.out)
      (g.O.Sink.faults l.initial.out) (g.O.Sink.faults l.out) (flat_map kept_line (take l.place l.guest.kept));
}

abbrev pub decreases-loop-kept : goal.decreases-loop-kept
decreases-loop-kept g l = length l.guest.kept - l.place
