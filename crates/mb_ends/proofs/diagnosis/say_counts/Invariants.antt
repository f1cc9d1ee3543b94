use Rattle.std.proofs.Common.{take}
use Rattle.mb_outside.specs.Prints.{Printed}
use Rattle.vm_slices.specs.Places.{members_in}
use Rattle.vm_slices.specs.Members.{tallies_of}
use Rattle.mb_ends.specs.Texts.{texts_from}
use Rattle.mb_ends.specs.Lines.{counts_line}
use Rattle.mb_ends.proofs.diagnosis.say_counts.Given as goal

abbrev pub invariant-loop-index : goal.invariant-loop-index
invariant-loop-index g l = Printed (g.E.Sink.taken l.initial.diag) (g.E.Sink.taken l.diag)
    (g.E.Sink.faults l.initial.diag) (g.E.Sink.faults l.diag) (texts_from counts_line 1 (take l.index (tallies_of (members_in l.host))))
