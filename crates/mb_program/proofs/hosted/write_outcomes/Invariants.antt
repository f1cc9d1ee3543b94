use Rattle.std.proofs.Common.{take}
use Rattle.mb_outside.specs.Prints.{Printed}
use Rattle.vm_slices.specs.Places.{members_in}
use Rattle.vm_slices.specs.Members.{machines_of}
use Rattle.mb_program.specs.Headline.{machine_text}
use Rattle.mb_ends.specs.Texts.{texts_from}
use Rattle.mb_program.proofs.hosted.write_outcomes.Given as goal

abbrev pub invariant-loop-index : goal.invariant-loop-index
invariant-loop-index g l = Printed (g.O.Sink.taken l.initial.out) (g.O.Sink.taken l.out)
    (g.O.Sink.faults l.initial.out) (g.O.Sink.faults l.out) (texts_from machine_text 1 (take l.index (machines_of (members_in l.host))))
