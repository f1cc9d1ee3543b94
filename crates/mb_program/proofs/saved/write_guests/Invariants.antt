use Rattle.std.proofs.Common.{take}
use Rattle.std.specs.Prelude.{All}
use Rattle.mb_outside.specs.Prints.{Printed}
use Rattle.vm_slices.specs.Places.{members_in}
use Rattle.vm_snapshot.specs.Shown.{CanBeTold}
use Rattle.mb_ends.specs.Texts.{texts_from}
use Rattle.mb_program.specs.Saved.{shown_by, shown_text}
use Rattle.mb_program.proofs.saved.write_guests.Given as goal

abbrev pub invariant-loop-index : goal.invariant-loop-index
invariant-loop-index g l = record {
  printed : Printed (g.O.Sink.taken l.initial.out) (g.O.Sink.taken l.out)
      (g.O.Sink.faults l.initial.out) (g.O.Sink.faults l.out) (texts_from shown_text 1 (take l.index (shown_by (members_in l.host))));
  told : All CanBeTold (take l.index (shown_by (members_in l.host)));
}
