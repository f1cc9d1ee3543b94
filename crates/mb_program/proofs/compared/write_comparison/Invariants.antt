use Rattle.std.proofs.Common.{◌≡◌, length, map, take, drop, Bool}
use Rattle.std.specs.List.{list_all}
use Rattle.std.specs.Vec.Iter.{into_iter_items, into_iter_len}
use Rattle.mb_outside.specs.Prints.{Printed}
use Rattle.vm_slices.specs.Places.{members_in}
use Rattle.mb_ends.specs.Texts.{texts_from}
use Rattle.mb_program.specs.Answers.{compared_text}
use Rattle.mb_program.specs.Compares.{ahead_of, same_each}
use Rattle.mb_program.proofs.compared.write_comparison.Given as goal

abbrev pub invariant-loop-machine : goal.invariant-loop-machine
invariant-loop-machine g l = record {
  rest : into_iter_len l.machine-iterator ≡ length (into_iter_items l.machine-iterator);
  left : drop l.number l.fn.machines.items ≡ into_iter_items l.machine-iterator;
  printed : Printed (g.O.Sink.taken l.initial.out) (g.O.Sink.taken l.out) (g.O.Sink.faults l.initial.out) (g.O.Sink.faults l.out)
      (texts_from compared_text 1 (take l.number (same_each (map ahead_of l.fn.machines.items) (members_in l.host))));
  all : l.all_same ≡ list_all (λ (same : Bool). same) (take l.number (same_each (map ahead_of l.fn.machines.items) (members_in l.host)));
}
