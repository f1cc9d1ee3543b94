use Rattle.std.proofs.Common.{◌≡◌, length, map, take, drop}
use Rattle.std.specs.Vec.Iter.{into_iter_items, into_iter_len}
use Rattle.vm_slices.specs.Places.{members_in}
use Rattle.mb_program.specs.Saved.{all_become, left_said}
use Rattle.mb_program.proofs.resumed.adopt_all.Given as goal

abbrev pub invariant-loop-machine : goal.invariant-loop-machine
invariant-loop-machine l = record {
  rest : into_iter_len l.machine-iterator ≡ length (into_iter_items l.machine-iterator);
  left : drop l.number l.fn.machines.items ≡ into_iter_items l.machine-iterator;
  members : members_in l.host ≡ all_become (take l.number (map left_said l.fn.machines.items)) (members_in l.initial.host);
  slice : l.host.slice ≡ l.initial.host.slice;
}
