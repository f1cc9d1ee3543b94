use Rattle.vm_snapshot.specs.Views.{so_far_seen}
use Rattle.vm_snapshot.proofs.InputLoop.{Entering}
use Rattle.vm_snapshot.proofs.input_reading.entries.Given as goal

abbrev pub invariant-loop-left : goal.invariant-loop-left
invariant-loop-left l = Entering l.initial.reader l.reader l.count l.left (so_far_seen l.so_far) l.entries.items

abbrev pub decreases-loop-left : goal.decreases-loop-left
decreases-loop-left l = l.left
