use Rattle.vm_snapshot.proofs.KeptSteps.{KeptGoing}
use Rattle.vm_snapshot.proofs.kept_reading.entries.Given as goal

abbrev pub invariant-loop-left : goal.invariant-loop-left
invariant-loop-left l = KeptGoing l.initial.reader l.reader l.count l.left l.kept.items

abbrev pub decreases-loop-left : goal.decreases-loop-left
decreases-loop-left l = l.left
