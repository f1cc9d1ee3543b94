use Rattle.std.proofs.Common.{◌≡◌, ◌+◌, ◌-◌, ◌≤◌}
use Rattle.vm_guest.specs.Native.{IsFrameOf}
use Rattle.vm_guest.specs.Stops.{IsStopped, Stopped}
use Rattle.vm_guest.proofs.guest.Guest.end_step.Given as goal

abbrev pub invariant-loop-refills : goal.invariant-loop-refills
invariant-loop-refills l = record {
  few : l.refills ≤ 31;
  stopped : (w : Stopped l.initial.self l.initial.board l.initial.native l.first)
      → IsStopped w.guest w.ram w.native w.taken l.refills l.self l.board l.native l.vector;
  reads : IsFrameOf l.board l.frame;
  tally : l.self.tally ≡ l.initial.self.tally;
  steps : l.self.steps ≡ l.initial.self.steps;
  retired : l.native.retired ≡ l.initial.native.retired;
  exceptions : l.native.exceptions ≤ l.initial.native.exceptions + l.refills;
}

abbrev pub decreases-loop-refills : goal.decreases-loop-refills
decreases-loop-refills l = 31 - l.refills
