use Rattle.std.proofs.Common.{◌≡◌, ◌+◌, ◌*◌, ◌-◌, ◌≤◌, true}
use Rattle.def_guests.specs.Seats.{Takes}
use Rattle.vm_guest.specs.Stops.{IsReady}
use Rattle.vm_guest.specs.Turns.{scene}
use Rattle.vm_guest.proofs.guest.Guest.take_steps.Given as goal

abbrev pub invariant-loop-left : goal.invariant-loop-left
invariant-loop-left l = record {
  few : l.left ≤ l.limit;
  takes : Takes (l.limit - l.left) (scene l.initial.self l.initial.board.world.ram l.initial.native) (scene l.self l.board.world.ram l.native);
  steps : l.self.steps ≡ l.initial.self.steps + (l.limit - l.left);
  retired : l.native.retired ≤ l.initial.native.retired + (l.limit - l.left);
  ready : l.ready ≡ true → IsReady l.self l.board;
  exceptions : l.native.exceptions ≤ l.initial.native.exceptions + 32 * (l.limit - l.left);
}

abbrev pub decreases-loop-left : goal.decreases-loop-left
decreases-loop-left l = l.left
