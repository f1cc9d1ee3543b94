use Rattle.std.proofs.Common.{◌+◌, ◌≤◌}
use Rattle.vm_guest.specs.Turns.{scene, RisesByAtMost}
use Rattle.vm_debug.proofs.OnBoards.{GoesOn}
use Rattle.vm_debug.proofs.debugger.Debugger.step_until.Given as goal

abbrev pub invariant-loop-step : goal.invariant-loop-step
invariant-loop-step l = record {
  goes : GoesOn l.self l.limit l._step (scene l.initial.guest l.initial.board.world.ram l.initial.native)
      (scene l.guest l.board.world.ram l.native);
  few : l.guest.steps ≤ l.initial.guest.steps + l._step;
  native : RisesByAtMost l.initial.guest.steps l.guest.steps l.initial.native l.native;
}
