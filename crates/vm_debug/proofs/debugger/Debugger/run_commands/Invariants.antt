-- The commands so far were carried out, and their lines were printed.
use Rattle.std.proofs.Common.{take}
use Rattle.vm_guest.specs.Turns.{scene}
use Rattle.vm_debug.proofs.Carried.{Carried}
use Rattle.vm_debug.proofs.debugger.Debugger.run_commands.Given as goal

abbrev pub invariant-loop-command : goal.invariant-loop-command
invariant-loop-command g l =
    Carried l.bound (take l.command-index l.commands) (scene l.initial.guest l.initial.board.world.ram l.initial.native)
    (scene l.guest l.board.world.ram l.native) l.initial.self l.self
    (g.O.Sink.taken l.initial.out) (g.O.Sink.taken l.out) (g.O.Sink.faults l.initial.out) (g.O.Sink.faults l.out)
