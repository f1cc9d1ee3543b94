use Rattle.std.proofs.Common.{refl}
use Rattle.vm_guest.specs.Turns.{scene}
use Rattle.vm_debug.specs.Debugs.{with_break, without_break}
use Rattle.vm_debug.proofs.OnBoards.{steps_by, goes_by, only_breaks}
use Rattle.vm_debug.proofs.debugger.Debugger.carry_out.Goals as goal

pub returns-in-Step-clause-does : goal.returns-in-Step-clause-does
returns-in-Step-clause-does g c =
    rw c.in-Step.is
    (steps_by c.args.bound c.in-Step.steps c.up_to.result (scene c.args.guest.now c.args.board.now.world.ram c.args.native.now)
    (scene c.turn.new.self c.turn.new.board.world.ram c.turn.new.native) c.args.self.now c.up_to.ensures c.turn.ensures.takes)

pub returns-in-Go-clause-does : goal.returns-in-Go-clause-does
returns-in-Go-clause-does g c =
    rw c.in-Go.is
    (goes_by c.args.bound c.in-Go.steps c.up_to-in-Go.result (scene c.args.guest.now c.args.board.now.world.ram c.args.native.now)
    (scene c.go.new.guest c.go.new.board.world.ram c.go.new.native) c.args.self.now c.up_to-in-Go.ensures c.go.ensures.takes)

pub returns-in-Break-clause-does : goal.returns-in-Break-clause-does
returns-in-Break-clause-does g c =
    rw c.in-Break.is
    (only_breaks (scene c.args.guest.now c.args.board.now.world.ram c.args.native.now) (with_break c.in-Break.at c.args.self.now)
    c.add_break.new.self c.requires.seated c.add_break.ensures.added)

pub returns-in-Clear-clause-does : goal.returns-in-Clear-clause-does
returns-in-Clear-clause-does g c =
    rw c.in-Clear.is
    (only_breaks (scene c.args.guest.now c.args.board.now.world.ram c.args.native.now) (without_break c.in-Clear.at c.args.self.now)
    c.clear_break.new.self c.requires.seated c.clear_break.ensures.removed)

pub returns-in-Regs-clause-does : goal.returns-in-Regs-clause-does
returns-in-Regs-clause-does g c =
    rw c.in-Regs.is
    (only_breaks (scene c.args.guest.now c.args.board.now.world.ram c.args.native.now) c.args.self.now c.args.self.now c.requires.seated refl)

pub returns-in-Mem-clause-does : goal.returns-in-Mem-clause-does
returns-in-Mem-clause-does g c =
    rw c.in-Mem.is
    (only_breaks (scene c.args.guest.now c.args.board.now.world.ram c.args.native.now) c.args.self.now c.args.self.now c.requires.seated refl)

pub returns-in-Kept-clause-does : goal.returns-in-Kept-clause-does
returns-in-Kept-clause-does g c =
    rw c.in-Kept.is
    (only_breaks (scene c.args.guest.now c.args.board.now.world.ram c.args.native.now) c.args.self.now c.args.self.now c.requires.seated refl)
