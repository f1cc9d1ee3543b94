use Rattle.std.proofs.Common.{◌≡◌, ◌-◌, ◌<◌, length}
use Rattle.mb_instr.specs.Registers.{plain_of}
use Rattle.mb_board.specs.Spelling.{gathered, Leads, without_flow}
use Rattle.mb_board.proofs.board.Core.run.Given as goal

abbrev pub invariant-loop-left : goal.invariant-loop-left
invariant-loop-left l = record {
  within : l.left < l.limit;
  leads : Leads (l.limit - 1) (l.limit - 1 - l.left) l.initial.self l.self l.initial.native (gathered l.begun (l.limit - 1 - l.left) l.ends);
  digits : l.digits.sum ≡ without_flow (plain_of l.self.cpu.regs);
  native : l.native ≡ l.initial.native;
  ram : length l.self.world.ram ≡ length l.initial.self.world.ram;
}

abbrev pub decreases-loop-left : goal.decreases-loop-left
decreases-loop-left l = l.left
