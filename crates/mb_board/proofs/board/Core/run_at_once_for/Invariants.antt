use Rattle.std.proofs.Common.{◌≡◌, ◌≤◌, ◌+◌, ◌-◌, ℕ, length}
use Rattle.mb_port.specs.declared.types.Space.TheVariants as space
use Rattle.mb_instr.specs.Registers.{plain_of}
use Rattle.mb_model.specs.Status.{space_of}
use Rattle.def_runs.specs.Native.{NativeState}
use Rattle.mb_board.specs.Calm.{IsCalm}
use Rattle.mb_board.specs.Spelling.{gathered, Begins, Leads, without_flow}
use Rattle.mb_board.proofs.board.Core.run_at_once_for.Given as goal

abbrev pub invariant-loop-left : goal.invariant-loop-left
invariant-loop-left l = record {
  calm : IsCalm l.self;
  space : space.User ≡ space_of l.self.cpu;
  digits : l.digits_here.sum ≡ without_flow (plain_of l.self.cpu.regs);
  within : l.left ≤ l.limit;
  leads : (native : NativeState) (begun steps : ℕ) → Begins (plain_of l.initial.self.cpu.regs) native (gathered begun steps l.initial.ends)
      → Leads l.limit (l.limit - l.left) l.initial.self l.self native (gathered begun (steps + (l.limit - l.left)) l.ends_here);
  ram : length l.self.world.ram ≡ length l.initial.self.world.ram;
}

abbrev pub decreases-loop-left : goal.decreases-loop-left
decreases-loop-left l = l.left
