-- What no call of a board's bus changes.
use Rattle.std.specs.Prelude.{ℕ, [], length}
use Rattle.mb_instr.specs.declared.registers.Plain.{Plain}
use Rattle.mb_model.specs.declared.processor.Cpu.{Cpu}
use Rattle.mb_model.specs.declared.outcome.RunState.{RunState}
use Rattle.def_machine.specs.World.{World}
use Rattle.mb_board.specs.State.{BoardState}

pub record Beside : Type 0 where
  pub cpu : Cpu
  pub steps : ℕ
  pub state : RunState
  pub before : Plain
  -- the bytes of RAM
  pub size : ℕ

abbrev pub beside : BoardState → Beside
beside b = record {
  cpu = b.cpu;
  steps = b.steps;
  state = b.state;
  before = b.before;
  size = length b.world.ram;
}

-- a world, and a board, but for their memory
abbrev pub without_ram : World → World
without_ram w = record w { ram = [] }

abbrev pub but_ram : BoardState → BoardState
but_ram b = record b { world = without_ram b.world }
