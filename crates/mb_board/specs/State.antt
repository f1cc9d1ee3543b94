-- A board, as its contracts see it.
use Rattle.std.specs.Prelude.{ℕ, replicate}
use Rattle.mb_instr.specs.declared.registers.Plain.{Plain}
use Rattle.mb_model.specs.declared.processor.Cpu.{Cpu}
use Rattle.mb_model.specs.declared.outcome.RunState.{RunState}
use Rattle.def_machine.specs.World.{World}
use Rattle.def_machine.specs.Machine.{Machine}
use Rattle.def_runs.specs.declared.RunEnd.{RunEnd}
use Rattle.def_runs.specs.Native.{NativeState, Ran, about_to_run}

-- Its machine, and the registers at the beginning of the last step that it took in user mode for a monitor.
pub record BoardState : Type 0 where
  pub cpu : Cpu
  pub world : World
  pub steps : ℕ
  pub state : RunState
  pub before : Plain

abbrev pub machine_in : BoardState → Machine
machine_in b = record { cpu = b.cpu; world = b.world; steps = b.steps; state = b.state }

-- a board with another machine
abbrev pub with_machine : BoardState → Machine → BoardState
with_machine b m = record { cpu = m.cpu; world = m.world; steps = m.steps; state = m.state; before = b.before }

-- the registers where no such step was taken since reset
abbrev pub no_registers : Plain
no_registers = record { d = replicate 8 0; a = replicate 8 0; pc = 0; ccr = 0 }

-- the board that a machine is after reset
abbrev pub board_at_reset : Machine → BoardState
board_at_reset m =
    record { cpu = m.cpu; world = m.world; steps = m.steps; state = m.state; before = no_registers }

-- what a run of the board in user mode begins with
abbrev pub run_from : BoardState → NativeState → Ran
run_from b native = about_to_run (machine_in b) native b.before

-- a run in user mode that ended so and left this board, with what was counted
abbrev pub ran_to : RunEnd → BoardState → NativeState → Ran
ran_to end b native = record { end = end; machine = machine_in b; native = native; before = b.before }
