-- The rest of a guest's step in code.
use Rattle.std.specs.Prelude.{ℕ}
use Rattle.mb_port.specs.Routine.{Routine}
use Rattle.mb_instr.specs.Registers.{plain_of}
use Rattle.mb_model.specs.declared.processor.Cpu.{Cpu}
use Rattle.def_processor.specs.SystemEnds.{with_registers}
use Rattle.def_processor.specs.Raise.{Stepped, cause_at}
use Rattle.def_processor.specs.Step.{step_of}
use Rattle.def_runs.specs.Finishes.{finish_trap_of}
use Rattle.def_guests.specs.Rests.{rest_by}
use Rattle.law_turns.specs.Lawful.{IsLawfulLeftOver}
use Rattle.vm_guest.specs.declared.rest.Rest.{Rest}
use Rattle.vm_guest.specs.declared.rest.Rest.TheVariants.{Whole, Trap, Access}

-- The routine that carries it out, from the processor before the step, at an interrupt level.
abbrev pub rest_in : Rest → (level : ℕ) → Cpu → Routine Stepped
rest_in Whole level cpu = step_of level cpu
rest_in (Trap vector after) level cpu =
    finish_trap_of (cause_at vector after.pc cpu.regs.pc) (plain_of cpu.regs) (with_registers after cpu)
rest_in (Access left after) level cpu = rest_by left level cpu after

-- what buses may be asked for
abbrev pub IsLawfulRest : Rest → Type 0
IsLawfulRest Whole = Unit {0}
IsLawfulRest (Trap vector after) = Unit {0}
IsLawfulRest (Access left after) = IsLawfulLeftOver left
