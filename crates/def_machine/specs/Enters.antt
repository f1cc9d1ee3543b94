-- An exception is entered where supervisor operands are not translated.
use Rattle.std.specs.Prelude.{◌≡◌, ℕ, ◌+◌, ◌*◌, ◌%◌, ◌^◌, ◌<◌, ◌≤◌, Bool, false, Some, None, length}
use Rattle.mb_port.specs.Routine.{run}
use Rattle.mb_port.specs.declared.types.Space.TheVariants.{Super}
use Rattle.mb_port.specs.declared.types.Mmu.{Mmu}
use Rattle.mb_model.specs.declared.processor.Cpu.{Cpu}
use Rattle.mb_model.specs.Keeping.{Rule}
use Rattle.mb_ea.specs.Addresses.{sum}
use Rattle.mb_walk.specs.Memory.{number_at, overwritten}
use Rattle.def_processor.specs.declared.entering.Cause.{Cause}
use Rattle.def_processor.specs.declared.entering.Entered.TheVariants as entered
use Rattle.def_processor.specs.Entry.{Frames, frames_of, handler_regs, awake, enter_of}
use Rattle.def_machine.specs.declared.reference.Reference.{Reference}
use Rattle.def_machine.specs.World.{World}
use Rattle.def_machine.specs.Access.{untranslated}
use Rattle.def_machine.specs.Bus.{bus_of}

-- a reference to an operand of supervisor space
abbrev pub supervising : ℕ → Bool → Reference
supervising at write = record { code = false; space = Super; at = at; write = write }

-- the supervisor's operands stand at their own addresses
abbrev pub IsUntranslated : Mmu → Type 0
IsUntranslated mmu = (at : ℕ) (write : Bool) → at < 2 ^ 32 → untranslated mmu (supervising at write) ≡ Some false

-- One frame is written to a place in RAM, and the vector is a long in RAM.
pub record HasRoom (w : World) (c : Cause) (cpu : Cpu) : Type 0 where
  pub one : (frames_of c cpu.regs).second ≡ None
  pub fits : (frames_of c cpu.regs).first.at + length (frames_of c cpu.regs).first.bytes ≤ length w.ram
  pub small : length w.ram ≤ 2 ^ 32
  pub aligned : sum cpu.vbr (4 * c.vector) % 4 ≡ 0
  pub vector : sum cpu.vbr (4 * c.vector) + 4 ≤ length w.ram

-- the world once the frame is written
abbrev pub stacked_on : World → Frames → World
stacked_on w f = record w { ram = overwritten w.ram f.first.at f.first.bytes }

-- the processor at the handler, whose address is read from a memory
abbrev pub at_handler : World → Cause → Cpu → Cpu
at_handler after c cpu =
    let target = number_at after.ram (sum cpu.vbr (4 * c.vector)) 4 in
    record (awake cpu) { regs = record (handler_regs c (frames_of c cpu.regs) cpu.regs) { pc = target } }

-- Nothing but the frame is written: nothing is searched and nothing is kept.
abbrev pub EntersStacked : Type 0
EntersStacked = (rule : Rule) (w : World) (c : Cause) (cpu : Cpu) → IsUntranslated w.mmu → HasRoom w c cpu
    → let after = stacked_on w (frames_of c cpu.regs) in
    run (bus_of rule) (enter_of c cpu) w ≡ ((entered.Done, at_handler after c cpu), after)
