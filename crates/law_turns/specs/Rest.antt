-- The rest of a guest's step that was not carried out.
use Rattle.std.specs.Prelude.{◌≡◌, ℕ, ◌≤◌, length}
use Rattle.mb_port.specs.Routine.{run}
use Rattle.mb_instr.specs.declared.instruction.Instr.{Instr}
use Rattle.mb_instr.specs.Registers.{plain_of}
use Rattle.mb_model.specs.declared.processor.Cpu.{Cpu}
use Rattle.mb_model.specs.Status.{space_of}
use Rattle.def_processor.specs.Step.{interrupt_mask, step_of, rank}
use Rattle.law_attempts.specs.Attempts.{IsUntraced, NoOther, fetched_by}
use Rattle.def_guests.specs.Guests.{Guest}
use Rattle.def_guests.specs.Held.{held_bus}
use Rattle.def_guests.specs.Bus.{guest_bus}
use Rattle.law_held.specs.Denied.{by_held, held_end}
use Rattle.law_held.specs.Sound.{Sound}
use Rattle.def_guests.specs.Rests.{rest_of}
use Rattle.def_guests.specs.declared.class.Class.TheVariants.{Retired}
use Rattle.def_guests.specs.Classes.{class_of_end}
use Rattle.law_turns.specs.Retire.{HasRegisters}

-- The guest's own step is the rest of the held one, from the state that it is in: of the instruction that was fetched.
-- (Where none was, any will do.)
abbrev pub StepsGoOn : Type 0
StepsGoOn = (size level : ℕ) (guest : Cpu) (g : Guest) (i : Instr) → IsUntraced guest → length guest.regs.a ≡ 7
    → HasRegisters (plain_of guest.regs) → Sound size g → rank level ≤ interrupt_mask guest
    → let (found, _) = fetched_by held_bus guest g in NoOther i found
    → let (end, after) = held_end (space_of guest) (plain_of guest.regs) g in (class_of_end end ≡ Retired → ⊥)
    → let (_, now) = by_held (space_of guest) (plain_of guest.regs) g in
    run guest_bus (step_of level guest) g ≡ run guest_bus (rest_of level guest i end after) now
