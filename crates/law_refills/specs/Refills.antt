-- How often a guest's attempt begins again.
use Rattle.std.specs.Prelude.{◌≡◌, ℕ, ◌^◌, ◌<◌, ◌≤◌, None}
use Rattle.mb_instr.specs.Registers.{plain_of}
use Rattle.mb_model.specs.declared.processor.Cpu.{Cpu}
use Rattle.law_tells.specs.Laws.{HasLongs}
use Rattle.def_guests.specs.Guests.{Guest}
use Rattle.def_guests.specs.Refills.{begun_again, refilled_by, refilled}
use Rattle.def_guests.specs.declared.limits.TheConstants.{MOST_REFILLS}
use Rattle.law_held.specs.Truth.{Fine}

-- Where an attempt is judged, no read that it was denied is refilled, and it has begun again less often than it may.
abbrev pub RefillsEnd : Type 0
RefillsEnd = (size : ℕ) (cpu : Cpu) (g : Guest) → HasLongs (plain_of cpu.regs) → cpu.regs.pc < 2 ^ 32 → Fine size g
    → let last = refilled cpu g in (begun_again cpu last.guest ≡ None) × (last.refills < MOST_REFILLS)

-- So with any greater bound it begins again as often, and comes to the same guest.
abbrev pub BoundIsNotMet : Type 0
BoundIsNotMet = (size bound : ℕ) (cpu : Cpu) (g : Guest) → HasLongs (plain_of cpu.regs) → cpu.regs.pc < 2 ^ 32
    → Fine size g → MOST_REFILLS ≤ bound → refilled_by bound cpu g ≡ refilled cpu g
