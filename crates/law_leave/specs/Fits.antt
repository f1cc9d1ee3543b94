-- How a held guest's attempt ends: each address has 32 bits, and so has each long.
use Rattle.std.specs.Prelude.{ℕ, ◌^◌, ◌<◌, List, [], ◌∷◌}
use Rattle.mb_port.specs.Routine.{run}
use Rattle.mb_port.specs.declared.types.Space.{Space}
use Rattle.mb_instr.specs.declared.instruction.Instr.{Instr}
use Rattle.mb_instr.specs.declared.registers.Plain.{Plain}
use Rattle.mb_frames.specs.declared.pend.Pend.{Pend}
use Rattle.mb_writes.specs.declared.ends.Ended.{Ended}
use Rattle.mb_writes.specs.declared.ends.Ended.TheVariants as ended
use Rattle.mb_writes.specs.Transfers.{count_of, mask_in}
use Rattle.def_instructions.specs.Attempt.{fetched_of}
use Rattle.def_processor.specs.Step.{movem_words}
use Rattle.law_attempts.specs.Attempts.{NoOther}
use Rattle.law_tells.specs.Guarded.{IsLine}
use Rattle.law_tells.specs.Laws.{AreLongs, HasLongs}
use Rattle.def_guests.specs.Guests.{Guest}
use Rattle.def_guests.specs.Held.{held_bus}
use Rattle.law_held.specs.Sound.{Sound}
use Rattle.law_held.specs.Denied.{held_end}
use Rattle.law_leave.specs.Exits.{IsEnd}

abbrev pub IsLong : ℕ → Type 0
IsLong n = n < 2 ^ 32

-- each piece has an address
abbrev pub HaveAddresses : List Pend → Type 0
HaveAddresses [] = Unit {0}
HaveAddresses (p ∷ ps) = IsLong p.at × HaveAddresses ps

-- what the end of an instruction says: addresses, the longs of a line, and of a MOVEM, which has at most sixteen
-- transfers, how many of them were done, fewer than its mask names, and its words
abbrev pub EndFits : Instr → Ended → Type 0
EndFits i (ended.Done flow) = Unit {0}
EndFits i (ended.Trap vector) = Unit {0}
EndFits i (ended.Refused vector) = Unit {0}
EndFits i (ended.ReadFault refused) = IsLong refused.fault.at × IsLong refused.first
EndFits i (ended.WriteFault refused) =
    IsLong refused.fault.at × IsLong refused.first × HaveAddresses refused.rest.items
EndFits i (ended.LineFault fault line) = IsLine fault.at × AreLongs line
EndFits i (ended.Movem refused) =
    IsLong refused.fault.at × IsLong refused.first × (refused.done < 16) × IsLong (movem_words i)
    × (refused.done < count_of (mask_in (movem_words i)))

-- An attempt that is not carried out ends so, and its PC is a long.
abbrev pub EndsFit : Type 0
EndsFit = (space : Space) (size : ℕ) (p : Plain) (g : Guest) (i : Instr) → HasLongs p → IsLong p.pc → Sound size g
    → let (found, _) = run held_bus (fetched_of space p.pc) g in NoOther i found
    → let (end, after) = held_end space p g in IsEnd end → EndFits i end × IsLong after.pc
