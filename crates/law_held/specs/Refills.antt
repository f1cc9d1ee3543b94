-- An attempt that begins again once the read that it was denied is filled and put.
use Rattle.std.specs.Prelude.{◌≡◌, ◌⊎◌, ℕ, ◌^◌, ◌<◌, Bool, Option, Some, Ok}
use Rattle.mb_port.specs.Routine.{run}
use Rattle.mb_port.specs.declared.types.Space.{Space}
use Rattle.mb_instr.specs.declared.instruction.Instr.{Instr}
use Rattle.mb_instr.specs.declared.instruction.Instr.TheVariants as instr
use Rattle.mb_instr.specs.declared.registers.Plain.{Plain}
use Rattle.def_instructions.specs.Attempt.{FoundInstr, fetched_of}
use Rattle.law_tells.specs.Laws.{HasLongs}
use Rattle.def_guests.specs.Guests.{Guest}
use Rattle.def_guests.specs.Bus.{guest_bus}
use Rattle.def_guests.specs.Refills.{denied_read, refilled_at}
use Rattle.law_held.specs.Truth.{Fine}
use Rattle.law_held.specs.Denied.{by_held, by_guest}

-- the guest from which its attempt begins again
abbrev pub again_at : Space → Plain → Guest → Option Guest
again_at space p g = let (performed, _) = by_held space p g in refilled_at g (denied_read performed)

-- Of the guest nothing changes but what is kept, and the shadow, which stays truthful and has each entry that it had.
pub record IsAhead (size : ℕ) (g h : Guest) : Type 0 where
  pub fine : Fine size h
  pub world : h.world ≡ record g.world { kept = h.world.kept }
  pub more : (space : Space) (page : ℕ) (entry : ℕ × Bool) → g.shadow.entries space page ≡ Some entry
      → h.shadow.entries space page ≡ Some entry

-- an instruction that an attempt carries out in every mode
abbrev pub IsUnprivileged : Instr → Type 0
IsUnprivileged (instr.System i) = ⊥
IsUnprivileged _ = Unit {0}

-- the guest's own fetch
abbrev pub own_fetch : Space → Plain → Guest → FoundInstr × Guest
own_fetch space p g = run guest_bus (fetched_of space p.pc) g

-- The guest's own attempt comes to the same from there. So does its whole fetch, or it finds the same instruction.
pub record BeginsAgain (space : Space) (p : Plain) (g h : Guest) : Type 0 where
  pub attempt : by_guest space p h ≡ by_guest space p g
  pub fetch : (own_fetch space p h ≡ own_fetch space p g)
      ⊎ ((i : Instr) × (n : ℕ) × IsUnprivileged i
      × (let (found, _) = own_fetch space p g in found ≡ Ok (i, n))
      × (let (found, _) = own_fetch space p h in found ≡ Ok (i, n)))

abbrev pub AttemptsBeginAgain : Type 0
AttemptsBeginAgain = (space : Space) (size : ℕ) (p : Plain) (g h : Guest) → HasLongs p → p.pc < 2 ^ 32 → Fine size g
    → again_at space p g ≡ Some h → IsAhead size g h × BeginsAgain space p g h
