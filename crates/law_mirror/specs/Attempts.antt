-- Whole attempts, and their two parts: the board in user mode, and the held guest.
use Rattle.std.specs.Prelude.{◌^◌, ◌<◌, ℕ}
use Rattle.mb_port.specs.Routine.{run}
use Rattle.mb_port.specs.declared.types.Space.TheVariants.{User}
use Rattle.mb_instr.specs.declared.registers.Plain.{Plain}
use Rattle.def_machine.specs.World.{World}
use Rattle.def_instructions.specs.Ends.{Performed}
use Rattle.def_instructions.specs.Attempt.{FoundInstr, end_without, attempt_of, fetched_of}
use Rattle.law_twins.specs.Twins.{SamePerformed, SameEnd}
use Rattle.law_tells.specs.Laws.{HasLongs}
use Rattle.law_routines.specs.Between.{Setting, Equal}
use Rattle.law_routines.specs.Twin.{Results}
use Rattle.mb_instr.specs.declared.instruction.Instr.{Instr}
use Rattle.mb_instr.specs.Codes.{IsInstr}
use Rattle.def_instructions.specs.Rows.{perform_of}
use Rattle.def_guests.specs.Guests.{Guest}
use Rattle.def_guests.specs.Held.{held_bus}
use Rattle.law_mirror.specs.Related.{Site, setting, Related}
use Rattle.law_mirror.specs.Laws.{board_bus, Outside}
use Rattle.law_held.specs.Denied.{by_held}
use Rattle.law_held.specs.Sound.{OnlyRam}

abbrev pub on_the_board : Plain → World → Performed × World
on_the_board p b = run board_bus (attempt_of User p) b

-- board and guest later, where the board stood ready for the guest before
pub record Stays (x : Site) (b : World) (g : Guest) (u : World) (h : Guest) : Type 0 where
  pub related : Related x u h
  pub outside : Outside x b u
  pub only : OnlyRam g h

-- An attempt ends alike on the board and at the held guest, and changes the guest's RAM alone.
abbrev pub AttemptsStay : Type 0
AttemptsStay = (x : Site) (p : Plain) (b : World) (g : Guest) → HasLongs p → p.pc < 2 ^ 32 → Related x b g
    → let (performed, u) = on_the_board p b in let (held, h) = by_held x.space p g in
    SamePerformed (setting x) performed held × Stays x b g u h

-- the same instruction, or why there is none
abbrev pub SameFound : Setting → FoundInstr → FoundInstr → Type 0
SameFound x = Results Equal (λ e f. SameEnd x (end_without e) (end_without f))

-- The board fetches what the held guest fetches: the same instruction, or the same end.
abbrev pub FetchesStay : Type 0
FetchesStay = (x : Site) (pc : ℕ) (b : World) (g : Guest) → pc < 2 ^ 32 → Related x b g
    → let (found, u) = run board_bus (fetched_of User pc) b in
    let (held, h) = run held_bus (fetched_of x.space pc) g in
    SameFound (setting x) found held × Stays x b g u h

-- And carries it out as the held guest does.
abbrev pub RowsStay : Type 0
RowsStay = (x : Site) (i : Instr) (at : ℕ) (p : Plain) (b : World) (g : Guest) → IsInstr i → HasLongs p → Related x b g
    → let (performed, u) = run board_bus (perform_of i at User p) b in
    let (held, h) = run held_bus (perform_of i at x.space p) g in
    SamePerformed (setting x) performed held × Stays x b g u h
