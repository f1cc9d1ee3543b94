-- What it is that an instruction in short was carried out.
use Rattle.std.specs.Prelude.{◌≡◌, ℕ, ◌+◌, ◌/◌, ◌%◌, ◌^◌, ◌<◌, Bool, Option, Some, None, Ok, ◌⊎◌}
use Rattle.mb_port.specs.Routine.{Bus, Call, run}
use Rattle.mb_port.specs.declared.types.Space.{Space}
use Rattle.mb_instr.specs.declared.instruction.Instr.{Instr}
use Rattle.mb_instr.specs.declared.registers.Plain.{Plain}
use Rattle.def_instructions.specs.Attempt.{past}
use Rattle.def_instructions.specs.Ends.{Performed}
use Rattle.def_instructions.specs.Rows.{perform_of}
use Rattle.mb_table.specs.declared.short.Short.{Short}
use Rattle.mb_table.specs.Short.{meaning, meaning_with, meaning_with_long}

-- an instruction was carried out that changed the flow of control or not, and left these registers
abbrev pub gone : Bool → Plain → Performed
gone flow p = Ok (record { flow = flow; plain = p })

-- an instruction of so many words stands at PC, and is carried out from these registers and this state to those
abbrev pub Goes : {S : Type 0} → Bus S → Instr → ℕ → Space → Plain → S → Bool → Plain → S → Type 0
Goes bus i n space p s flow q t = run bus (perform_of i p.pc space (past n p)) s ≡ (gone flow q, t)

abbrev pub GoesBy : {S : Type 0} → Bus S → Option Instr → ℕ → Space → Plain → S → Bool → Plain → S → Type 0
GoesBy bus (Some i) n space p s flow q t = Goes bus i n space p s flow q t
GoesBy bus None n space p s flow q t = ⊥

-- the second word came, and the state is the same
abbrev pub Comes : {S : Type 0} → Bus S → Space → Plain → S → ℕ → Type 0
Comes bus space p s word = bus (Call.Fetch space ((p.pc + 2) % 2 ^ 32)) s ≡ (Ok word, s)

-- the second word and the third came, which are this long, and the state is the same
abbrev pub LongComes : {S : Type 0} → Bus S → Space → Plain → S → ℕ → Type 0
LongComes bus space p s value =
    Comes bus space p s (value / 2 ^ 16)
    × (bus (Call.Fetch space (((p.pc + 2) % 2 ^ 32 + 2) % 2 ^ 32)) s ≡ (Ok (value % 2 ^ 16), s))

-- What a short form is was carried out: the instruction of one word, that with the second, or that with the second and
-- the third; and these came.
abbrev pub IsDone : {S : Type 0} → Bus S → Short → Space → Plain → S → Bool → Plain → S → Type 0
IsDone bus short space p s flow q t =
    GoesBy bus (meaning short) 1 space p s flow q t
    ⊎ (((word : ℕ) × (word < 2 ^ 16) × Comes bus space p s word
    × GoesBy bus (meaning_with word short) 2 space p s flow q t)
    ⊎ ((value : ℕ) × (value < 2 ^ 32) × LongComes bus space p s value
    × GoesBy bus (meaning_with_long value short) 3 space p s flow q t))
