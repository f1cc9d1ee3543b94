-- What is left of an instruction, where the held guest was denied a call.
use Rattle.std.specs.Prelude.{◌≡◌, ◌⊎◌, ℕ, ◌^◌, ◌<◌, [], length, Ok, Err}
use Rattle.mb_port.specs.Routine.{run}
use Rattle.mb_port.specs.declared.types.Space.{Space}
use Rattle.mb_instr.specs.declared.instruction.Instr.{Instr}
use Rattle.mb_instr.specs.declared.registers.Plain.{Plain}
use Rattle.mb_instr.specs.Codes.{IsInstr}
use Rattle.mb_ea.specs.declared.reading.ReadFault.{ReadFault}
use Rattle.mb_writes.specs.declared.transfers.Movem.{Movem}
use Rattle.mb_writes.specs.declared.ends.Ended.{Ended}
use Rattle.mb_writes.specs.declared.ends.Ended.TheVariants as ended
use Rattle.def_instructions.specs.Ends.{Carried, OtherEnd, Performed, End, closed}
use Rattle.def_instructions.specs.Rows.{perform_of}
use Rattle.def_instructions.specs.Attempt.{FoundInstr, NoInstruction, Unfetched, fetched_of, attempt_of}
use Rattle.law_tells.specs.Left.{completing_writes, completing_line, completing_transfers, IsRest}
use Rattle.law_tells.specs.Laws.{HasLongs, moves, moves_fetched}
use Rattle.def_guests.specs.Guests.{Guest}
use Rattle.def_guests.specs.Bus.{guest_bus}
use Rattle.def_guests.specs.Held.{held_bus}
use Rattle.law_held.specs.Sound.{Sound}

-- ---- ends

-- an end that tells no fault
abbrev pub HasNone : Ended → Type 0
HasNone (ended.Done flow) = Unit {0}
HasNone (ended.Trap vector) = Unit {0}
HasNone (ended.Refused vector) = Unit {0}
HasNone (ended.ReadFault refused) = ⊥
HasNone (ended.WriteFault refused) = ⊥
HasNone (ended.LineFault fault line) = ⊥
HasNone (ended.Movem refused) = ⊥

abbrev pub IsFaultless : Performed → Type 0
IsFaultless (Ok done) = Unit {0}
IsFaultless (Err stop) = HasNone stop.ended

-- This holds of an instruction that was refused.
abbrev pub IfRefused : Ended → Type 0 → Type 0
IfRefused (ended.Refused vector) P = P
IfRefused _ P = Unit {0}

-- One that was refused has changed nothing.
abbrev pub LeavesRefused : Performed → Guest → Guest → Type 0
LeavesRefused (Ok done) begun now = Unit {0}
LeavesRefused (Err stop) begun now = IfRefused stop.ended (now ≡ begun)

-- ---- what is left

-- How the guest's own goes on where the held one was denied a call and ended so, with the registers `after`: `whole` is
-- what the guest's own comes to. After a read nothing has changed, so that it begins again. After a write or a transfer
-- it goes on from the state in which the held guest is now: by the pieces that are named, by the line, or by the MOVEM
-- from the transfer. `moves` says which MOVEM it is.
abbrev pub AttemptGoesOn : Space → (Movem → Type 0) → Guest → Guest → Ended → Plain → Performed × Guest → Type 0
AttemptGoesOn space moves begun now (ended.ReadFault refused) after whole = now ≡ begun
AttemptGoesOn space moves begun now (ended.WriteFault refused) after whole =
    ((now ≡ begun) × (refused.rest.items ≡ []))
    ⊎ (IsRest refused.rest.items × (done : Carried) × (done.plain ≡ after)
    × (whole ≡ run guest_bus (completing_writes space refused.first refused.rest.items done) now))
AttemptGoesOn space moves begun now (ended.LineFault fault line) after whole =
    (length line ≡ 4) × (done : Carried) × (done.plain ≡ after)
    × (whole ≡ run guest_bus (completing_line space fault.at line done) now)
AttemptGoesOn space moves begun now (ended.Movem refused) after whole =
    (m : Movem) × moves m × (whole ≡ run guest_bus (completing_transfers m refused.first refused.done space after) now)
AttemptGoesOn space moves begun now (ended.Done flow) after whole = ⊥
AttemptGoesOn space moves begun now (ended.Trap vector) after whole = ⊥
AttemptGoesOn space moves begun now (ended.Refused vector) after whole = ⊥

-- The guest's own is what the held one came to, and tells no fault.
abbrev pub IsAllowed : Guest → Performed × Guest → Performed × Guest → Type 0
IsAllowed begun (performed, now) own =
    (own ≡ (performed, now)) × IsFaultless performed × LeavesRefused performed begun now

-- Or the held one was denied a call, and its end says how the guest's own goes on.
abbrev pub IsDenied : Space → (Movem → Type 0) → Guest → Performed × Guest → Performed × Guest → Type 0
IsDenied space moves begun (performed, now) own = (stop : OtherEnd) × (performed ≡ Err stop)
    × AttemptGoesOn space moves begun now stop.ended stop.plain own

-- ---- an instruction

abbrev pub RowsGoOn : Type 0
RowsGoOn = (space : Space) (size : ℕ) (i : Instr) (at : ℕ) (p : Plain) (g : Guest) → IsInstr i → HasLongs p
    → Sound size g
    → let held = run held_bus (perform_of i at space p) g in let own = run guest_bus (perform_of i at space p) g in
    (IsAllowed g held own ⊎ IsDenied space (moves i) g held own) × (let (_, now) = held in Sound size now)

-- ---- a fetch

-- what a fetch finds where no word was denied: an instruction of the table, or none
abbrev pub IsFound : FoundInstr → Type 0
IsFound (Ok (i, _)) = IsInstr i
IsFound (Err (NoInstruction vector)) = Unit {0}
IsFound (Err (Unfetched refused)) = ⊥

-- The guest's own fetch is the held one's; or that one was denied a word. Nothing has changed.
abbrev pub FetchesGoOn : Type 0
FetchesGoOn = (space : Space) (size pc : ℕ) (g : Guest) → pc < 2 ^ 32 → Sound size g
    → let (found, now) = run held_bus (fetched_of space pc) g in
    (now ≡ g)
    × (((run guest_bus (fetched_of space pc) g ≡ (found, now)) × IsFound found)
    ⊎ ((refused : ReadFault) × (found ≡ Err (Unfetched refused))))

-- ---- a whole attempt

abbrev pub by_held : Space → Plain → Guest → Performed × Guest
by_held space p g = run held_bus (attempt_of space p) g

abbrev pub by_guest : Space → Plain → Guest → Performed × Guest
by_guest space p g = run guest_bus (attempt_of space p) g

-- how the held one ends, with the registers then
abbrev pub held_end : Space → Plain → Guest → End
held_end space p g = let (performed, _) = by_held space p g in closed performed

abbrev pub AttemptsGoOn : Type 0
AttemptsGoOn = (space : Space) (size : ℕ) (p : Plain) (g : Guest) → HasLongs p → p.pc < 2 ^ 32 → Sound size g
    → let held = by_held space p g in let own = by_guest space p g in
    (IsAllowed g held own ⊎ IsDenied space (moves_fetched held_bus space p.pc g) g held own)
    × (let (_, now) = held in Sound size now)
