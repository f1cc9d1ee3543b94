-- How many calls a routine makes, and how many an instruction has made where a read was refused.
use Rattle.std.specs.Prelude.{ℕ, ◌+◌, ◌*◌, ◌≤◌, Ok, Err}
use Rattle.mb_port.specs.Routine.{Routine, Return, Ask, Then, Bus, run, answer_in}
use Rattle.mb_port.specs.declared.types.Space.{Space}
use Rattle.mb_instr.specs.declared.counts.TheConstants.{MOST_WORDS}
use Rattle.mb_instr.specs.declared.instruction.Instr.{Instr}
use Rattle.mb_instr.specs.declared.registers.Plain.{Plain}
use Rattle.mb_writes.specs.declared.ends.Ended.{Ended}
use Rattle.mb_writes.specs.declared.ends.Ended.TheVariants as ended
use Rattle.def_instructions.specs.Ends.{Performed}
use Rattle.def_instructions.specs.Rows.{perform_of}
use Rattle.def_instructions.specs.Attempt.{attempt_of}

-- how many calls a routine makes over a bus
abbrev pub calls : {S A : Type 0} → Bus S → Routine A → S → ℕ
calls bus (Return a) s = 0
calls bus (Ask c) s = 1
calls bus (Then m f) s = let (answer, after) = run bus m s in calls bus m s + calls bus (f answer) after

-- A fetch, the read of an operand or a locked check was refused. A transfer of a MOVEM and a write end otherwise.
abbrev pub IsReadFault : Ended → Type 0
IsReadFault (ended.ReadFault refused) = Unit {0}
IsReadFault _ = ⊥

abbrev pub IsUnread : Performed → Type 0
IsUnread (Ok done) = ⊥
IsUnread (Err stop) = IsReadFault stop.ended

-- the most pieces of an operand
abbrev pub most_pieces : ℕ
most_pieces = 3

-- The most reads of an instruction: two operands, each behind the long that its address is read from.
abbrev pub most_reads : ℕ
most_reads = 4 * most_pieces

-- an instruction, without the fetching of its words
abbrev pub RefusedRowsAreEarly : Type 0 → Type 0
RefusedRowsAreEarly S = (bus : Bus S) (space : Space) (i : Instr) (at : ℕ) (p : Plain) (s : S)
    → let m = perform_of i at space p in IsUnread (answer_in (run bus m s)) → calls bus m s ≤ most_reads

-- a whole attempt
abbrev pub RefusedAttemptsAreEarly : Type 0 → Type 0
RefusedAttemptsAreEarly S = (bus : Bus S) (space : Space) (p : Plain) (s : S)
    → let m = attempt_of space p in IsUnread (answer_in (run bus m s)) → calls bus m s ≤ MOST_WORDS + most_reads
