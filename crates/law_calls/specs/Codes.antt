-- The condition codes are five bits: an instruction that finds them so leaves them so.
use Rattle.std.specs.Prelude.{ℕ, ◌<◌, ◌^◌, Ok, Err}
use Rattle.mb_port.specs.Routine.{Bus, run, answer_in}
use Rattle.mb_port.specs.declared.types.Space.{Space}
use Rattle.mb_instr.specs.declared.instruction.Instr.{Instr}
use Rattle.mb_instr.specs.declared.registers.Plain.{Plain}
use Rattle.def_instructions.specs.Ends.{Performed}
use Rattle.def_instructions.specs.Rows.{perform_of}

-- X, N, Z, V and C in bits 4 to 0, and nothing above them
abbrev pub HasFiveCodes : Plain → Type 0
HasFiveCodes p = p.ccr < 2 ^ 5

-- an instruction has left them so, however it ended
abbrev pub LeavesFiveCodes : Performed → Type 0
LeavesFiveCodes (Ok done) = HasFiveCodes done.plain
LeavesFiveCodes (Err stop) = HasFiveCodes stop.plain

-- an instruction, whatever its reads answer
abbrev pub CodesStay : Type 0 → Type 0
CodesStay S = (bus : Bus S) (space : Space) (i : Instr) (at : ℕ) (p : Plain) (s : S)
    → HasFiveCodes p → LeavesFiveCodes (answer_in (run bus (perform_of i at space p) s))
