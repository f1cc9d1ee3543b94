-- An instruction's words behind its first, and what follows where they are none.
use Rattle.std.specs.Prelude.{ℕ, ◌+◌, ◌-◌, ◌%◌, ◌^◌, [], ◌∷◌, Result, Ok, Err}
use Rattle.mb_port.specs.Routine.{Routine, Return, Then, caught, fetch}
use Rattle.mb_port.specs.declared.types.Space.{Space}
use Rattle.mb_instr.specs.declared.instruction.Instr.{Instr}
use Rattle.mb_model.specs.declared.processor.Cpu.{Cpu}
use Rattle.mb_model.specs.Status.{space_of}
use Rattle.def_processor.specs.declared.Finish.{Finish}
use Rattle.mb_ea.specs.Reading.{refused_in}
use Rattle.def_instructions.specs.Attempt.{FoundInstr, found_of}
use Rattle.mb_instr.specs.declared.counts.TheConstants.{MOST_WORDS}
use Rattle.def_processor.specs.Raise.{Stepped}
use Rattle.def_processor.specs.Step.{execute_of, unfound_of, finish_unread_of}

-- a word, or how the step ended without one; and the processor then
abbrev pub Word : Type 0
Word = Result ℕ Finish × Cpu

-- where a word does not come, the step ends
abbrev pub word_of : Cpu → Space → ℕ → Routine Word
word_of cpu space at = caught (fetch space at)
    (λ fault. Then (finish_unread_of (refused_in at fault) cpu) (λ (ended, after). Return (Err ended, after)))
    (λ word. Return (Ok word, cpu))

-- an instruction and how many words it has, or how the step ended without one; and the processor then
abbrev pub Sought : Type 0
Sought = Result (Instr × ℕ) Finish × Cpu

-- where none is found, the step ends
abbrev pub sought_of : Cpu → Routine FoundInstr → Routine Sought
sought_of cpu found = caught found
    (λ unfound. Then (unfound_of unfound cpu) (λ (ended, after). Return (Err ended, after)))
    (λ found. Return (Ok found, cpu))

-- an answer, with the instruction in its place
abbrev pub sought_by : Result ℕ Finish → Instr → Result (Instr × ℕ) Finish
sought_by (Ok n) i = Ok (i, n)
sought_by (Err end) i = Err end

-- the words behind the first
abbrev pub behind : Cpu → ℕ → Routine FoundInstr
behind cpu word = found_of (MOST_WORDS - 1) (space_of cpu) ((cpu.regs.pc + 2) % 2 ^ 32) (word ∷ [])

-- an instruction is carried out once it is found
abbrev pub found_executed : Cpu → Routine FoundInstr → Routine Stepped
found_executed cpu found = caught found (λ unfound. unfound_of unfound cpu) (λ (i, n). execute_of i n cpu)
