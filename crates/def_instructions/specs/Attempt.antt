-- The attempt: an instruction is fetched, decoded and carried out.
use Rattle.std.specs.Prelude.{ℕ, zero, suc, ◌+◌, ◌*◌, ◌%◌, ◌^◌, ◌==◌, List, [], ◌∷◌, ◌++◌, Result, Ok, Err}
use Rattle.mb_port.specs.Routine.{Routine, Return, ◌>>=◌, failing, caught, choose, fetch}
use Rattle.mb_port.specs.declared.types.Space.{Space}
use Rattle.mb_instr.specs.declared.instruction.Instr.{Instr}
use Rattle.mb_instr.specs.declared.registers.Plain.{Plain}
use Rattle.mb_instr.specs.declared.vectors.TheConstants.{ODD_COUNTER, ILLEGAL, LINE_A, LINE_F}
use Rattle.mb_decode.specs.declared.front.Decoded.{Decoded}
use Rattle.mb_decode.specs.declared.front.Decoded.TheVariants.{Whole, More, Illegal, LineA, LineF}
use Rattle.mb_decode.specs.Decodes.{decode_of}
use Rattle.mb_ea.specs.Reading.{refused_in}
use Rattle.mb_ea.specs.declared.reading.ReadFault.{ReadFault}
use Rattle.mb_writes.specs.declared.ends.Ended.{Ended}
use Rattle.mb_writes.specs.declared.ends.Ended.TheVariants as ended
use Rattle.def_instructions.specs.Ends.{Performed}
use Rattle.def_instructions.specs.Rows.{perform_of}
use Rattle.mb_instr.specs.declared.counts.TheConstants.{MOST_WORDS}

-- why no instruction was found: none stands there, which has this vector, or the fetch of a word was refused
pub data Unfound : Type 0 where
  NoInstruction : ℕ → Unfound
  Unfetched : ReadFault → Unfound

-- the vectors of what is no instruction
abbrev pub odd_counter : Unfound
odd_counter = NoInstruction ODD_COUNTER

abbrev pub illegal : Unfound
illegal = NoInstruction ILLEGAL

abbrev pub line_a : Unfound
line_a = NoInstruction LINE_A

abbrev pub line_f : Unfound
line_f = NoInstruction LINE_F

-- how an attempt ends without one
abbrev pub end_without : Unfound → Ended
end_without (NoInstruction vector) = ended.Refused vector
end_without (Unfetched refused) = ended.ReadFault refused

-- what an attempt without an instruction answers: nothing was done
abbrev pub found_none : Unfound → Plain → Performed
found_none unfound p = Err (record { ended = end_without unfound; plain = p })

-- an instruction and how many words it has, or why there is none
abbrev pub FoundInstr : Type 0
FoundInstr = Result (Instr × ℕ) Unfound

-- by what the words are so far: the instruction, what follows with more words, or why there is none
abbrev pub by_decoded : Decoded → Routine FoundInstr → Routine FoundInstr
by_decoded (Whole i n) more = Return (Ok (i, n))
by_decoded More more = more
by_decoded Illegal more = Return (Err illegal)
by_decoded LineA more = Return (Err line_a)
by_decoded LineF more = Return (Err line_f)

-- Words are fetched one at a time, at most so many more, until they are an instruction or can no longer become one. No
-- later word is fetched.
unfoldable pub found_of : ℕ → Space → ℕ → List ℕ → Routine FoundInstr
found_of zero space at words = Return (Err illegal)
found_of (suc n) space at words = do
  word ← failing (λ fault. Unfetched (refused_in at fault)) (fetch space at)
  by_decoded (decode_of (words ++ word ∷ [])) (found_of n space ((at + 2) % 2 ^ 32) (words ++ word ∷ []))

-- The instruction that stands at PC. No word is fetched at an odd PC.
abbrev pub fetched_of : Space → ℕ → Routine FoundInstr
fetched_of space pc = choose (pc % 2 == 1) (Return (Err odd_counter)) (found_of MOST_WORDS space pc [])

-- the registers with PC past so many words
abbrev pub past : ℕ → Plain → Plain
past n p = record p { pc = (p.pc + 2 * n) % 2 ^ 32 }

-- what of a fetched instruction is done, as an instruction's own routine answers it
abbrev pub attempted : Space → Plain → Routine FoundInstr → Routine Performed
attempted space p found =
    caught found (λ unfound. Return (found_none unfound p))
    (λ (i, n). perform_of i p.pc space (past n p))

-- The attempt: an instruction is fetched at PC, decoded and carried out, all accesses in this space. A privileged one
-- is not carried out.
abbrev pub attempt_of : Space → Plain → Routine Performed
attempt_of space p = attempted space p (fetched_of space p.pc)
