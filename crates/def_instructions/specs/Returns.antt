-- RTS, RTD and RTR.
use Rattle.std.specs.Prelude.{ℕ, ◌%◌, ◌^◌}
use Rattle.mb_port.specs.Routine.{Routine, Return, ◌>>=◌}
use Rattle.mb_port.specs.declared.types.Space.{Space}
use Rattle.mb_instr.specs.declared.size.Size.TheVariants.{Word, Long}
use Rattle.mb_instr.specs.declared.registers.Plain.{Plain}
use Rattle.mb_instr.specs.Sizes.{bytes_of, sign_extended}
use Rattle.mb_instr.specs.Registers.{address_register, with_address_register}
use Rattle.mb_ea.specs.Addresses.{sum}
use Rattle.mb_ea.specs.Reading.{read_operand_of}
use Rattle.def_instructions.specs.Ends.{Rowed, jumped, reading}
use Rattle.def_instructions.specs.Operands.{stack_raised}

-- RTS: to the address on the stack, which is taken from it
abbrev pub rts_of : Space → Plain → Routine Rowed
rts_of space p = do
  target ← reading (read_operand_of space (address_register p 7) (bytes_of Long))
  Return (jumped (record (stack_raised p) { pc = target }))

-- the stack, moved by a signed word
abbrev pub deallocated : ℕ → Plain → Plain
deallocated d p = with_address_register p 7 (sum (address_register p 7) (sign_extended Word d))

-- RTD: the same, and then the displacement is added to the stack pointer
abbrev pub rtd_of : ℕ → Space → Plain → Routine Rowed
rtd_of d space p = do
  target ← reading (read_operand_of space (address_register p 7) (bytes_of Long))
  Return (jumped (record (deallocated d (stack_raised p)) { pc = target }))

-- the stack with one word less
abbrev pub stack_raised_by_word : Plain → Plain
stack_raised_by_word p = with_address_register p 7 (sum (address_register p 7) 2)

-- RTR: a word on the stack, whose low five bits are the condition codes, and behind it the address
abbrev pub rtr_of : Space → Plain → Routine Rowed
rtr_of space p = do
  codes ← reading (read_operand_of space (address_register p 7) (bytes_of Word))
  target ← reading (read_operand_of space (address_register (stack_raised_by_word p) 7) (bytes_of Long))
  Return (jumped (record (stack_raised (stack_raised_by_word p)) { pc = target; ccr = codes % 2 ^ 5 }))
