-- What the calls on operands answer.
use Rattle.std.specs.Prelude.{◌<◌, Result, Ok, Err}
use Rattle.mb_instr.specs.declared.size.Size.{Size}
use Rattle.mb_instr.specs.declared.registers.Plain.{Plain}
use Rattle.mb_instr.specs.Sizes.{values_of}
use Rattle.mb_ea.specs.declared.reading.ReadFault.{ReadFault}
use Rattle.mb_ea.specs.Addresses.{IsTarget}
use Rattle.mb_writes.specs.declared.ends.Ended.{Ended}
use Rattle.def_instructions.specs.Ends.{OtherEnd, Cut}
use Rattle.def_instructions.specs.Operands.{Fetched}
use Rattle.mb_operands.specs.declared.operands.Operand.{Operand}
use Rattle.mb_operands.specs.declared.endings.Undone.{Undone}
use Rattle.mb_operands.specs.Endings.{cut_by}

-- what a call answered, with the registers after it
abbrev pub fetched : Result Operand ReadFault → Plain → Result Fetched ReadFault
fetched (Ok operand) p = Ok (record { target = operand.target; value = operand.value; plain = p })
fetched (Err refused) p = Err refused

-- its parts are in range
abbrev pub IsOperand : Size → Operand → Type 0
IsOperand size operand = IsTarget size operand.target × (operand.value < values_of size)

-- what a push answered, with its end and the registers after the instruction
abbrev pub pushed : Result (Unit {0}) Undone → Ended → Plain → Result (Unit {0}) (Cut OtherEnd)
pushed (Ok done) end p = Ok done
pushed (Err undone) end p = Err (cut_by end p)
