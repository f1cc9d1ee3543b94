-- ANDI, ORI and EORI to SR, MOVE to and from SR, STOP, and MOVE USP.
use Rattle.std.specs.Prelude.{ℕ, Bool, true, if◌then◌else◌}
use Rattle.mb_port.specs.Routine.{Routine, Return, ◌>>=◌}
use Rattle.mb_port.specs.declared.types.Space.TheVariants.{Super}
use Rattle.mb_instr.specs.declared.size.Size.TheVariants.{Word}
use Rattle.mb_instr.specs.declared.operand.Ea.{Ea}
use Rattle.mb_instr.specs.Registers.{plain_of, address_register, with_address_register}
use Rattle.mb_alu.specs.declared.bitwise.LogicKind.{LogicKind}
use Rattle.mb_alu.specs.Logic.{logic_of}
use Rattle.mb_ea.specs.Resolve.{resolve_of}
use Rattle.mb_model.specs.declared.processor.Cpu.{Cpu}
use Rattle.mb_model.specs.Status.{kept_status}
use Rattle.def_instructions.specs.Operands.{fetch_operand_of, finish_with_of}
use Rattle.def_instructions.specs.Ends.{reading}
use Rattle.def_processor.specs.SystemEnds.{SystemRowed, redirected, with_registers, finish_row_of}

-- SR becomes this. What A7 was stays in its stack pointer, and A7 is now the one that the new S and M choose.
abbrev pub with_status : ℕ → Cpu → Cpu
with_status value cpu = record cpu { regs = record cpu.regs { sr = kept_status value } }

-- ANDI, ORI and EORI to SR
abbrev pub change_status_of : LogicKind → ℕ → Cpu → Cpu
change_status_of kind word cpu = with_status (logic_of kind Word word cpu.regs.sr 0).value cpu

-- MOVE to SR: a word is read, by the registers as the old S and M give them
abbrev pub move_to_status_of : Ea → ℕ → Cpu → Routine SystemRowed
move_to_status_of ea word_at cpu = do
  operand ← reading (fetch_operand_of Word ea word_at Super (plain_of cpu.regs))
  Return (redirected (with_status operand.value (with_registers operand.plain cpu)))

-- MOVE from SR: the destination is not read
abbrev pub move_from_status_of : Ea → ℕ → Cpu → Routine SystemRowed
move_from_status_of ea word_at cpu = do
  to ← reading (resolve_of ea Word word_at Super (plain_of cpu.regs))
  finish_row_of cpu (finish_with_of to.target Word cpu.regs.sr Super to.plain)

-- STOP: SR is loaded, and the processor stops
abbrev pub stop_of : ℕ → Cpu → Cpu
stop_of word cpu = record (with_status word cpu) { stopped = true }

-- MOVE An to USP
abbrev pub move_to_usp_of : ℕ → Cpu → Cpu
move_to_usp_of n cpu = record cpu { regs = record cpu.regs { usp = address_register (plain_of cpu.regs) n } }

-- MOVE USP to An
abbrev pub move_from_usp_of : ℕ → Cpu → Cpu
move_from_usp_of n cpu = with_registers (with_address_register (plain_of cpu.regs) n cpu.regs.usp) cpu

-- MOVE USP
abbrev pub move_usp_of : Bool → ℕ → Cpu → Cpu
move_usp_of from_usp n cpu = if from_usp then move_from_usp_of n cpu else move_to_usp_of n cpu
