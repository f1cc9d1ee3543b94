-- What the status register says, and the bits that it has.
use Rattle.std.specs.Prelude.{ℕ, bit_and, if◌then◌else◌}
use Rattle.mb_port.specs.declared.types.Space.{Space}
use Rattle.mb_port.specs.declared.types.Space.TheVariants.{User, Super}
use Rattle.mb_instr.specs.Registers.{is_supervisor}
use Rattle.mb_model.specs.declared.processor.Cpu.{Cpu}
use Rattle.mb_model.specs.declared.status.TheConstants.{STATUS_BITS}

-- the space of the processor's accesses, by S
abbrev pub space_of : Cpu → Space
space_of cpu = if is_supervisor cpu.regs.sr then Super else User

-- what SR keeps of a word
abbrev pub kept_status : ℕ → ℕ
kept_status word = bit_and word STATUS_BITS
