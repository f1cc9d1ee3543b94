-- MOVEC.
use Rattle.std.specs.Prelude.{ℕ, bit_and, Bool, Option, Some, None}
use Rattle.mb_port.specs.Routine.{Routine, Return, Then, choose, mmu, set_mmu}
use Rattle.mb_port.specs.Registers.{mmu_register}
use Rattle.mb_port.specs.declared.types.MmuReg.{MmuReg}
use Rattle.mb_instr.specs.Registers.{plain_of, register_of, with_register}
use Rattle.mb_writes.specs.declared.ends.Ended.{Ended}
use Rattle.mb_writes.specs.declared.ends.Ended.TheVariants as ended
use Rattle.mb_model.specs.declared.processor.Cpu.{Cpu}
use Rattle.mb_instr.specs.declared.control.ControlRegister.{ControlRegister}
use Rattle.mb_instr.specs.declared.control.ControlRegister.TheVariants as control
use Rattle.mb_instr.specs.declared.vectors.TheConstants.{ILLEGAL}
use Rattle.mb_instr.specs.Control.{control_of, kept_bits}
use Rattle.mb_instr.specs.FurtherWords.{control_word, register_word}
use Rattle.def_processor.specs.SystemEnds.{SystemRowed, with_registers, completing, system_ended_otherwise}

-- the control register that a word names in its other bits
abbrev pub named_control_in : ℕ → Option ControlRegister
named_control_in word = control_of (control_word word).code

-- where a control register stands: what it holds, and how it comes to hold a value
pub record Stand : Type 1 where
  pub value : Cpu → Routine ℕ
  pub set : ℕ → Cpu → Routine Cpu

abbrev pub in_processor : (value : Cpu → ℕ) → (set : ℕ → Cpu → Cpu) → Stand
in_processor value set = record { value = λ cpu. Return (value cpu); set = λ n cpu. Return (set n cpu) }

-- the registers of the memory management unit
abbrev pub at_bus : MmuReg → Stand
at_bus which = record {
  value = λ cpu. Then mmu (λ registers. Return (mmu_register registers which));
  set = λ n cpu. Then (set_mmu which n) (λ done. Return cpu);
}

-- a line a register
abbrev pub stand_of : ControlRegister → Stand
stand_of control.Sfc = in_processor (λ cpu. cpu.sfc) (λ n cpu. record cpu { sfc = n })
stand_of control.Dfc = in_processor (λ cpu. cpu.dfc) (λ n cpu. record cpu { dfc = n })
stand_of control.Cacr = in_processor (λ cpu. cpu.cacr) (λ n cpu. record cpu { cacr = n })
stand_of control.Usp = in_processor (λ cpu. cpu.regs.usp) (λ n cpu. record cpu { regs = record cpu.regs { usp = n } })
stand_of control.Vbr = in_processor (λ cpu. cpu.vbr) (λ n cpu. record cpu { vbr = n })
stand_of control.Msp = in_processor (λ cpu. cpu.regs.msp) (λ n cpu. record cpu { regs = record cpu.regs { msp = n } })
stand_of control.Isp = in_processor (λ cpu. cpu.regs.isp) (λ n cpu. record cpu { regs = record cpu.regs { isp = n } })
stand_of (control.Mmu which) = at_bus which

-- what a control register holds
abbrev pub control_value_of : ControlRegister → Cpu → Routine ℕ
control_value_of register cpu = (stand_of register).value cpu

-- a control register holds this now
abbrev pub set_control_of : ControlRegister → ℕ → Cpu → Routine Cpu
set_control_of register n cpu = (stand_of register).set n cpu

-- MOVEC to a control register: it keeps those bits of register n of all sixteen that it has
abbrev pub move_to_control_of : ControlRegister → ℕ → Cpu → Routine Cpu
move_to_control_of register n cpu =
    set_control_of register (bit_and (register_of (plain_of cpu.regs) n) (kept_bits register)) cpu

-- MOVEC from a control register: to all of register n
abbrev pub move_from_control_of : ControlRegister → ℕ → Cpu → Routine Cpu
move_from_control_of register n cpu =
    Then (control_value_of register cpu)
    (λ value. Return (with_registers (with_register (plain_of cpu.regs) n value) cpu))

-- what is no instruction has the vector of an illegal one
abbrev pub not_carried_out : Ended
not_carried_out = ended.Refused ILLEGAL

-- A code that no control register has makes no instruction.
abbrev pub moving_control : Option ControlRegister → Bool → ℕ → Cpu → Routine SystemRowed
moving_control (Some register) to_control n cpu =
    completing (choose to_control (move_to_control_of register n cpu) (move_from_control_of register n cpu))
moving_control None to_control n cpu = Return (system_ended_otherwise not_carried_out cpu)

-- MOVEC
abbrev pub movec_of : Bool → ℕ → Cpu → Routine SystemRowed
movec_of to_control word cpu = moving_control (named_control_in word) to_control (register_word word).register cpu
