-- What MOVEC sets is found again.
use Rattle.std.specs.Prelude.{◌≡◌, ◌≢◌, ℕ, ◌<◌, bit_and, length}
use Rattle.mb_port.specs.Routine.{Bus, Routine, Then, mmu, set_mmu, run, answer_in, state_in}
use Rattle.mb_port.specs.Registers.{mmu_register}
use Rattle.mb_port.specs.declared.types.Mmu.{Mmu}
use Rattle.mb_port.specs.declared.types.MmuReg.{MmuReg}
use Rattle.mb_instr.specs.declared.control.ControlRegister.{ControlRegister}
use Rattle.mb_instr.specs.declared.control.ControlRegister.TheVariants as control
use Rattle.mb_instr.specs.declared.registers.Regs.{Regs}
use Rattle.mb_instr.specs.Control.{kept_bits}
use Rattle.mb_instr.specs.Registers.{plain_of, register_of}
use Rattle.mb_model.specs.declared.processor.Cpu.{Cpu}
use Rattle.mb_model.specs.Keeping.{Rule}
use Rattle.def_processor.specs.Control.{control_value_of, set_control_of, move_to_control_of, move_from_control_of}
use Rattle.def_machine.specs.Bus.{bus_of}

-- the value has no bits but those that the control register keeps
abbrev pub Fits : ControlRegister → ℕ → Type 0
Fits register value = bit_and value (kept_bits register) ≡ value

-- ---- buses

-- the registers of memory management at a state
abbrev pub registers_at : {S : Type 0} → Bus S → S → Mmu
registers_at bus s = answer_in (run bus mmu s)

-- the state once one of them is written
abbrev pub written_to : {S : Type 0} → Bus S → MmuReg → ℕ → S → S
written_to bus which value s = state_in (run bus (set_mmu which value) s)

-- A bus that keeps its registers of memory management: one that is written holds the value, the others hold what they
-- held, and to read them changes nothing.
pub record KeepsRegisters {S : Type 0} (bus : Bus S) : Type 0 where
  pub written : (which : MmuReg) (value : ℕ) (s : S) → Fits (control.Mmu which) value
      → mmu_register (registers_at bus (written_to bus which value s)) which ≡ value
  pub others : (which other : MmuReg) (value : ℕ) (s : S) → other ≢ which
      → mmu_register (registers_at bus (written_to bus which value s)) other ≡ mmu_register (registers_at bus s) other
  pub unchanged : (s : S) → state_in (run bus mmu s) ≡ s

-- The machine's own bus is one, by every rule of keeping.
abbrev pub MachineKeepsRegisters : Type 0
MachineKeepsRegisters = (rule : Rule) → KeepsRegisters (bus_of rule)

-- ---- one register

-- what a control register holds at a state, and the state once that is known
abbrev pub held_in : {S : Type 0} → Bus S → ControlRegister → Cpu → S → ℕ × S
held_in bus register cpu s = run bus (control_value_of register cpu) s

-- the processor and the state once a control register is set
abbrev pub set_by : {S : Type 0} → Bus S → ControlRegister → ℕ → Cpu → S → Cpu × S
set_by bus register value cpu s = run bus (set_control_of register value cpu) s

-- A control register that is set holds the value, and to look changes nothing.
abbrev pub SetIsHeld : Type 0 → Type 0
SetIsHeld S = (bus : Bus S) (register : ControlRegister) (value : ℕ) (cpu : Cpu) (s : S)
    → KeepsRegisters bus → Fits register value
    → let (after, t) = set_by bus register value cpu s in held_in bus register after t ≡ (value, t)

-- Every other one holds what it held.
abbrev pub OthersStay : Type 0 → Type 0
OthersStay S = (bus : Bus S) (register other : ControlRegister) (value : ℕ) (cpu : Cpu) (s : S)
    → KeepsRegisters bus → other ≢ register
    → let (after, t) = set_by bus register value cpu s in
    answer_in (held_in bus other after t) ≡ answer_in (held_in bus other cpu s)

-- What no control register holds is as it was: D0 to D7, A0 to A6, PC, SR, and whether STOP holds the processor.
pub record SameRest (before after : Cpu) : Type 0 where
  pub data_registers : after.regs.d ≡ before.regs.d
  pub address_registers : after.regs.a ≡ before.regs.a
  pub counter : after.regs.pc ≡ before.regs.pc
  pub status : after.regs.sr ≡ before.regs.sr
  pub stopped : after.stopped ≡ before.stopped

-- To set a control register leaves it.
abbrev pub RestStays : Type 0 → Type 0
RestStays S = (bus : Bus S) (register : ControlRegister) (value : ℕ) (cpu : Cpu) (s : S)
    → let (after, _) = set_by bus register value cpu s in SameRest cpu after

-- ---- MOVEC twice

-- eight data registers, and seven address registers beside A7
pub record HasRegisters (r : Regs) : Type 0 where
  pub data_registers : length r.d ≡ 8
  pub address_registers : length r.a ≡ 7

-- MOVEC to a control register from register n of all sixteen, and then from it to register m
abbrev pub to_and_from : ControlRegister → (n m : ℕ) → Cpu → Routine Cpu
to_and_from register n m cpu =
    Then (move_to_control_of register n cpu) (λ after. move_from_control_of register m after)

-- Register m then holds those bits of what register n held that the control register keeps. So it is also where one of
-- the three is the active stack pointer.
abbrev pub MovedIsReadBack : Type 0 → Type 0
MovedIsReadBack S = (bus : Bus S) (register : ControlRegister) (n m : ℕ) (cpu : Cpu) (s : S)
    → KeepsRegisters bus → HasRegisters cpu.regs → m < 16
    → let (after, _) = run bus (to_and_from register n m cpu) s in
    register_of (plain_of after.regs) m ≡ bit_and (register_of (plain_of cpu.regs) n) (kept_bits register)
