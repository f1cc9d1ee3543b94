-- The processor and the memory management unit after reset.
use Rattle.std.specs.Prelude.{ℕ, false, replicate}
use Rattle.mb_port.specs.declared.types.Mmu.{Mmu}
use Rattle.mb_instr.specs.declared.registers.Regs.{Regs}
use Rattle.mb_model.specs.declared.processor.Cpu.{Cpu}

-- supervisor mode, interrupts masked, all else 0
abbrev pub regs_at_reset : ℕ → ℕ → Regs
regs_at_reset isp pc =
    record { d = replicate 8 0; a = replicate 7 0; usp = 0; isp = isp; msp = 0; pc = pc; sr = 0x2700 }

abbrev pub at_reset : ℕ → ℕ → Cpu
at_reset isp pc = record { regs = regs_at_reset isp pc; vbr = 0; sfc = 0; dfc = 0; cacr = 0; stopped = false }

-- no translation
abbrev pub mmu_at_reset : Mmu
mmu_at_reset = record { tc = 0; itt0 = 0; itt1 = 0; dtt0 = 0; dtt1 = 0; mmusr = 0; urp = 0; srp = 0 }
