-- The registers of the memory management unit.
use Rattle.std.specs.Prelude.{ℕ}
use Rattle.mb_port.specs.declared.types.Mmu.{Mmu}
use Rattle.mb_port.specs.declared.types.MmuReg.{MmuReg}
use Rattle.mb_port.specs.declared.types.MmuReg.TheVariants.{Tc, Itt0, Itt1, Dtt0, Dtt1, Mmusr, Urp, Srp}

abbrev pub with_mmu_register : Mmu → MmuReg → ℕ → Mmu
with_mmu_register m Tc v = record m { tc = v }
with_mmu_register m Itt0 v = record m { itt0 = v }
with_mmu_register m Itt1 v = record m { itt1 = v }
with_mmu_register m Dtt0 v = record m { dtt0 = v }
with_mmu_register m Dtt1 v = record m { dtt1 = v }
with_mmu_register m Mmusr v = record m { mmusr = v }
with_mmu_register m Urp v = record m { urp = v }
with_mmu_register m Srp v = record m { srp = v }

abbrev pub mmu_register : Mmu → MmuReg → ℕ
mmu_register m Tc = m.tc
mmu_register m Itt0 = m.itt0
mmu_register m Itt1 = m.itt1
mmu_register m Dtt0 = m.dtt0
mmu_register m Dtt1 = m.dtt1
mmu_register m Mmusr = m.mmusr
mmu_register m Urp = m.urp
mmu_register m Srp = m.srp
