-- Each register of translation.
use Rattle.mb_port.specs.declared.types.MmuReg.{MmuReg}
use Rattle.mb_port.specs.declared.types.MmuReg.TheVariants.{Tc, Itt0, Itt1, Dtt0, Dtt1, Mmusr, Urp, Srp}

-- what holds of the eight holds of each
pub each_register : (P : MmuReg → Type 0) → P Itt0 × P Itt1 × P Dtt0 × P Dtt1 → P Tc × P Mmusr × P Urp × P Srp → (which : MmuReg) → P which
each_register P t s Tc = s.0
each_register P t s Itt0 = t.0
each_register P t s Itt1 = t.1
each_register P t s Dtt0 = t.2
each_register P t s Dtt1 = t.3
each_register P t s Mmusr = s.1
each_register P t s Urp = s.2
each_register P t s Srp = s.3
