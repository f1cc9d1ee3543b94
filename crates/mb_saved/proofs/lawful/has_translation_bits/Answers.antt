use Rattle.std.proofs.Common.{◌∙◌, sym}
use Rattle.std.proofs.lemmas.Bool.{true≢false}
use Rattle.mb_port.specs.declared.types.MmuReg.{MmuReg}
use Rattle.mb_port.specs.declared.types.MmuReg.TheVariants.{Tc, Itt0, Itt1, Dtt0, Dtt1, Mmusr, Urp, Srp}
use Rattle.mb_port.specs.Registers.{mmu_register}
use Rattle.mb_instr.specs.declared.control.ControlRegister.TheVariants as control
use Rattle.mb_instr.specs.Control.{kept_bits}
use Rattle.mb_saved.specs.Saved.{Fits}
use Rattle.mb_saved.proofs.Registers.{each_register}
use Rattle.mb_saved.proofs.lawful.has_translation_bits.Goals as goal

pub returns-then-has_transparent_bits : goal.returns-then-has_transparent_bits
returns-then-has_transparent_bits c = (
  λ rest. each_register (λ (which : MmuReg). Fits (kept_bits (control.Mmu which)) (mmu_register c.args.mmu.now which))
      (c.has_transparent_bits.ensures.0 c.if-has_transparent_bits.true) (c.has_search_bits.ensures.0 rest),
  λ all. c.has_search_bits.ensures.1 (all Tc, all Mmusr, all Urp, all Srp),
)

pub returns-else-has_transparent_bits : goal.returns-else-has_transparent_bits
returns-else-has_transparent_bits c = (
  λ yes. absurd (true≢false (sym yes ∙ c.if-has_transparent_bits.false)),
  λ all. c.has_transparent_bits.ensures.1 (all Itt0, all Itt1, all Dtt0, all Dtt1),
)
