-- Operands that ask nothing of the bus.
use Rattle.std.specs.Prelude.{◌≡◌, ℕ, ◌<◌}
use Rattle.mb_instr.specs.declared.size.Size.{Size}
use Rattle.mb_instr.specs.declared.operand.Ea.{Ea}
use Rattle.mb_instr.specs.declared.operand.Ea.TheVariants.{Dn, Imm}
use Rattle.mb_instr.specs.declared.registers.Plain.{Plain}
use Rattle.mb_instr.specs.Sizes.{low_of}
use Rattle.mb_instr.specs.Registers.{data_register}

-- a data register has the value, or the instruction itself
abbrev pub IsAtHand : Size → Ea → Plain → ℕ → Type 0
IsAtHand size (Dn n) p value = (n < 8) × (value ≡ low_of size (data_register p n))
IsAtHand size (Imm v) p value = value ≡ low_of size v
IsAtHand size other p value = ⊥
