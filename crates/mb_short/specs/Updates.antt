-- Operands of short forms that are read, changed and written back.
use Rattle.std.specs.Prelude.{⊤, ℕ, ◌<◌}
use Rattle.mb_instr.specs.declared.size.Size.{Size}
use Rattle.mb_instr.specs.declared.registers.Plain.{Plain}
use Rattle.mb_instr.specs.Sizes.{low_of}
use Rattle.mb_instr.specs.Registers.{data_register}
use Rattle.mb_alu.specs.declared.conditions.Flagged.{Flagged}
use Rattle.mb_alu.specs.declared.bitwise.LogicKind.TheVariants as logic
use Rattle.mb_alu.specs.Logic.{logic_of}
use Rattle.def_instructions.specs.Arithmetic.{added, subtracted}
use Rattle.def_instructions.specs.Unary.{negated, complemented}
use Rattle.mb_table.specs.declared.forms.Update.{Update}
use Rattle.mb_table.specs.declared.forms.Update.TheVariants as update

-- the data register by which an operand changes is one
abbrev pub HasData : Update → Type 0
HasData (update.Add n) = n < 8
HasData (update.Subtract n) = n < 8
HasData (update.And n) = n < 8
HasData (update.Or n) = n < 8
HasData (update.ExclusiveOr n) = n < 8
HasData (update.AddQuick quick) = ⊤
HasData (update.SubtractQuick quick) = ⊤
HasData update.Negate = ⊤
HasData update.Complement = ⊤

-- what becomes of an operand that has this value, with the condition codes after it
abbrev pub updated_by : Update → Size → ℕ → Plain → Flagged
updated_by (update.Add n) size value p = added size (low_of size (data_register p n)) value p.ccr
updated_by (update.Subtract n) size value p = subtracted size (low_of size (data_register p n)) value p.ccr
updated_by (update.And n) size value p = logic_of logic.And size (low_of size (data_register p n)) value p.ccr
updated_by (update.Or n) size value p = logic_of logic.Or size (low_of size (data_register p n)) value p.ccr
updated_by (update.ExclusiveOr n) size value p = logic_of logic.Eor size (low_of size (data_register p n)) value p.ccr
updated_by (update.AddQuick quick) size value p = added size quick value p.ccr
updated_by (update.SubtractQuick quick) size value p = subtracted size quick value p.ccr
updated_by update.Negate size value p = negated size value p.ccr
updated_by update.Complement size value p = complemented size value p.ccr
