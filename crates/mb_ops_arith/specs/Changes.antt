-- What operations and changes come to.
use Rattle.std.specs.Prelude.{ℕ}
use Rattle.mb_instr.specs.declared.size.Size.{Size}
use Rattle.mb_alu.specs.declared.conditions.Flagged.{Flagged}
use Rattle.mb_alu.specs.Logic.{logic_of}
use Rattle.mb_ea.specs.Addresses.{sum, difference}
use Rattle.def_instructions.specs.Arithmetic.{added, subtracted, added_extended, subtracted_extended}
use Rattle.def_instructions.specs.Unary.{negated, negated_extended, complemented}
use Rattle.def_instructions.specs.Shifts.{shifted_by_one}
use Rattle.def_instructions.specs.Decimals.{negate_decimal_of}
use Rattle.def_instructions.specs.Bits.{change_bit_of}
use Rattle.def_instructions.specs.Locked.{test_and_set_of}
use Rattle.mb_ops_arith.specs.declared.operations.Sum.{Sum}
use Rattle.mb_ops_arith.specs.declared.operations.Sum.TheVariants.{Add, Subtract}
use Rattle.mb_ops_arith.specs.declared.operations.Operation.{Operation}
use Rattle.mb_ops_arith.specs.declared.operations.Operation.TheVariants as operation
use Rattle.mb_ops_arith.specs.declared.operations.Change.{Change}
use Rattle.mb_ops_arith.specs.declared.operations.Change.TheVariants as change

-- of an address and a number
abbrev pub moved_of : Sum → ℕ → ℕ → ℕ
moved_of Add address n = sum address n
moved_of Subtract address n = difference address n

-- of a source, a destination and the condition codes
abbrev pub sum_of : Sum → Size → ℕ → ℕ → ℕ → Flagged
sum_of Add size source destination ccr = added size source destination ccr
sum_of Subtract size source destination ccr = subtracted size source destination ccr

-- the same with X
abbrev pub extended_of : Sum → Size → ℕ → ℕ → ℕ → Flagged
extended_of Add size source destination ccr = added_extended size source destination ccr
extended_of Subtract size source destination ccr = subtracted_extended size source destination ccr

abbrev pub operation_of : Operation → Size → ℕ → ℕ → ℕ → Flagged
operation_of (operation.Sum sum) size source destination ccr = sum_of sum size source destination ccr
operation_of (operation.Extended sum) size source destination ccr = extended_of sum size source destination ccr
operation_of (operation.Logic kind) size source destination ccr = logic_of kind size source destination ccr

-- of an operand and the condition codes
abbrev pub change_of : Change → Size → ℕ → ℕ → Flagged
change_of (change.By operation source) size value ccr = operation_of operation size source value ccr
change_of change.Negate size value ccr = negated size value ccr
change_of change.NegateExtended size value ccr = negated_extended size value ccr
change_of change.Complement size value ccr = complemented size value ccr
change_of (change.ShiftWord kind is_left) size value ccr = shifted_by_one kind is_left value ccr
change_of change.NegateDecimal size value ccr = negate_decimal_of value ccr
change_of change.TestAndSet size value ccr = test_and_set_of value ccr
change_of (change.Bit kind number) size value ccr = change_bit_of kind number size value ccr
