-- Operands with other things in place of their numbers: values of expressions, or expressions.
use Rattle.std.specs.Prelude.{option_map}
use Rattle.mb_syntax.specs.declared.mode.Displacement.{Displacement}
use Rattle.mb_syntax.specs.declared.mode.FullForm.{FullForm}
use Rattle.mb_syntax.specs.declared.mode.Mode.{Mode}
use Rattle.mb_syntax.specs.declared.mode.Mode.TheVariants as mode
use Rattle.mb_syntax.specs.declared.operand.Operand.{Operand}
use Rattle.mb_syntax.specs.declared.operand.Operand.TheVariants as operand
use Rattle.mb_syntax.specs.declared.operand.BitField.{BitField}
use Rattle.mb_syntax.specs.declared.operand.FieldNumber.{FieldNumber}
use Rattle.mb_syntax.specs.declared.operand.FieldNumber.TheVariants as field_number

abbrev pub valued_displacement : {E F : Type 0} → (E → F) → Displacement E → Displacement F
valued_displacement value d = record { value = value d.value; width = d.width }

abbrev pub valued_form : {E F : Type 0} → (E → F) → FullForm E → FullForm F
valued_form value f = record {
  displacement = option_map (valued_displacement value) f.displacement;
  base = f.base;
  index = f.index;
  indirection = f.indirection;
  outer = option_map (valued_displacement value) f.outer;
}

abbrev pub valued_mode : {E F : Type 0} → (E → F) → Mode E → Mode F
valued_mode value (mode.Data n) = mode.Data n
valued_mode value (mode.Address n) = mode.Address n
valued_mode value (mode.Indirect n) = mode.Indirect n
valued_mode value (mode.PostIncrement n) = mode.PostIncrement n
valued_mode value (mode.PreDecrement n) = mode.PreDecrement n
valued_mode value (mode.Displaced n e) = mode.Displaced n (value e)
valued_mode value (mode.Indexed n e i) = mode.Indexed n (value e) i
valued_mode value (mode.Absolute e w) = mode.Absolute (value e) w
valued_mode value (mode.PcDisplaced e) = mode.PcDisplaced (value e)
valued_mode value (mode.PcIndexed e i) = mode.PcIndexed (value e) i
valued_mode value (mode.Full f) = mode.Full (valued_form value f)
valued_mode value (mode.Immediate e) = mode.Immediate (value e)

abbrev pub valued_number : {E F : Type 0} → (E → F) → FieldNumber E → FieldNumber F
valued_number value (field_number.Data n) = field_number.Data n
valued_number value (field_number.Number e) = field_number.Number (value e)

abbrev pub valued_field : {E F : Type 0} → (E → F) → BitField E → BitField F
valued_field value f = record { offset = valued_number value f.offset; width = valued_number value f.width }

-- an operand with what stands for its numbers
abbrev pub valued : {E F : Type 0} → (E → F) → Operand E → Operand F
valued value (operand.Mode m) = operand.Mode (valued_mode value m)
valued value (operand.Field m f) = operand.Field (valued_mode value m) (valued_field value f)
valued value operand.Sr = operand.Sr
valued value operand.Ccr = operand.Ccr
valued value (operand.Control c) = operand.Control c
valued value (operand.List l) = operand.List l
valued value (operand.Pair n m) = operand.Pair n m
valued value (operand.IndirectPair n m) = operand.IndirectPair n m
valued value (operand.Caches c) = operand.Caches c
valued value (operand.Text t) = operand.Text t
