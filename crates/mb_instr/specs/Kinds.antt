-- The bits that say which form of a row an instruction has, and what follows from the form.
use Rattle.std.specs.Prelude.{ℕ, Bool, true, false, ◌==◌, Option, Some, None, if◌then◌else◌}
use Rattle.mb_instr.specs.declared.kinds.BitKind.{BitKind}
use Rattle.mb_instr.specs.declared.kinds.BitKind.TheVariants as bit
use Rattle.mb_instr.specs.declared.kinds.ShiftKind.{ShiftKind}
use Rattle.mb_instr.specs.declared.kinds.ShiftKind.TheVariants as shift
use Rattle.mb_instr.specs.declared.kinds.FieldKind.{FieldKind}
use Rattle.mb_instr.specs.declared.kinds.FieldKind.TheVariants as field
use Rattle.mb_instr.specs.declared.kinds.LineMove.{LineMove}
use Rattle.mb_instr.specs.declared.kinds.LineMove.TheVariants as line
use Rattle.mb_instr.specs.declared.kinds.Caches.{Caches}
use Rattle.mb_instr.specs.declared.kinds.Caches.TheVariants as caches
use Rattle.mb_instr.specs.declared.kinds.FlushKind.{FlushKind}
use Rattle.mb_instr.specs.declared.kinds.FlushKind.TheVariants as flush
use Rattle.mb_instr.specs.declared.kinds.CacheScope.{CacheScope}
use Rattle.mb_instr.specs.declared.kinds.CacheScope.TheVariants as scope
use Rattle.mb_instr.specs.declared.kinds.Condition.{Condition}
use Rattle.mb_instr.specs.declared.kinds.Condition.TheVariants as condition
use Rattle.mb_instr.specs.declared.operand.OperandClass.{OperandClass}
use Rattle.mb_instr.specs.declared.operand.OperandClass.TheVariants.{Data, DataAlterable, DataAlterableOrPc}
use Rattle.mb_instr.specs.declared.operand.OperandClass.TheVariants.{MemoryAlterable, FieldSource, FieldTarget}
use Rattle.mb_instr.specs.declared.rule.WordRule.{WordRule}
use Rattle.mb_instr.specs.declared.rule.WordRule.TheVariants as rule

-- one bit
abbrev pub flag : Bool → ℕ
flag true = 1
flag false = 0

abbrev pub bit_bits : BitKind → ℕ
bit_bits bit.Test = 0
bit_bits bit.Change = 1
bit_bits bit.Clear = 2
bit_bits bit.Set = 3

abbrev pub bit_kind : ℕ → BitKind
bit_kind n =
    if n == 0 then bit.Test else if n == 1 then bit.Change else
    if n == 2 then bit.Clear else
    bit.Set

abbrev pub shift_bits : ShiftKind → ℕ
shift_bits shift.Arithmetic = 0
shift_bits shift.Logical = 1
shift_bits shift.RotateExtended = 2
shift_bits shift.Rotate = 3

abbrev pub shift_kind : ℕ → ShiftKind
shift_kind n =
    if n == 0 then shift.Arithmetic else if n == 1 then shift.Logical else
    if n == 2 then shift.RotateExtended else
    shift.Rotate

abbrev pub field_bits : FieldKind → ℕ
field_bits field.Test = 0
field_bits field.ExtractUnsigned = 1
field_bits field.Change = 2
field_bits field.ExtractSigned = 3
field_bits field.Clear = 4
field_bits field.FindFirst = 5
field_bits field.Set = 6
field_bits field.Insert = 7

abbrev pub field_kind : ℕ → FieldKind
field_kind n =
    if n == 0 then field.Test else if n == 1 then field.ExtractUnsigned else
    if n == 2 then field.Change else if n == 3 then field.ExtractSigned else
    if n == 4 then field.Clear else if n == 5 then field.FindFirst else
    if n == 6 then field.Set else
    field.Insert

abbrev pub line_bits : LineMove → ℕ
line_bits line.PostToAbsolute = 0
line_bits line.AbsoluteToPost = 1
line_bits line.IndirectToAbsolute = 2
line_bits line.AbsoluteToIndirect = 3

abbrev pub line_kind : ℕ → LineMove
line_kind n =
    if n == 0 then line.PostToAbsolute else if n == 1 then line.AbsoluteToPost else
    if n == 2 then line.IndirectToAbsolute else
    line.AbsoluteToIndirect

abbrev pub caches_bits : Caches → ℕ
caches_bits caches.Neither = 0
caches_bits caches.Data = 1
caches_bits caches.Instruction = 2
caches_bits caches.Both = 3

abbrev pub caches_kind : ℕ → Caches
caches_kind n =
    if n == 0 then caches.Neither else if n == 1 then caches.Data else
    if n == 2 then caches.Instruction else
    caches.Both

abbrev pub flush_bits : FlushKind → ℕ
flush_bits flush.LocalPage = 0
flush_bits flush.Page = 1
flush_bits flush.AllLocal = 2
flush_bits flush.All = 3

abbrev pub flush_kind : ℕ → FlushKind
flush_kind n =
    if n == 0 then flush.LocalPage else if n == 1 then flush.Page else
    if n == 2 then flush.AllLocal else
    flush.All

abbrev pub scope_bits : CacheScope → ℕ
scope_bits scope.Line = 1
scope_bits scope.Page = 2
scope_bits scope.All = 3

abbrev pub scope_kind : ℕ → Option CacheScope
scope_kind n =
    if n == 1 then Some scope.Line else if n == 2 then Some scope.Page else
    if n == 3 then Some scope.All else None

-- the number of a condition
abbrev pub condition_bits : Condition → ℕ
condition_bits condition.True = 0
condition_bits condition.False = 1
condition_bits condition.High = 2
condition_bits condition.LowOrSame = 3
condition_bits condition.CarryClear = 4
condition_bits condition.CarrySet = 5
condition_bits condition.NotEqual = 6
condition_bits condition.Equal = 7
condition_bits condition.OverflowClear = 8
condition_bits condition.OverflowSet = 9
condition_bits condition.Plus = 10
condition_bits condition.Minus = 11
condition_bits condition.GreaterOrEqual = 12
condition_bits condition.LessThan = 13
condition_bits condition.GreaterThan = 14
condition_bits condition.LessOrEqual = 15

abbrev pub even_condition : ℕ → Condition
even_condition upper =
    if upper == 0 then condition.True else if upper == 1 then condition.High else
    if upper == 2 then condition.CarryClear else if upper == 3 then condition.NotEqual else
    if upper == 4 then condition.OverflowClear else if upper == 5 then condition.Plus else
    if upper == 6 then condition.GreaterOrEqual else condition.GreaterThan

abbrev pub odd_condition : ℕ → Condition
odd_condition upper =
    if upper == 0 then condition.False else if upper == 1 then condition.LowOrSame else
    if upper == 2 then condition.CarrySet else if upper == 3 then condition.Equal else
    if upper == 4 then condition.OverflowSet else if upper == 5 then condition.Minus else
    if upper == 6 then condition.LessThan else condition.LessOrEqual

-- the condition by the upper three bits of its number and the last one
abbrev pub condition_of : ℕ → ℕ → Condition
condition_of upper bit = if bit == 0 then even_condition upper else odd_condition upper

-- BTST reads its operand, the others change it
abbrev pub bit_class : BitKind → OperandClass
bit_class bit.Test = Data
bit_class _ = DataAlterable

-- with the number in the instruction no immediate is tested
abbrev pub bit_class_immediate : BitKind → OperandClass
bit_class_immediate bit.Test = DataAlterableOrPc
bit_class_immediate _ = DataAlterable

-- what a bit field instruction reads or changes, and whether its word names a register
abbrev pub field_class : FieldKind → OperandClass
field_class field.Test = FieldSource
field_class field.ExtractUnsigned = FieldSource
field_class field.ExtractSigned = FieldSource
field_class field.FindFirst = FieldSource
field_class _ = FieldTarget

abbrev pub field_rule : FieldKind → WordRule
field_rule field.Test = rule.FieldAlone
field_rule field.Change = rule.FieldAlone
field_rule field.Clear = rule.FieldAlone
field_rule field.Set = rule.FieldAlone
field_rule _ = rule.Field

-- the class of the operand of ADD, SUB, AND and OR: a source, or a destination in memory
abbrev pub side : OperandClass → Bool → OperandClass
side source true = MemoryAlterable
side source false = source
