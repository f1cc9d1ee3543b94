-- Statements that are what their text is read as.
use Rattle.std.specs.Prelude.{ℕ, ℤ, pos, negsuc, Bool, true, false, not, ◌&&◌, ◌||◌, nat_le, nat_lt, count_ones}
use Rattle.std.specs.Prelude.{List, Option, Some, None, is_some}
use Rattle.std.specs.List.{list_all}
use Rattle.mb_asm_text.specs.Kinds.{begins as begins_with, is_name_part, is_name_start}
use Rattle.mb_syntax.specs.declared.mode.Index.{Index}
use Rattle.mb_syntax.specs.declared.mode.Base.{Base}
use Rattle.mb_syntax.specs.declared.mode.Base.TheVariants as base
use Rattle.mb_syntax.specs.declared.mode.Displacement.{Displacement}
use Rattle.mb_syntax.specs.declared.mode.Indirection.TheVariants as indirection
use Rattle.mb_syntax.specs.declared.mode.FullForm.{FullForm}
use Rattle.mb_syntax.specs.declared.mode.Mode.{Mode}
use Rattle.mb_syntax.specs.declared.mode.Mode.TheVariants as mode
use Rattle.mb_syntax.specs.declared.operand.FieldNumber.{FieldNumber}
use Rattle.mb_syntax.specs.declared.operand.FieldNumber.TheVariants as field_number
use Rattle.mb_syntax.specs.declared.operand.Operand.{Operand}
use Rattle.mb_syntax.specs.declared.operand.Operand.TheVariants as operand
use Rattle.mb_syntax.specs.Statements.{takes_caches}
use Rattle.mb_statement.specs.Statements.{Statement}
use Rattle.mb_statement.specs.Texts.{asks_full, is_left_out}

-- a letter or `_`, and letters, digits and `_`
abbrev pub is_name : List ℕ → Bool
is_name name = begins_with is_name_start (list_all is_name_part) name

-- a number of 32 bits at most, beside its sign
abbrev pub is_narrow : ℤ → Bool
is_narrow (pos n) = nat_le n 4294967295
is_narrow (negsuc n) = nat_lt n 4294967295

abbrev pub is_register : ℕ → Bool
is_register n = nat_lt n 8

-- an index that is no dropped one, which would ask for the full form
abbrev pub is_index : Index → Bool
is_index i = not i.is_dropped && is_register i.register

abbrev pub is_base : Base → Bool
is_base (base.Address n) = is_register n
is_base base.Pc = true
is_base (base.NoAddress n) = is_register n
is_base base.NoPc = true

abbrev pub is_displacement : Option (Displacement ℤ) → Bool
is_displacement None = true
is_displacement (Some d) = is_narrow d.value

-- Something of it says that it is the full form; where it has brackets, they do. Without brackets it has no outer
-- displacement; without an index there is none behind the brackets.
abbrev pub says_full : FullForm ℤ → Bool
says_full f = elim f.indirection [
  | indirection.Direct ↦ (asks_full f || f.index.is_dropped) && not (is_some f.outer)
  | indirection.PreIndexed ↦ true
  | indirection.PostIndexed ↦ not (is_left_out f)
]

abbrev pub is_full : FullForm ℤ → Bool
is_full f =
    is_displacement f.displacement && is_base f.base && is_register f.index.register && is_displacement f.outer
    && says_full f

abbrev pub is_mode : Mode ℤ → Bool
is_mode (mode.Data n) = is_register n
is_mode (mode.Address n) = is_register n
is_mode (mode.Indirect n) = is_register n
is_mode (mode.PostIncrement n) = is_register n
is_mode (mode.PreDecrement n) = is_register n
is_mode (mode.Displaced n e) = is_register n && is_narrow e
is_mode (mode.Indexed n e i) = is_register n && is_narrow e && is_index i
is_mode (mode.Absolute e w) = is_narrow e
is_mode (mode.PcDisplaced e) = is_narrow e
is_mode (mode.PcIndexed e i) = is_narrow e && is_index i
is_mode (mode.Full f) = is_full f
is_mode (mode.Immediate e) = is_narrow e

abbrev pub is_field_number : FieldNumber ℤ → Bool
is_field_number (field_number.Data n) = is_register n
is_field_number (field_number.Number e) = is_narrow e

-- two registers or more; one alone is no list
abbrev pub is_list : ℕ → Bool
is_list mask = nat_lt 1 (count_ones mask) && nat_lt mask 65536

-- one of the operands of an operation that takes names of caches, or that does not
abbrev pub is_operand : Bool → Operand ℤ → Bool
is_operand caches (operand.Mode m) = is_mode m
is_operand caches (operand.Field m f) = is_mode m && is_field_number f.offset && is_field_number f.width
is_operand caches operand.Sr = true
is_operand caches operand.Ccr = true
is_operand caches (operand.Control c) = true
is_operand caches (operand.List mask) = is_list mask
is_operand caches (operand.Pair n m) = is_register n && is_register m
is_operand caches (operand.IndirectPair n m) = nat_lt n 16 && nat_lt m 16
is_operand caches (operand.Caches c) = caches
is_operand caches (operand.Text t) = false

unfoldable pub is_written : Statement → Bool
is_written s = is_name s.name && list_all (is_operand (takes_caches s.name)) s.operands

-- a full form says that it is one
abbrev pub is_plain : Mode ℤ → Bool
is_plain (mode.Full f) = says_full f
is_plain _ = true

-- What a line of the table makes of words is written where this holds of each operand.
abbrev pub has_text : Operand ℤ → Bool
has_text (operand.Mode m) = is_plain m
has_text (operand.Field m f) = is_plain m
has_text (operand.List mask) = is_list mask
has_text _ = true
