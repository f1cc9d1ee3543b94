-- The bytes that an operation writes, with the symbols of all lines.
use Rattle.std.specs.Prelude.{ℕ, ◌+◌, ◌-◌, ◌%◌, ◌^◌, ◌==◌, Bool, true, false, if◌then◌else◌, List, [], ◌∷◌, ◌++◌, map}
use Rattle.std.specs.Prelude.{Option, Some, None, Result, Ok, Err, slice_range}
use Rattle.std.specs.Option.{ok_or, unwrap_or}
use Rattle.std.specs.List.{flat_map}
use Rattle.byteorder.specs.Endian.{big_bytes}
use Rattle.mb_lines.specs.Results.{◌>>=◌}
use Rattle.mb_instr.specs.declared.instruction.Instr.{Instr}
use Rattle.mb_instr.specs.Rows.{row}
use Rattle.mb_instr.specs.Codes.{words_of}
use Rattle.mb_syntax.specs.declared.word.Name.{Name}
use Rattle.mb_syntax.specs.declared.operand.Operand.{Operand}
use Rattle.mb_syntax.specs.declared.operand.Operand.TheVariants as operand
use Rattle.mb_syntax.specs.Modes.{Sum}
use Rattle.mb_syntax.specs.Statements.{Operation}
use Rattle.mb_syntax.specs.Spans.{bytes_at}
use Rattle.mb_mnemonics.specs.declared.fault.MeansFault.{MeansFault}
use Rattle.mb_mnemonics.specs.declared.fault.MeansFault.TheVariants as fault
use Rattle.mb_mnemonics.specs.declared.range.Range.{Range}
use Rattle.mb_mnemonics.specs.declared.range.Range.TheVariants as range
use Rattle.mb_mnemonics.specs.Ranges.{number}
use Rattle.mb_mnemonics.specs.Means.{meaning}
use Rattle.mb_asm.specs.declared.fault.AsmKind.{AsmKind}
use Rattle.mb_asm.specs.declared.fault.AsmKind.TheVariants as kind
use Rattle.mb_asm.specs.declared.value.Flaw.TheVariants as flaw
use Rattle.mb_asm.specs.declared.directive.Directive.{Directive}
use Rattle.mb_asm.specs.declared.directive.Directive.TheVariants as directive
use Rattle.mb_asm.specs.Kinds.{meant}
use Rattle.mb_asm.specs.Results.{refuse}
use Rattle.mb_asm.specs.Values.{Scope, with_all_known, have_flaw, values_of}
use Rattle.mb_asm.specs.Directives.{plain_of, unit_of}
use Rattle.mb_asm.specs.Extents.{directive_in, narrow_value, ranged}

-- DC

abbrev pub unit_range : ℕ → Range
unit_range unit = if unit == 1 then range.Byte else if unit == 2 then range.Word else range.Long

-- what a text has between its quotation marks
abbrev pub text_bytes : List ℕ → Name → List ℕ
text_bytes line text = slice_range line (text.start + 1) (text.end - 1)

-- a value as a unit of so many bytes; one that is not known counts as 0
abbrev pub unit_bytes : ℕ → Scope → Sum → Result (List ℕ) AsmKind
unit_bytes unit scope terms = do
  value ← narrow_value scope terms
  spelled ← ranged (number (unit_range unit)) value
  Ok (big_bytes unit (unwrap_or spelled 0))

abbrev pub plain_bytes : ℕ → Scope → Option Sum → Result (List ℕ) AsmKind
plain_bytes unit scope (Some terms) = unit_bytes unit scope terms
plain_bytes unit scope None = Err kind.Operand

abbrev pub item_bytes : ℕ → Scope → Operand Sum → Result (List ℕ) AsmKind
item_bytes unit scope (operand.Text text) = Ok (text_bytes scope.line text)
item_bytes unit scope item = plain_bytes unit scope (plain_of item)

abbrev pub items_bytes : ℕ → Scope → List (Operand Sum) → Result (List ℕ) AsmKind
items_bytes unit scope [] = Ok []
items_bytes unit scope (item ∷ items) = do
  first ← item_bytes unit scope item
  later ← items_bytes unit scope items
  Ok (first ++ later)

abbrev pub dc_bytes : Scope → Operation → Result (List ℕ) AsmKind
dc_bytes scope operation = do
  unit ← ok_or (unit_of operation.size) kind.Operand
  items_bytes unit scope operation.operands

-- Instructions

-- the high byte of each word is the first
abbrev pub instr_bytes : Instr → List ℕ
instr_bytes i = flat_map (big_bytes 2) (words_of (row i))

-- the address of an instruction, where all that its numbers rest on is known
abbrev pub known_address : Scope → Operation → Option ℕ
known_address scope operation = if have_flaw flaw.Unknown scope operation.operands then None else scope.at

-- an instruction at the address
abbrev pub bytes_there : Scope → Operation → ℕ → Result (List ℕ) AsmKind
bytes_there scope operation at = do
  i ← meant (meaning (bytes_at scope.line operation.name) operation.size (values_of scope operation.operands)
      (at % 2 ^ 32))
  Ok (instr_bytes i)

-- a number is out of its range
abbrev pub is_out : Result Instr MeansFault → Bool
is_out (Err fault.Range) = true
is_out _ = false

-- a number of an operation that is known is out of its range, whatever those are that are not
abbrev pub has_out : Scope → Operation → Bool
has_out scope operation =
    is_out (meaning (bytes_at scope.line operation.name) operation.size (map (with_all_known scope) operation.operands)
    (unwrap_or scope.at 0 % 2 ^ 32))

-- Of an instruction that rests on what is not known, the numbers that are known are judged.
abbrev pub bytes_where_known : Scope → Operation → Option ℕ → Result (List ℕ) AsmKind
bytes_where_known scope operation None = refuse (has_out scope operation) kind.Range >>= λ known. Ok []
bytes_where_known scope operation (Some at) = bytes_there scope operation at

abbrev pub instruction_bytes : Scope → Operation → Result (List ℕ) AsmKind
instruction_bytes scope operation = do
  written ← bytes_where_known scope operation (known_address scope operation)
  narrow ← refuse (have_flaw flaw.Wide scope operation.operands) kind.Range
  Ok written

abbrev pub directive_bytes : Scope → Operation → Directive → Result (List ℕ) AsmKind
directive_bytes scope operation directive.Dc = dc_bytes scope operation
directive_bytes scope operation _ = Ok []

-- ORG, EQU, DS and EVEN write nothing.
abbrev pub operation_bytes : Scope → Operation → Result (List ℕ) AsmKind
operation_bytes scope operation = elim (directive_in scope.line operation) [
  | Some directive ↦ directive_bytes scope operation directive
  | None ↦ instruction_bytes scope operation
]
