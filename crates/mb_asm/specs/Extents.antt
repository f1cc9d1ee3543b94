-- Where the bytes of an operation end, by its form and by symbols of earlier lines alone.
use Rattle.std.specs.Prelude.{ℕ, ◌+◌, ◌-◌, ◌*◌, ◌%◌, ◌==◌, ℤ, pos, negsuc, int_le, Bool, true, false, not, ◌&&◌}
use Rattle.std.specs.Prelude.{min, if◌then◌else◌, List, [], ◌∷◌, Option, Some, None, option_map, option_and_then}
use Rattle.std.specs.Prelude.{Result, Ok, Err}
use Rattle.std.specs.Option.{ok_or, is_some}
use Rattle.mb_lines.specs.Results.{◌>>=◌}
use Rattle.mb_syntax.specs.declared.word.Name.{Name}
use Rattle.mb_syntax.specs.declared.statement.SizeLetter.{SizeLetter}
use Rattle.mb_syntax.specs.declared.operand.Operand.{Operand}
use Rattle.mb_syntax.specs.declared.operand.Operand.TheVariants as operand
use Rattle.mb_syntax.specs.Modes.{Sum}
use Rattle.mb_syntax.specs.Statements.{Operation}
use Rattle.mb_syntax.specs.Spans.{bytes_at}
use Rattle.mb_syntax.specs.Tables.{found_in}
use Rattle.mb_mnemonics.specs.Means.{length_by}
use Rattle.mb_mnemonics.specs.declared.range.Range.TheVariants as range
use Rattle.mb_mnemonics.specs.Ranges.{greatest, least, number}
use Rattle.mb_asm.specs.declared.fault.AsmKind.{AsmKind}
use Rattle.mb_asm.specs.declared.fault.AsmKind.TheVariants as kind
use Rattle.mb_asm.specs.declared.value.Flaw.TheVariants as flaw
use Rattle.mb_asm.specs.declared.directive.Directive.{Directive}
use Rattle.mb_asm.specs.declared.directive.Directive.TheVariants as directive
use Rattle.mb_asm.specs.Kinds.{meant}
use Rattle.mb_asm.specs.Results.{refuse}
use Rattle.mb_asm.specs.Values.{Scope, has_flaw, value_of, values_of}
use Rattle.mb_asm.specs.Directives.{directives, only_of, plain_of, unit_of}
use Rattle.mb_asm.specs.declared.addresses.TheConstants.{PAST}

-- so many bytes on, where the address is known
abbrev pub onward : Option ℕ → ℕ → Option ℕ
onward at n = option_map (λ known. min (known + n) PAST) at

-- what has no size
abbrev pub no_size : Option SizeLetter → Result (Unit {0}) AsmKind
no_size size = refuse (is_some size) kind.Operand

-- the value of an expression, if it is known
unfoldable pub narrow_value : Scope → Sum → Result (Option ℤ) AsmKind
narrow_value scope terms = if has_flaw flaw.Wide scope terms then Err kind.Range else Ok (value_of scope terms)

-- the value of the one operand of ORG, EQU or DS
abbrev pub only_value : Scope → List (Operand Sum) → Result (Option ℤ) AsmKind
only_value scope operands = ok_or (only_of operands) kind.Operand >>= narrow_value scope

-- What a value says, where it is in range. One that is not known says nothing, and that is no fault.
abbrev pub ranged : {A : Type 0} → (ℤ → Option A) → Option ℤ → Result (Option A) AsmKind
ranged says None = Ok None
ranged says (Some value) = ok_or (option_map Some (says value)) kind.Range

abbrev pub is_empty : List (Operand Sum) → Bool
is_empty [] = true
is_empty (_ ∷ _) = false

-- ORG

abbrev pub org_address : ℤ → Option ℕ
org_address (pos n) = Some (min n PAST)
org_address (negsuc n) = None

abbrev pub behind_org : Scope → Operation → Result (Option ℕ) AsmKind
behind_org scope operation = do
  none ← no_size operation.size
  value ← only_value scope operation.operands
  ranged org_address value

-- EQU: a value of 32 bits, with or without a sign

abbrev pub equ_long : ℤ → Option ℤ
equ_long value =
    if int_le (least range.Long) value && int_le value (greatest range.Long) then Some value else None

abbrev pub equ_value : Scope → Operation → Result (Option ℤ) AsmKind
equ_value scope operation = do
  none ← no_size operation.size
  value ← only_value scope operation.operands
  ranged equ_long value

-- DS: so many units

abbrev pub ds_count : ℤ → Option ℕ
ds_count (pos n) = number range.Long (pos n)
ds_count (negsuc n) = None

abbrev pub behind_ds : Scope → Operation → Result (Option ℕ) AsmKind
behind_ds scope operation = do
  unit ← ok_or (unit_of operation.size) kind.Operand
  value ← only_value scope operation.operands
  count ← ranged ds_count value
  Ok (option_and_then (λ n. onward scope.at (unit * n)) count)

-- DC: one or more items, each an expression or, where units are bytes, a text

-- a text has quotation marks at both ends
abbrev pub text_len : Name → ℕ
text_len text = text.end - text.start - 2

abbrev pub item_len : ℕ → Operand Sum → Option ℕ
item_len unit (operand.Text text) = if unit == 1 then Some (text_len text) else None
item_len unit item = option_map (λ e. unit) (plain_of item)

abbrev pub behind_item : Option ℕ → Option ℕ → Option (Option ℕ)
behind_item at len = option_map (onward at) len

abbrev pub behind_items : ℕ → Option ℕ → List (Operand Sum) → Result (Option ℕ) AsmKind
behind_items unit at [] = Ok at
behind_items unit at (item ∷ items) = ok_or (behind_item at (item_len unit item)) kind.Operand >>=
    λ next. behind_items unit next items

abbrev pub behind_dc : Option ℕ → Operation → Result (Option ℕ) AsmKind
behind_dc at operation = do
  unit ← ok_or (unit_of operation.size) kind.Operand
  some ← refuse (is_empty operation.operands) kind.Operand
  behind_items unit at operation.operands

-- EVEN

abbrev pub even_from : Option ℕ → Option ℕ
even_from at = option_map (λ known. min (known + known % 2) PAST) at

abbrev pub behind_even : Option ℕ → Operation → Result (Option ℕ) AsmKind
behind_even at operation = do
  none ← no_size operation.size
  no_operand ← refuse (not (is_empty operation.operands)) kind.Operand
  Ok (even_from at)

-- Instructions

abbrev pub behind_instruction : Scope → Operation → Result (Option ℕ) AsmKind
behind_instruction scope operation = do
  len ← meant (length_by (bytes_at scope.line operation.name) operation.size (values_of scope operation.operands))
  Ok (onward scope.at len)

-- The address behind an operation that stands in the line at the address, with the symbols of earlier lines. Where it
-- rests on what is not known, it is not known either.
abbrev pub behind_directive : Scope → Operation → Directive → Result (Option ℕ) AsmKind
behind_directive scope operation directive.Org = behind_org scope operation
behind_directive scope operation directive.Equ = Ok scope.at
behind_directive scope operation directive.Dc = behind_dc scope.at operation
behind_directive scope operation directive.Ds = behind_ds scope operation
behind_directive scope operation directive.Even = behind_even scope.at operation

abbrev pub directive_in : List ℕ → Operation → Option Directive
directive_in line operation = found_in directives (bytes_at line operation.name)

unfoldable pub address_behind : Scope → Operation → Result (Option ℕ) AsmKind
address_behind scope operation = elim (directive_in scope.line operation) [
  | Some directive ↦ behind_directive scope operation directive
  | None ↦ behind_instruction scope operation
]
