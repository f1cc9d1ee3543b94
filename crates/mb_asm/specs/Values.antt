-- The values of expressions.
use Rattle.std.specs.Prelude.{ℕ, ◌+◌, ◌%◌, ◌^◌, ℤ, pos, ◌+ℤ◌, neg_ℤ, Bool, true, false, not, ◌||◌, nat_lt}
use Rattle.std.specs.Prelude.{if◌then◌else◌, List}
use Rattle.std.specs.Prelude.{[], ◌∷◌, length, map, Option, Some, None, option_map, option_and_then}
use Rattle.std.specs.Option.{is_some, unwrap_or}
use Rattle.std.specs.List.{list_any}
use Rattle.mb_syntax.specs.declared.expression.Term.{Term}
use Rattle.mb_syntax.specs.declared.expression.Term.TheVariants as term
use Rattle.mb_syntax.specs.declared.expression.SignedTerm.{SignedTerm}
use Rattle.mb_syntax.specs.declared.mode.Base.{Base}
use Rattle.mb_syntax.specs.declared.mode.Base.TheVariants as base
use Rattle.mb_syntax.specs.declared.mode.Displacement.{Displacement}
use Rattle.mb_syntax.specs.declared.mode.FullForm.{FullForm}
use Rattle.mb_syntax.specs.declared.mode.Mode.{Mode}
use Rattle.mb_syntax.specs.declared.mode.Mode.TheVariants as mode
use Rattle.mb_syntax.specs.declared.operand.Operand.{Operand}
use Rattle.mb_syntax.specs.declared.operand.Operand.TheVariants as operand
use Rattle.mb_syntax.specs.declared.operand.FieldNumber.{FieldNumber}
use Rattle.mb_syntax.specs.declared.operand.FieldNumber.TheVariants as number
use Rattle.mb_syntax.specs.Options.{has}
use Rattle.mb_syntax.specs.Spans.{bytes_at}
use Rattle.mb_syntax.specs.Modes.{Sum}
use Rattle.mb_mnemonics.specs.Values.{valued, valued_displacement, valued_field, valued_mode}
use Rattle.mb_asm.specs.declared.value.Flaw.{Flaw}
use Rattle.mb_asm.specs.declared.value.Flaw.TheVariants as flaw
use Rattle.mb_asm.specs.Symbols.{Symbol, value_in}

-- What an expression is read with: symbols, the line that it stands in, and the address of its statement, if that is
-- known.
pub record Scope : Type 0 where
  pub symbols : List Symbol
  pub line : List ℕ
  pub at : Option ℕ

-- Values are exact, and one that rests on what is not known is not known. A number wider than 32 bits counts as 0 here.
abbrev pub term_value : Scope → Term → Option ℤ
term_value scope (term.Number n) = Some (pos n)
term_value scope term.WideNumber = Some (pos 0)
term_value scope (term.Symbol name) = unwrap_or (value_in scope.symbols (bytes_at scope.line name)) None
term_value scope term.Here = option_map pos scope.at

abbrev pub with_sign : Bool → ℤ → ℤ
with_sign is_negative value = if is_negative then neg_ℤ value else value

abbrev pub signed_value : Scope → SignedTerm → Option ℤ
signed_value scope signed = option_map (with_sign signed.is_negative) (term_value scope signed.term)

-- from the left, behind a sum so far
abbrev pub sum_behind : Scope → ℤ → Sum → Option ℤ
sum_behind scope sum [] = Some sum
sum_behind scope sum (signed ∷ terms) =
    option_and_then (λ value. sum_behind scope (sum +ℤ value) terms) (signed_value scope signed)

-- More than 2 ^ 30 terms. No line of a text below 2 ^ 31 bytes has so many: each term but the first has two bytes.
abbrev pub is_long : Sum → Bool
is_long terms = nat_lt 1073741824 (length terms)

abbrev pub value_of : Scope → Sum → Option ℤ
value_of scope terms = if is_long terms then Some (pos 0) else sum_behind scope (pos 0) terms

-- a value that is not known counts as 1, which every range of numbers has
abbrev pub value_or_one : Scope → Sum → ℤ
value_or_one scope terms = unwrap_or (value_of scope terms) (pos 1)

abbrev pub values_of : Scope → List (Operand Sum) → List (Operand ℤ)
values_of scope operands = map (valued (value_or_one scope)) operands

-- Where numbers are not known. A target is relative to the PC, or an address without a width, as a branch has it; it
-- rests on the statement's address too, and one that is not known counts as the place 4 bytes on, which every
-- displacement reaches.

abbrev pub near : Scope → ℤ
near scope = pos ((unwrap_or scope.at 0 + 4) % 2 ^ 32)

abbrev pub target : Scope → Sum → ℤ
target scope terms = unwrap_or (option_and_then (λ at. value_of scope terms) scope.at) (near scope)

-- the base displacement of a full form, by its base
abbrev pub filled_base : Scope → Base → Option (Displacement Sum) → Option (Displacement ℤ)
filled_base scope base.Pc displacement = option_map (valued_displacement (target scope)) displacement
filled_base scope _ displacement = option_map (valued_displacement (value_or_one scope)) displacement

abbrev pub filled_form : Scope → FullForm Sum → FullForm ℤ
filled_form scope form = record {
  displacement = filled_base scope form.base form.displacement;
  base = form.base;
  index = form.index;
  indirection = form.indirection;
  outer = option_map (valued_displacement (value_or_one scope)) form.outer;
}

abbrev pub filled_mode : Scope → Mode Sum → Mode ℤ
filled_mode scope (mode.Absolute e None) = mode.Absolute (target scope e) None
filled_mode scope (mode.PcDisplaced e) = mode.PcDisplaced (target scope e)
filled_mode scope (mode.PcIndexed e i) = mode.PcIndexed (target scope e) i
filled_mode scope (mode.Full form) = mode.Full (filled_form scope form)
filled_mode scope m = valued_mode (value_or_one scope) m

-- an operand with numbers in range in the place of those that are not known
abbrev pub with_all_known : Scope → Operand Sum → Operand ℤ
with_all_known scope (operand.Mode m) = operand.Mode (filled_mode scope m)
with_all_known scope (operand.Field m field) =
    operand.Field (filled_mode scope m) (valued_field (value_or_one scope) field)
with_all_known scope o = valued (value_or_one scope) o

-- Flaws of expressions.

abbrev pub is_nameless : Scope → SignedTerm → Bool
is_nameless scope signed = elim signed.term [
  | term.Symbol name ↦ not (is_some (value_in scope.symbols (bytes_at scope.line name)))
  | _ ↦ false
]

abbrev pub is_wide : SignedTerm → Bool
is_wide signed = elim signed.term [ term.WideNumber ↦ true | _ ↦ false ]

-- There is no such symbol, a number is wider than 32 bits, or the value is not known. A sum that is too long counts as
-- wide.
abbrev pub has_flaw : Flaw → Scope → Sum → Bool
has_flaw flaw.Nameless scope terms = list_any (is_nameless scope) terms
has_flaw flaw.Wide scope terms = is_long terms || list_any is_wide terms
has_flaw flaw.Unknown scope terms = not (is_some (value_of scope terms))

-- Whether one of the expressions passes a test.

abbrev pub in_displacement : (Sum → Bool) → Displacement Sum → Bool
in_displacement test displacement = test displacement.value

abbrev pub in_form : (Sum → Bool) → FullForm Sum → Bool
in_form test form = has (in_displacement test) form.displacement || has (in_displacement test) form.outer

abbrev pub in_mode : (Sum → Bool) → Mode Sum → Bool
in_mode test (mode.Displaced _ e) = test e
in_mode test (mode.Indexed _ e _) = test e
in_mode test (mode.Absolute e _) = test e
in_mode test (mode.PcDisplaced e) = test e
in_mode test (mode.PcIndexed e _) = test e
in_mode test (mode.Full form) = in_form test form
in_mode test (mode.Immediate e) = test e
in_mode test _ = false

abbrev pub in_number : (Sum → Bool) → FieldNumber Sum → Bool
in_number test (number.Number e) = test e
in_number test (number.Data _) = false

abbrev pub in_operand : (Sum → Bool) → Operand Sum → Bool
in_operand test (operand.Mode m) = in_mode test m
in_operand test (operand.Field m field) = in_mode test m || (in_number test field.offset || in_number test field.width)
in_operand test _ = false

-- whether an operand has the flaw
abbrev pub have_flaw : Flaw → Scope → List (Operand Sum) → Bool
have_flaw kind scope operands = list_any (in_operand (has_flaw kind scope)) operands
