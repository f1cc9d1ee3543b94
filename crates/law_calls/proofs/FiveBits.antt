-- The condition codes that operations leave are below 32.
use Rattle.std.specs.Prelude.{ℕ, ◌+◌, ◌-◌, ◌<◌, ◌^◌, ◌%◌, ◌==◌, Bool, true, false, ◌&&◌, not, nat_le, ◌+ℤ◌, pos, if◌then◌else◌}
use Rattle.std.specs.Int.{from_bool}
use Rattle.std.proofs.Common.{arith}
use Rattle.mb_instr.specs.declared.size.Size.{Size}
use Rattle.mb_instr.specs.declared.size.Size.TheVariants.{Byte}
use Rattle.mb_instr.specs.declared.kinds.ShiftKind.{ShiftKind}
use Rattle.mb_instr.specs.declared.kinds.BitKind.{BitKind}
use Rattle.mb_instr.specs.Sizes.{bits_of, is_set, low_of, values_of, sign_extended}
use Rattle.mb_instr.specs.declared.registers.Plain.{Plain}
use Rattle.mb_instr.specs.Registers.{register_of}
use Rattle.mb_alu.specs.declared.conditions.Conditions.{Conditions}
use Rattle.mb_alu.specs.declared.bitwise.LogicKind.{LogicKind}
use Rattle.mb_alu.specs.declared.width.Width.{Width}
use Rattle.mb_alu.specs.declared.quotients.Divided.{Divided}
use Rattle.mb_alu.specs.declared.quotients.Divided.TheVariants.{Done, ZeroDivide, Overflow}
use Rattle.mb_alu.specs.Conditions.{conditions_of, ccr_of}
use Rattle.mb_alu.specs.Signs.{is_negative, is_zero, signed_of, fits, modulo}
use Rattle.mb_alu.specs.Logic.{combined, moved_of, logic_of}
use Rattle.mb_alu.specs.Sums.{carry_in, zero_of, add_of, difference_codes, sub_of, compare_of}
use Rattle.mb_alu.specs.Shifts.{shifted, shift_of}
use Rattle.mb_alu.specs.Products.{short_values, long_values, product_of, overflows, result_codes, mul_of, quotient_of, has_quotient}
use Rattle.mb_alu.specs.Products.{div_of}
use Rattle.mb_fields.specs.Decimals.{decimal_flagged}
use Rattle.def_instructions.specs.Bits.{change_bit_of}
use Rattle.def_instructions.specs.BitFields.{field_flags}
use Rattle.def_instructions.specs.Bounds.{compared_size, bounds_codes, compared}

bit_low : (b : Bool) → from_bool b < 2
bit_low true = omega arith
bit_low false = omega arith

pub five_bits : (codes : Conditions) → ccr_of codes < 2 ^ 5
five_bits codes = omega (arith, bit_low codes.x, bit_low codes.n, bit_low codes.z, bit_low codes.v, bit_low codes.c)

five_of : (x n z v c : Bool) → ccr_of (record { x = x; n = n; z = z; v = v; c = c }) < 2 ^ 5
five_of x n z v c = five_bits (record { x = x; n = n; z = z; v = v; c = c })

pub moved_five : (size : Size) (value ccr : ℕ) → (moved_of size value ccr).ccr < 2 ^ 5
moved_five size value ccr = five_of (conditions_of ccr).x (is_negative size value) (is_zero size value) false false

pub logic_five : (kind : LogicKind) (size : Size) (x y ccr : ℕ) → (logic_of kind size x y ccr).ccr < 2 ^ 5
logic_five kind size x y ccr = moved_five size (combined kind x y) ccr

pub sum_five : (size : Size) (extended : Bool) (x y ccr : ℕ) → (add_of size x y ccr extended).ccr < 2 ^ 5
sum_five size extended x y ccr =
    let sum = low_of size y + low_of size x + carry_in extended ccr in
    let carry = nat_le (values_of size) sum in
    five_of carry (is_negative size sum) (zero_of size sum ccr extended)
    (not (fits true (values_of size) (signed_of size y +ℤ signed_of size x +ℤ pos (carry_in extended ccr)))) carry

pub difference_five : (size : Size) (extended : Bool) (x y ccr : ℕ) → (sub_of size x y ccr extended).ccr < 2 ^ 5
difference_five size extended x y ccr = five_bits (difference_codes size x y ccr extended)

pub compare_five : (size : Size) (x y ccr : ℕ) → compare_of size x y ccr < 2 ^ 5
compare_five size x y ccr = five_bits (record (difference_codes size x y ccr false) { x = (conditions_of ccr).x })

pub shift_five : (kind : ShiftKind) (left : Bool) (size : Size) (count x ccr : ℕ) → (shift_of kind left size count x ccr).ccr < 2 ^ 5
shift_five kind left size count x ccr =
    let end = shifted kind left size count (low_of size x) (conditions_of ccr).x in
    five_of end.x (is_negative size end.value) (is_zero size end.value) end.v end.c

pub product_five : (signed : Bool) (width : Width) (x y ccr : ℕ) → (mul_of signed width x y ccr).ccr < 2 ^ 5
product_five signed width x y ccr =
    let product = product_of signed width x y in
    five_bits (result_codes (long_values width) (modulo (long_values width) product) (overflows signed width product) ccr)

-- the condition codes that a division leaves
abbrev pub DividesSo : Divided → Type 0
DividesSo (Done quotient remainder ccr) = ccr < 2 ^ 5
DividesSo (Overflow ccr) = ccr < 2 ^ 5
DividesSo (ZeroDivide ccr) = ccr < 2 ^ 5

either_division : (b : Bool) (x y : Divided) → DividesSo x → DividesSo y → DividesSo (if b then x else y)
either_division true x y h k = h
either_division false x y h k = k

pub division_five : (signed : Bool) (width : Width) (divisor dividend ccr : ℕ) → DividesSo (div_of signed width divisor dividend ccr)
division_five signed width divisor dividend ccr =
    either_division (divisor % short_values width == 0) _ _ (five_bits (record (conditions_of ccr) { c = false }))
    (either_division (not (has_quotient signed width divisor dividend)) _ _ (five_bits (record (conditions_of ccr) { v = true; c = false }))
    (five_bits (result_codes (short_values width) (modulo (short_values width) (quotient_of signed width divisor dividend)) false ccr)))

pub bit_five : (kind : BitKind) (number : ℕ) (size : Size) (value ccr : ℕ) → (change_bit_of kind number size value ccr).ccr < 2 ^ 5
unfolding change_bit_of
bit_five kind number size value ccr = five_bits (record (conditions_of ccr) { z = not (is_set value (number % bits_of size)) })

pub decimal_five : (value : ℕ) (carry : Bool) (ccr : ℕ) → (decimal_flagged value carry ccr).ccr < 2 ^ 5
decimal_five value carry ccr = five_of carry (is_negative Byte value) (is_zero Byte value && (conditions_of ccr).z) false carry

pub field_five : (width value ccr : ℕ) → field_flags width value ccr < 2 ^ 5
field_five width value ccr = five_of (conditions_of ccr).x (is_set value (width - 1)) (value == 0) false false

pub bounds_codes_five : (size : Size) (lower upper n : ℕ) (p : Plain) → compared size lower upper n p < 2 ^ 5
bounds_codes_five size lower upper n p =
    five_bits (bounds_codes (compared_size size n) (sign_extended size lower) (sign_extended size upper) (register_of p n) (conditions_of p.ccr))
