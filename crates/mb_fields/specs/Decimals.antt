-- Decimal arithmetic on bytes of two digits. The formulas say what comes of digits above 9 too.
use Rattle.std.specs.Prelude.{ℕ, ◌+◌, ◌-◌, ◌*◌, ◌/◌, ◌%◌, ◌≡◌, ◌≤◌, nat_lt, ℤ, pos, negsuc, ◌+ℤ◌, ◌-ℤ◌, int_lt}
use Rattle.std.specs.Prelude.{Bool, false, ◌&&◌, if◌then◌else◌}
use Rattle.std.specs.Int.{from_bool}
use Rattle.mb_instr.specs.declared.size.Size.TheVariants.{Byte}
use Rattle.mb_alu.specs.declared.conditions.Flagged.{Flagged}
use Rattle.mb_alu.specs.Conditions.{conditions_of, ccr_of}
use Rattle.mb_alu.specs.Signs.{is_negative, is_zero}

-- the units, and the tens as the byte holds them, 16 times their digit
abbrev pub units_of : ℕ → ℕ
units_of x = x % 16

abbrev pub tens_of : ℕ → ℕ
tens_of x = x / 16 * 16

-- X, as it counts in a sum
abbrev pub extend_bit : ℕ → ℕ
extend_bit ccr = from_bool (conditions_of ccr).x

-- X and C take the carry or borrow, N is the highest bit of the result, V is cleared; a result that is 0 leaves Z as it
-- was
abbrev pub decimal_flagged : ℕ → Bool → ℕ → Flagged
decimal_flagged value carry ccr = record {
  value = value;
  ccr = ccr_of (record {
    x = carry;
    n = is_negative Byte value;
    z = is_zero Byte value && (conditions_of ccr).z;
    v = false;
    c = carry;
  });
}

-- the units with X, and the sum of all, with 6 more where the units are above 9
abbrev pub units_sum : ℕ → ℕ → ℕ → ℕ
units_sum x y ccr = units_of x + units_of y + extend_bit ccr

abbrev pub decimal_sum : ℕ → ℕ → ℕ → ℕ
decimal_sum x y ccr = tens_of x + tens_of y + units_sum x y ccr + (if nat_lt 9 (units_sum x y ccr) then 6 else 0)

abbrev pub abcd_of : ℕ → ℕ → ℕ → Flagged
abcd_of x y ccr =
    let sum = decimal_sum x y ccr in
    let carry = nat_lt 159 sum in
    decimal_flagged ((if carry then sum + 96 else sum) % 256) carry ccr

-- the whole number modulo 256; negsuc n is -(n + 1)
abbrev pub modulo_256 : ℤ → ℕ
modulo_256 (pos n) = n % 256
modulo_256 (negsuc n) = 255 - n % 256

-- the difference y - x of units less X, the whole difference with 6 less where that is below 0
abbrev pub units_difference : ℕ → ℕ → ℕ → ℤ
units_difference x y ccr = pos (units_of y) -ℤ pos (units_of x) -ℤ pos (extend_bit ccr)

abbrev pub decimal_difference : ℕ → ℕ → ℕ → ℤ
decimal_difference x y ccr =
    pos (tens_of y) -ℤ pos (tens_of x) +ℤ units_difference x y ccr
    -ℤ (if int_lt (units_difference x y ccr) (pos 0) then pos 6 else pos 0)

-- the bytes' difference less X is below 0: there is a borrow, and the result is 96 less
abbrev pub borrows : ℕ → ℕ → ℕ → Bool
borrows x y ccr = int_lt (pos y -ℤ pos x -ℤ pos (extend_bit ccr)) (pos 0)

abbrev pub sbcd_of : ℕ → ℕ → ℕ → Flagged
sbcd_of x y ccr =
    let difference = decimal_difference x y ccr -ℤ (if borrows x y ccr then pos 96 else pos 0) in
    decimal_flagged (modulo_256 difference) (borrows x y ccr) ccr

-- the difference from 0
abbrev pub nbcd_of : ℕ → ℕ → Flagged
nbcd_of y ccr = sbcd_of y 0 ccr

-- ---- what the formulas come to for decimal digits

-- two decimal digits, and their number
pub record IsDecimal (x : ℕ) : Type 0 where
  pub tens : x / 16 ≤ 9
  pub units : x % 16 ≤ 9

abbrev pub decimal_value : ℕ → ℕ
decimal_value x = x / 16 * 10 + x % 16

-- C, as it counts in a number
abbrev pub carry_bit : ℕ → ℕ
carry_bit ccr = from_bool (conditions_of ccr).c

-- the decimal sum, with a hundred for the carry
pub record IsDecimalSum (x y ccr : ℕ) (sum : Flagged) : Type 0 where
  pub digits : IsDecimal sum.value
  pub number : decimal_value sum.value + 100 * carry_bit sum.ccr ≡ decimal_value x + decimal_value y + extend_bit ccr

-- the decimal difference, with a hundred for the borrow
pub record IsDecimalDifference (x y ccr : ℕ) (difference : Flagged) : Type 0 where
  pub digits : IsDecimal difference.value
  pub number :
      decimal_value difference.value + decimal_value x + extend_bit ccr
      ≡ decimal_value y + 100 * carry_bit difference.ccr
