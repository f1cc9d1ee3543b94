-- Products and quotients.
use Rattle.std.specs.Prelude.{ℕ, ⊤, ◌<◌, ◌^◌, ◌/◌, ◌%◌, ◌==◌, ℤ, ◌*ℤ◌, int_div, int_rem, Bool, true, false, not, nat_le, if◌then◌else◌}
use Rattle.mb_alu.specs.declared.conditions.Conditions.{Conditions}
use Rattle.mb_alu.specs.declared.width.Width.{Width}
use Rattle.mb_alu.specs.declared.width.Width.TheVariants.{Word, Long, Wide}
use Rattle.mb_alu.specs.declared.products.Product.{Product}
use Rattle.mb_alu.specs.declared.quotients.Divided.{Divided}
use Rattle.mb_alu.specs.declared.quotients.Divided.TheVariants.{Done, ZeroDivide, Overflow}
use Rattle.mb_alu.specs.Conditions.{conditions_of, ccr_of}
use Rattle.mb_alu.specs.Signs.{integer_of, fits, modulo}

-- how many values a factor, a divisor, a quotient and a remainder can have
abbrev pub short_values : Width → ℕ
short_values Word = 2 ^ 16
short_values Long = 2 ^ 32
short_values Wide = 2 ^ 32

-- how many values a product and a dividend can have
abbrev pub long_values : Width → ℕ
long_values Word = 2 ^ 32
long_values Long = 2 ^ 32
long_values Wide = 2 ^ 64

-- a factor or a divisor of the width, read as a whole number
abbrev pub short_of : Bool → Width → ℕ → ℤ
short_of signed width n = integer_of signed (short_values width) (n % short_values width)

-- a product or a dividend of the width, read as a whole number
abbrev pub long_of : Bool → Width → ℕ → ℤ
long_of signed width n = integer_of signed (long_values width) (n % long_values width)

abbrev pub product_of : Bool → Width → ℕ → ℕ → ℤ
product_of signed width x y = short_of signed width x *ℤ short_of signed width y

-- only the long product of longs can leave its range
abbrev pub overflows : Bool → Width → ℤ → Bool
overflows signed Long product = not (fits signed (2 ^ 32) product)
overflows signed _ product = false

-- N is the highest bit of a result below m, and Z that it is 0; C is cleared, and X stays
abbrev pub result_codes : ℕ → ℕ → Bool → ℕ → Conditions
result_codes m value overflow ccr = record {
  x = (conditions_of ccr).x;
  n = nat_le (m / 2) value;
  z = value == 0;
  v = overflow;
  c = false;
}

abbrev pub mul_of : Bool → Width → ℕ → ℕ → ℕ → Product
mul_of signed width x y ccr =
    let product = product_of signed width x y in
    let value = modulo (long_values width) product in
    record { value = value; ccr = ccr_of (result_codes (long_values width) value (overflows signed width product) ccr) }

-- cut towards zero
abbrev pub quotient_of : Bool → Width → ℕ → ℕ → ℤ
quotient_of signed width divisor dividend = int_div (long_of signed width dividend) (short_of signed width divisor)

-- with the sign of the dividend
abbrev pub remainder_of : Bool → Width → ℕ → ℕ → ℤ
remainder_of signed width divisor dividend = int_rem (long_of signed width dividend) (short_of signed width divisor)

abbrev pub divided_of : Width → ℤ → ℤ → ℕ → Divided
divided_of width quotient remainder ccr =
    let value = modulo (short_values width) quotient in
    Done value (modulo (short_values width) remainder) (ccr_of (result_codes (short_values width) value false ccr))

-- quotient and remainder are as short as the width says
abbrev pub IsBounded : Width → Divided → Type 0
IsBounded width (Done quotient remainder ccr) = (quotient < short_values width) × (remainder < short_values width)
IsBounded width _ = ⊤

-- which of its three cases a division came to
abbrev pub IsZeroDivide : Divided → Type 0
IsZeroDivide (ZeroDivide ccr) = ⊤
IsZeroDivide _ = ⊥

abbrev pub IsOverflow : Divided → Type 0
IsOverflow (Overflow ccr) = ⊤
IsOverflow _ = ⊥

abbrev pub IsDone : Divided → Type 0
IsDone (Done quotient remainder ccr) = ⊤
IsDone _ = ⊥

-- the quotient can have the width, where the divisor is not 0
abbrev pub has_quotient : Bool → Width → ℕ → ℕ → Bool
has_quotient signed width divisor dividend =
    fits signed (short_values width) (quotient_of signed width divisor dividend)

-- a divisor of 0 clears C; a quotient that does not fit sets V and clears C; else there is a result
abbrev pub div_of : Bool → Width → ℕ → ℕ → ℕ → Divided
div_of signed width divisor dividend ccr =
    if divisor % short_values width == 0 then ZeroDivide (ccr_of (record (conditions_of ccr) { c = false }))
    else if not (has_quotient signed width divisor dividend)
    then Overflow (ccr_of (record (conditions_of ccr) { v = true; c = false }))
    else divided_of width (quotient_of signed width divisor dividend) (remainder_of signed width divisor dividend) ccr
