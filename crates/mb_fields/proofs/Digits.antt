-- The formulas of decimal arithmetic, for decimal digits.
use Rattle.std.proofs.Common.{ℕ, ◌≡◌, ◌+◌, ◌-◌, ◌*◌, ◌/◌, ◌%◌, ◌<◌, ◌≤◌, arith, refl, ap, sym, ◌∙◌, Bool, true, false, pos, ◌-ℤ◌, nat_lt, if◌then◌else◌}
use Rattle.std.specs.Prelude.{◌&&◌}
use Rattle.std.proofs.lemmas.Bool.Decides.{nat_tests}
use Rattle.std.specs.Int.{from_bool}
use Rattle.mb_instr.specs.declared.size.Size.TheVariants.{Byte}
use Rattle.mb_instr.specs.Sizes.{is_set}
use Rattle.mb_alu.specs.Conditions.{conditions_of}
use Rattle.mb_alu.specs.Signs.{is_negative, is_zero}
use Rattle.mb_fields.specs.Decimals.{decimal_flagged, extend_bit, decimal_value, carry_bit, IsDecimal, IsDecimalSum, IsDecimalDifference, decimal_sum, abcd_of, sbcd_of, decimal_difference, borrows, modulo_256}
use Rattle.mb_fields.proofs.Borrows.{extend_low, difference_is, borrows_is}

-- C of the condition codes is the carry
last_is : (x n z v : ℕ) (c : Bool) → is_set (x * 16 + n * 8 + z * 4 + v * 2 + from_bool c) 0 ≡ c
last_is x n z v true = grind (arith, nat_tests)
last_is x n z v false = grind (arith, nat_tests)

carry_is : (v : ℕ) (a : Bool) (ccr : ℕ) → carry_bit (decimal_flagged v a ccr).ccr ≡ from_bool a
unfolding conditions_of
carry_is v a ccr =
    ap (λ b. from_bool b) (last_is (from_bool a) (from_bool (is_negative Byte v)) (from_bool (is_zero Byte v && (conditions_of ccr).z)) 0 a)

sum_digits : (a b c d e s : ℕ) → a ≤ 9 → b ≤ 9 → c ≤ 9 → d ≤ 9 → e < 2 →
    s ≡ a * 16 + c * 16 + (b + d + e) + (if nat_lt 9 (b + d + e) then 6 else 0) →
    (((if nat_lt 159 s then s + 96 else s) % 256 / 16 ≤ 9) × ((if nat_lt 159 s then s + 96 else s) % 256 % 16 ≤ 9)
    × (decimal_value ((if nat_lt 159 s then s + 96 else s) % 256) + 100 * from_bool (nat_lt 159 s) ≡ (a * 10 + b) + (c * 10 + d) + e))
sum_digits a b c d e s p q r t l h = grind (arith, nat_tests)

difference_digits : (a b c d e : ℕ) → a ≤ 9 → b ≤ 9 → c ≤ 9 → d ≤ 9 → e < 2 → (u v : Bool) → (n : ℕ) →
    u ≡ nat_lt d (b + e) → v ≡ nat_lt (c * 16 + d) (a * 16 + b + e) →
    n ≡ (512 + (c * 16 + d) - ((a * 16 + b) + e + 6 * from_bool u + 96 * from_bool v)) % 256 →
    (n / 16 ≤ 9) × (n % 16 ≤ 9) × (decimal_value n + (a * 10 + b) + e ≡ (c * 10 + d) + 100 * from_bool v)
difference_digits a b c d e p q r t l true true n f g h = grind (arith, nat_tests)
difference_digits a b c d e p q r t l true false n f g h = grind (arith, nat_tests)
difference_digits a b c d e p q r t l false true n f g h = grind (arith, nat_tests)
difference_digits a b c d e p q r t l false false n f g h = grind (arith, nat_tests)

-- the formula's sum of decimal digits is the decimal one
pub sum_law : (x y ccr : ℕ) → IsDecimal x → IsDecimal y → IsDecimalSum x y ccr (abcd_of x y ccr)
sum_law x y ccr dx dy =
    let s : ℕ = decimal_sum x y ccr in
    let v : ℕ = (if nat_lt 159 s then s + 96 else s) % 256 in
    let all = sum_digits (x / 16) (x % 16) (y / 16) (y % 16) (extend_bit ccr) s dx.tens dx.units dy.tens dy.units (extend_low ccr) refl in
    record {
      digits = record { tens = all.0; units = all.1 };
      number = rw (carry_is v (nat_lt 159 s) ccr) all.2;
    }

-- the formula's difference of decimal digits is the decimal one
pub difference_law : (x y ccr : ℕ) → x < 256 → y < 256 → IsDecimal x → IsDecimal y → IsDecimalDifference x y ccr (sbcd_of x y ccr)
difference_law x y ccr p q dx dy =
    let v : Bool = borrows x y ccr in
    let u : Bool = nat_lt (y % 16) (x % 16 + extend_bit ccr) in
    let n : ℕ = modulo_256 (decimal_difference x y ccr -ℤ (if borrows x y ccr then pos 96 else pos 0)) in
    let ex : x / 16 * 16 + x % 16 ≡ x = omega arith in
    let ey : y / 16 * 16 + y % 16 ≡ y = omega arith in
    let vs : v ≡ nat_lt (y / 16 * 16 + y % 16) (x / 16 * 16 + x % 16 + extend_bit ccr) = rw (ex, ey) (borrows_is x y ccr) in
    let ns : n ≡ (512 + (y / 16 * 16 + y % 16) - ((x / 16 * 16 + x % 16) + extend_bit ccr + 6 * from_bool u + 96 * from_bool v)) % 256 =
    rw (ex, ey)
    (difference_is x y ccr p q
    ∙ ap (λ b. (512 + y - (x + extend_bit ccr + 6 * from_bool u + 96 * from_bool b)) % 256) (sym (borrows_is x y ccr))) in
    let all : (n / 16 ≤ 9) × (n % 16 ≤ 9) × (decimal_value n + (x / 16 * 10 + x % 16) + extend_bit ccr ≡ (y / 16 * 10 + y % 16) + 100 * from_bool v) =
    difference_digits (x / 16) (x % 16) (y / 16) (y % 16) (extend_bit ccr) dx.tens dx.units dy.tens dy.units (extend_low ccr) u v n refl vs ns in
    record {
      digits = record { tens = all.0; units = all.1 };
      number = rw (carry_is n v ccr) all.2;
    }
