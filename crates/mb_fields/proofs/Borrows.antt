-- Decimal differences in whole numbers that stay above 0.
use Rattle.std.proofs.Common.{ℕ, ◌≡◌, ◌+◌, ◌-◌, ◌*◌, ◌/◌, ◌%◌, ◌<◌, arith, refl, ℤ, Bool, true, false, pos, negsuc, ◌+ℤ◌, ◌-ℤ◌, nat_lt, int_lt, if◌then◌else◌}
use Rattle.std.proofs.lemmas.Int.{ints}
use Rattle.std.proofs.lemmas.Bool.Decides.{nat_tests}
use Rattle.std.specs.Int.{from_bool}
use Rattle.mb_alu.specs.Conditions.{conditions_of}
use Rattle.mb_fields.specs.Decimals.{decimal_flagged, modulo_256, extend_bit, decimal_difference, borrows}

bit_low : (b : Bool) → from_bool b < 2
bit_low true = omega arith
bit_low false = omega arith

pub extend_low : (ccr : ℕ) → extend_bit ccr < 2
extend_low ccr = bit_low (conditions_of ccr).x

modulo_256-up : (z : ℤ) (n : ℕ) → z +ℤ pos 512 ≡ pos n → modulo_256 z ≡ n % 256
modulo_256-up (pos k) n e = omega (arith, ints)
modulo_256-up (negsuc k) n e = omega (arith, ints)

-- a difference of naturals is below 0 where more is taken away than is there
below_zero : (a b e : ℕ) → int_lt (pos a -ℤ pos b -ℤ pos e) (pos 0) ≡ nat_lt a (b + e)
below_zero a b e = grind (arith, ints, nat_tests)

-- the corrected difference, with 512 more
raised : (x y e : ℕ) (u v : Bool) → x < 256 → y < 256 → e < 2 →
    pos (y / 16 * 16) -ℤ pos (x / 16 * 16) +ℤ (pos (y % 16) -ℤ pos (x % 16) -ℤ pos e)
    -ℤ (if u then pos 6 else pos 0) -ℤ (if v then pos 96 else pos 0) +ℤ pos 512
    ≡ pos (512 + y - (x + e + 6 * from_bool u + 96 * from_bool v))
raised x y e true true p q r = omega (arith, ints)
raised x y e true false p q r = omega (arith, ints)
raised x y e false true p q r = omega (arith, ints)
raised x y e false false p q r = omega (arith, ints)

pub borrows_is : (x y ccr : ℕ) → borrows x y ccr ≡ nat_lt y (x + extend_bit ccr)
borrows_is x y ccr = below_zero y x (extend_bit ccr)

-- the formula of the difference in whole numbers that stay above 0
pub difference_is : (x y ccr : ℕ) → x < 256 → y < 256 →
    modulo_256 (decimal_difference x y ccr -ℤ (if borrows x y ccr then pos 96 else pos 0))
    ≡ (512 + y - (x + extend_bit ccr + 6 * from_bool (nat_lt (y % 16) (x % 16 + extend_bit ccr)) + 96 * from_bool (nat_lt y (x + extend_bit ccr)))) % 256
difference_is x y ccr p q =
    rw (below_zero (y % 16) (x % 16) (extend_bit ccr), below_zero y x (extend_bit ccr))
    (modulo_256-up _ _
    (raised x y (extend_bit ccr) (nat_lt (y % 16) (x % 16 + extend_bit ccr)) (nat_lt y (x + extend_bit ccr)) p q (extend_low ccr)))

pub flagged_same : (v w : ℕ) (a b : Bool) (ccr : ℕ) → v ≡ w → a ≡ b → decimal_flagged v a ccr ≡ decimal_flagged w b ccr
flagged_same v w a b ccr p q = rw (p, q) refl
