-- Carry and overflow of machine words against those of whole numbers.
use Rattle.std.proofs.Common.{ℕ, ◌≡◌, ◌+◌, ◌-◌, ◌/◌, ◌≤◌, arith, Bool, true, false, not, ◌&&◌, pos, ◌+ℤ◌, ◌-ℤ◌, ◌==◌, nat_le, ap}
use Rattle.std.proofs.lemmas.Int.{ints}
use Rattle.std.proofs.lemmas.Bool.Decides.{nat_tests}
use Rattle.std.proofs.Math.Bool.{beq}
use Rattle.std.specs.Int.{from_bool}
use Rattle.mb_instr.specs.declared.size.Size.{Size}
use Rattle.mb_instr.specs.declared.size.Size.TheVariants.{Byte, Word, Long}
use Rattle.mb_instr.specs.Sizes.{values_of, low_of}
use Rattle.mb_alu.specs.Signs.{is_negative, signed_of, fits}

-- a number that is cut differs from itself exactly where it reaches the number of values
pub carries : (size : Size) (s : ℕ) → not (low_of size s == s) ≡ nat_le (values_of size) s
carries Byte s = grind (arith, nat_tests)
carries Word s = grind (arith, nat_tests)
carries Long s = grind (arith, nat_tests)

-- a sum overflows where its terms have one sign and it has the other
pub sum_overflows : (size : Size) (x y : ℕ) (e : Bool) →
    (beq (is_negative size x) (is_negative size y) && not (beq (is_negative size x) (is_negative size (low_of size y + low_of size x + from_bool e))))
    ≡ not (fits true (values_of size) (signed_of size y +ℤ signed_of size x +ℤ pos (from_bool e)))
sum_overflows Byte x y true = grind (arith, ints, nat_tests)
sum_overflows Byte x y false = grind (arith, ints, nat_tests)
sum_overflows Word x y true = grind (arith, ints, nat_tests)
sum_overflows Word x y false = grind (arith, ints, nat_tests)
sum_overflows Long x y true = grind (arith, ints, nat_tests)
sum_overflows Long x y false = grind (arith, ints, nat_tests)

-- what is cut keeps its low bytes and its sign
pub low_of-cut : (size : Size) (s : ℕ) → low_of size (low_of size s) ≡ low_of size s
low_of-cut Byte s = grind arith
low_of-cut Word s = grind arith
low_of-cut Long s = grind arith

pub is_negative-cut : (size : Size) (s : ℕ) → is_negative size (low_of size s) ≡ is_negative size s
is_negative-cut size s = ap (λ n. nat_le (values_of size / 2) n) (low_of-cut size s)

-- 2 ^ 32 is a multiple of each number of values
pub low_of-wrap : (size : Size) (y t : ℕ) → t ≤ values_of size → low_of size (y + 4294967296 - t) ≡ low_of size (y + values_of size - t)
low_of-wrap Byte y t h = omega arith
low_of-wrap Word y t h = omega arith
low_of-wrap Long y t h = omega arith

pub low_of-add_bit : (size : Size) (x : ℕ) (e : Bool) → low_of size x + from_bool e ≤ values_of size
low_of-add_bit Byte x true = omega arith
low_of-add_bit Byte x false = omega arith
low_of-add_bit Word x true = omega arith
low_of-add_bit Word x false = omega arith
low_of-add_bit Long x true = omega arith
low_of-add_bit Long x false = omega arith

-- a difference overflows where its terms have two signs and it has not that of the first
pub difference_overflows : (size : Size) (x y : ℕ) (e : Bool) →
    (not (beq (is_negative size x) (is_negative size y))
    && not (beq (is_negative size y) (is_negative size (low_of size y + values_of size - (low_of size x + from_bool e)))))
    ≡ not (fits true (values_of size) (signed_of size y -ℤ signed_of size x -ℤ pos (from_bool e)))
difference_overflows Byte x y true = grind (arith, ints, nat_tests)
difference_overflows Byte x y false = grind (arith, ints, nat_tests)
difference_overflows Word x y true = grind (arith, ints, nat_tests)
difference_overflows Word x y false = grind (arith, ints, nat_tests)
difference_overflows Long x y true = grind (arith, ints, nat_tests)
difference_overflows Long x y false = grind (arith, ints, nat_tests)
