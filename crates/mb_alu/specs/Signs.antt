-- Machine words as whole numbers.
use Rattle.std.specs.Prelude.{ℕ, ◌-◌, ◌/◌, ◌%◌, ◌-ℤ◌, ◌==◌, ℤ, pos, negsuc, neg_ℤ, int_le, int_lt, Bool, true, ◌&&◌, nat_le, if◌then◌else◌}
use Rattle.mb_instr.specs.declared.size.Size.{Size}
use Rattle.mb_instr.specs.Sizes.{values_of, low_of}

-- a number below m read unsigned, or signed in two's complement
abbrev pub integer_of : Bool → ℕ → ℕ → ℤ
integer_of signed m n = if signed && nat_le (m / 2) n then pos n -ℤ pos m else pos n

-- the whole numbers that are read so
abbrev pub fits : Bool → ℕ → ℤ → Bool
fits signed m z = if signed
    then int_le (neg_ℤ (pos (m / 2))) z && int_lt z (pos (m / 2))
    else int_le (pos 0) z && int_lt z (pos m)

-- the number below m that differs by a multiple of m; negsuc n is -(n + 1)
abbrev pub modulo : ℕ → ℤ → ℕ
modulo m (pos n) = n % m
modulo m (negsuc n) = m - 1 - n % m

-- the low bytes that count at the size, in two's complement
abbrev pub signed_of : Size → ℕ → ℤ
signed_of size n = integer_of true (values_of size) (low_of size n)

-- the sign of the low bytes that count at the size
abbrev pub is_negative : Size → ℕ → Bool
is_negative size n = nat_le (values_of size / 2) (low_of size n)

abbrev pub is_zero : Size → ℕ → Bool
is_zero size n = low_of size n == 0
