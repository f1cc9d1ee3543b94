-- Sizes of operands, the fields that say them, and single bits.
use Rattle.std.specs.Prelude.{ℕ, ◌+◌, ◌-◌, ◌/◌, ◌%◌, ◌^◌, Bool, true, false, ◌==◌, nat_lt}
use Rattle.std.specs.Prelude.{Option, Some, None, if◌then◌else◌}
use Rattle.mb_instr.specs.declared.size.Size.{Size}
use Rattle.mb_instr.specs.declared.size.Size.TheVariants.{Byte, Word, Long}

abbrev pub bytes_of : Size → ℕ
bytes_of Byte = 1
bytes_of Word = 2
bytes_of Long = 4

abbrev pub bits_of : Size → ℕ
bits_of Byte = 8
bits_of Word = 16
bits_of Long = 32

-- how many values an operand of the size can have
abbrev pub values_of : Size → ℕ
values_of Byte = 2 ^ 8
values_of Word = 2 ^ 16
values_of Long = 2 ^ 32

-- the low bytes of a number that count at the size
abbrev pub low_of : Size → ℕ → ℕ
low_of size x = x % values_of size

-- the long that has the signed value of the low bytes
abbrev pub sign_extended : Size → ℕ → ℕ
sign_extended size x =
    if nat_lt (low_of size x) (values_of size / 2) then low_of size x else low_of size x + (2 ^ 32 - values_of size)

-- ---- the fields that say a size

-- the size field of most rows
abbrev pub size_bits : Size → ℕ
size_bits Byte = 0
size_bits Word = 1
size_bits Long = 2

abbrev pub size_of : ℕ → Option Size
size_of n = if n == 0 then Some Byte else if n == 1 then Some Word else if n == 2 then Some Long else None

-- the size field of MOVE, which is 1 to 3
abbrev pub move_bits : Size → ℕ
move_bits Byte = 1
move_bits Word = 3
move_bits Long = 2

abbrev pub move_size : ℕ → Size
move_size n = if n == 1 then Byte else if n == 2 then Long else Word

-- the size field of CHK
abbrev pub chk_bits : Size → ℕ
chk_bits Byte = 0
chk_bits Word = 2
chk_bits Long = 0

-- the bit of rows that have words and longs
abbrev pub long_bit : Size → ℕ
long_bit Byte = 0
long_bit Word = 0
long_bit Long = 1

abbrev pub size_of_bit : ℕ → Size
size_of_bit n = if n == 0 then Word else Long

abbrev pub not_byte : Size → Bool
not_byte Byte = false
not_byte Word = true
not_byte Long = true

-- bit `place` of a number is 1
abbrev pub is_set : ℕ → ℕ → Bool
is_set n place = n / 2 ^ place % 2 == 1
