-- Single bits of words and longs.
use Rattle.std.specs.Prelude.{ℕ, ◌/◌, ◌%◌, ◌==◌, Bool}

-- a number has a bit, which is a power of two
abbrev pub has_bit : (n bit : ℕ) → Bool
has_bit n bit = n / bit % 2 == 1
