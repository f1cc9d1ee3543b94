-- Digits packed two a byte, and unpacked one a byte.
use Rattle.std.specs.Prelude.{ℕ, ◌+◌, ◌*◌, ◌/◌, ◌%◌, ◌^◌}

-- the adjusted word's low halves of bytes become a byte
abbrev pub pack_of : ℕ → ℕ → ℕ
pack_of x adjust = let sum = (x + adjust) % 2 ^ 16 in sum / 2 ^ 8 % 16 * 16 + sum % 16

-- the byte's halves become the low halves of two bytes, which are adjusted
abbrev pub unpk_of : ℕ → ℕ → ℕ
unpk_of x adjust = (x / 16 * 2 ^ 8 + x % 16 + adjust) % 2 ^ 16
