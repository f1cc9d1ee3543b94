-- Hexadecimal digits, upper case.
use Rattle.std.specs.Prelude.{ℕ, ◌+◌, ◌-◌, ◌/◌, ◌%◌, List, [], ◌∷◌, nat_lt, if◌then◌else◌}
use Rattle.std.specs.Int.{to_be_bytes, w32}
use Rattle.std.specs.List.{flat_map}

-- 0 to 9, then A to F
abbrev pub hex_digit : ℕ → ℕ
hex_digit d = if nat_lt d 10 then 48 + d else 65 + (d - 10)

-- the two digits of a byte, the high one first
abbrev pub hex2 : ℕ → List ℕ
hex2 byte = hex_digit (byte / 16) ∷ hex_digit (byte % 16) ∷ []

-- the digits of bytes, two each
abbrev pub digits : List ℕ → List ℕ
digits bytes = flat_map hex2 bytes

-- the eight digits of a long
unfoldable pub hex8 : ℕ → List ℕ
hex8 value = digits (to_be_bytes w32 value)
