-- Bit fields, as parts of a big-endian number. The offset counts from its highest bit.
use Rattle.std.specs.Prelude.{ℕ, zero, suc, ◌+◌, ◌-◌, ◌*◌, ◌/◌, ◌%◌, ◌^◌, nat_lt, if◌then◌else◌}

-- how many bits stand behind the field
abbrev pub bits_behind : ℕ → ℕ → ℕ → ℕ
bits_behind bits offset width = bits - (offset + width)

abbrev pub field_get_of : ℕ → ℕ → ℕ → ℕ → ℕ
field_get_of word bits offset width = word / 2 ^ bits_behind bits offset width % 2 ^ width

-- what stands before the field, the low bits of the value, and what stands behind the field
abbrev pub field_put_of : ℕ → ℕ → ℕ → ℕ → ℕ → ℕ
field_put_of word bits offset width value =
    let rest = bits_behind bits offset width in
    (word / 2 ^ (rest + width) * 2 ^ width + value % 2 ^ width) * 2 ^ rest + word % 2 ^ rest

-- the zeros before the first one among so many bits
unfoldable pub field_first_of : ℕ → ℕ → ℕ
field_first_of value zero = 0
field_first_of value (suc width) = if nat_lt value (2 ^ width) then suc (field_first_of value width) else 0
