-- Shifts by many bits at once.
use Rattle.std.specs.Prelude.{ℕ, ◌+◌, ◌-◌, ◌*◌, ◌/◌, ◌%◌, ◌^◌, Bool, true, false, nat_le, nat_lt, if◌then◌else◌}
use Rattle.mb_instr.specs.declared.size.Size.{Size}
use Rattle.mb_instr.specs.Sizes.{values_of}
use Rattle.mb_instr.specs.declared.kinds.ShiftKind.{ShiftKind}
use Rattle.mb_instr.specs.declared.kinds.ShiftKind.TheVariants.{Arithmetic, Logical, RotateExtended, Rotate}
use Rattle.mb_alu.specs.Signs.{is_negative}

-- the lowest bits of a word change places with the others
abbrev pub exchanged : ℕ → ℕ → ℕ → ℕ
exchanged bits lower word = word % 2 ^ lower * 2 ^ (bits - lower) + word / 2 ^ lower

-- the bits leave at one end and enter at the other; after all of them the word is as it was
abbrev pub turned : Bool → ℕ → ℕ → ℕ → ℕ
turned true bits count word = exchanged bits (bits - count % bits) word
turned false bits count word = exchanged bits (count % bits) word

-- a quotient rounded down, of a number that is negative where its sign is set
abbrev pub halved : Size → ℕ → ℕ → ℕ
halved size count value = if is_negative size value
    then values_of size - 1 - (values_of size - 1 - value) / 2 ^ count
    else value / 2 ^ count

-- the signed operand times a power of two is in the signed range, whose lower end is further from 0
abbrev pub has_room : Size → ℕ → ℕ → Bool
has_room size count value = if is_negative size value
    then nat_le ((values_of size - value) * 2 ^ count) (values_of size / 2)
    else nat_lt (value * 2 ^ count) (values_of size / 2)

-- the kinds that keep X, or turn it with the operand
abbrev pub rotates : ShiftKind → Bool
rotates Arithmetic = false
rotates Logical = false
rotates RotateExtended = true
rotates Rotate = true
