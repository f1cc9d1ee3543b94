-- Numbers as operands have them, and how they are spelled.
use Rattle.std.specs.Prelude.{ℕ, ◌+◌, ◌-◌, ◌%◌, ◌^◌, ◌==◌, ℤ, pos, negsuc, int_le, Bool, false, ◌&&◌, ◌||◌}
use Rattle.std.specs.Prelude.{Option, Some, None, if◌then◌else◌, option_and_then}
use Rattle.mb_instr.specs.declared.size.Size.{Size}
use Rattle.mb_instr.specs.declared.size.Size.TheVariants as size
use Rattle.mb_instr.specs.Sizes.{low_of, sign_extended}
use Rattle.mb_alu.specs.Signs.{modulo}
use Rattle.mb_mnemonics.specs.declared.range.Range.{Range}
use Rattle.mb_mnemonics.specs.declared.range.Range.TheVariants as range

-- the least number; negsuc n is -(n + 1)
abbrev pub least : Range → ℤ
least range.Byte = negsuc 127
least range.Word = negsuc 32767
least range.Long = negsuc 2147483647
least range.Displacement8 = negsuc 127
least range.Displacement16 = negsuc 32767
least range.Count = pos 1
least range.Vector = pos 0
least range.Offset = pos 0
least range.Width = pos 1

-- the greatest number
abbrev pub greatest : Range → ℤ
greatest range.Byte = pos 255
greatest range.Word = pos 65535
greatest range.Long = pos 4294967295
greatest range.Displacement8 = pos 127
greatest range.Displacement16 = pos 32767
greatest range.Count = pos 8
greatest range.Vector = pos 15
greatest range.Offset = pos 31
greatest range.Width = pos 32

-- how many values its spelling has: a byte immediate has a whole word, a width of 32 is spelled 0
abbrev pub values : Range → ℕ
values range.Byte = 2 ^ 16
values range.Word = 2 ^ 16
values range.Long = 2 ^ 32
values range.Displacement8 = 2 ^ 8
values range.Displacement16 = 2 ^ 16
values range.Count = 2 ^ 8
values range.Vector = 2 ^ 8
values range.Offset = 2 ^ 5
values range.Width = 2 ^ 5

-- a number of the range, as it is spelled
abbrev pub number : Range → ℤ → Option ℕ
number r e = if int_le (least r) e && int_le e (greatest r) then Some (modulo (values r) e) else None

-- the range of an immediate of the size
abbrev pub immediate_range : Size → Range
immediate_range size.Byte = range.Byte
immediate_range size.Word = range.Word
immediate_range size.Long = range.Long

-- how far a target is behind a place, modulo 2^32
abbrev pub distance : ℕ → ℤ → ℕ
distance place target = (modulo (2 ^ 32) target + (2 ^ 32 - place)) % 2 ^ 32

-- a displacement of the size from the place to the target: its low bytes, extended by their sign, say the distance
abbrev pub displacement : Size → ℕ → ℤ → Option ℕ
displacement size place target =
    if sign_extended size (distance place target) == distance place target
    then Some (low_of size (distance place target)) else None

-- 0 and -1 in the first word of a branch say that words follow
abbrev pub is_reserved : Size → ℕ → Bool
is_reserved size.Byte d = (d == 0) || (d == 255)
is_reserved size.Word d = false
is_reserved size.Long d = false

-- the displacement of a branch whose first word stands at the address; it counts from the word behind
abbrev pub branch : Size → ℕ → ℤ → Option ℕ
branch s at target = option_and_then
    (λ d. if is_reserved s d then None else Some d) (displacement s ((at + 2) % 2 ^ 32) target)
