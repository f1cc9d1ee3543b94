-- Operands as they are written, by the words that they have.
use Rattle.std.specs.Prelude.{ℕ, ◌+◌, ◌-◌, ◌*◌, ◌%◌, ◌^◌, ◌==◌, ℤ, pos, Bool, false, nat_lt, if◌then◌else◌}
use Rattle.std.specs.Prelude.{List, [], ◌∷◌, Option, Some, None}
use Rattle.mb_alu.specs.Signs.{signed_of}
use Rattle.mb_instr.specs.declared.size.Size.{Size}
use Rattle.mb_instr.specs.declared.size.Size.TheVariants.{Byte, Word, Long}
use Rattle.mb_instr.specs.Sizes.{sign_extended}
use Rattle.mb_instr.specs.FurtherWords.{extension_word}
use Rattle.mb_syntax.specs.declared.mode.Width.TheVariants as width
use Rattle.mb_syntax.specs.declared.mode.Width.{Width}
use Rattle.mb_syntax.specs.declared.mode.Scale.{Scale}
use Rattle.mb_syntax.specs.declared.mode.Scale.TheVariants as scale
use Rattle.mb_syntax.specs.declared.mode.Index.{Index}
use Rattle.mb_syntax.specs.declared.mode.Base.{Base}
use Rattle.mb_syntax.specs.declared.mode.Base.TheVariants as base
use Rattle.mb_syntax.specs.declared.mode.Displacement.{Displacement}
use Rattle.mb_syntax.specs.declared.mode.Indirection.{Indirection}
use Rattle.mb_syntax.specs.declared.mode.Indirection.TheVariants as indirection
use Rattle.mb_syntax.specs.declared.mode.FullForm.{FullForm}
use Rattle.mb_syntax.specs.declared.mode.Mode.{Mode}
use Rattle.mb_syntax.specs.declared.mode.Mode.TheVariants as mode

-- where a displacement of the size leads from a place
abbrev pub target_of : Size → ℕ → ℕ → ℤ
target_of size place d = pos ((place + sign_extended size d) % 2 ^ 32)

-- ---- the fields of extension words

abbrev pub width_of : ℕ → Width
width_of bit = if bit == 0 then width.Word else width.Long

abbrev pub scale_of : ℕ → Scale
scale_of bits =
    if bits == 0 then scale.One else if bits == 1 then scale.Two else if bits == 2 then scale.Four else scale.Eight

abbrev pub index_of : Bool → ℕ → Index
index_of is_dropped w = let e = extension_word w in record {
  is_address = e.is_address == 1;
  register = e.register;
  is_dropped = is_dropped;
  width = width_of e.is_long;
  scale = scale_of e.scale;
}

abbrev pub address_base : ℕ → ℕ → Base
address_base w n = if (extension_word w).leaves_base == 1 then base.NoAddress n else base.Address n

abbrev pub pc_base : ℕ → Base
pc_base w = if (extension_word w).leaves_base == 1 then base.NoPc else base.Pc

-- an index that is dropped stands before the place where the address is read
abbrev pub indirection_of : ℕ → Indirection
indirection_of w =
    let kind = (extension_word w).indirection in
    if kind == 0 then indirection.Direct else if nat_lt kind 4 then indirection.PreIndexed
    else indirection.PostIndexed

-- ---- words

-- the word behind so many, 0 where there is none
unfoldable pub word_in : ℕ → List ℕ → ℕ
word_in n [] = 0
word_in n (w ∷ ws) = if n == 0 then w else word_in (n - 1) ws

abbrev pub long_in : ℕ → List ℕ → ℕ
long_in n ws = word_in n ws * 2 ^ 16 + word_in (n + 1) ws

-- a number of the size, or where it leads from a place
abbrev pub value_from : Option ℕ → Size → ℕ → ℤ
value_from None s d = signed_of s d
value_from (Some place) s d = target_of s place d

-- a displacement behind so many words, with the width that a field says: 2 for a word, 3 for a long, else there is none
abbrev pub displacement_in : Option ℕ → ℕ → ℕ → List ℕ → Option (Displacement ℤ)
displacement_in from field n ws =
    if field == 2 then Some (record { value = value_from from Word (word_in n ws); width = width.Word })
    else if field == 3 then Some (record { value = value_from from Long (long_in n ws); width = width.Long })
    else None

-- where the outer displacement stands, by the field of the first one
abbrev pub outer_place : ℕ → ℕ
outer_place field = if field == 2 then 2 else if field == 3 then 3 else 1

-- a target counts from the place of the first extension word
abbrev pub place_of : ℕ → Base → Option ℕ
place_of place base.Pc = Some place
place_of place _ = None

-- a full extension word and its displacements at the front, of which the first word stands at the place
abbrev pub full_in : ℕ → Base → List ℕ → FullForm ℤ
full_in place from ws = let w = word_in 0 ws in let e = extension_word w in record {
  displacement = displacement_in (place_of place from) e.base_width 1 ws;
  base = from;
  index = index_of (e.leaves_index == 1) w;
  indirection = indirection_of w;
  outer = displacement_in None e.outer_width (outer_place e.base_width) ws;
}

-- the number of an immediate of the size; a byte has a whole word, which is $FF80 to $FFFF where it is negative
abbrev pub number_in : Size → List ℕ → ℤ
number_in Byte ws = let v = word_in 0 ws in if nat_lt v (2 ^ 16 - 2 ^ 7) then pos v else signed_of Word v
number_in Word ws = pos (word_in 0 ws)
number_in Long ws = pos (long_in 0 ws)

-- ---- operands

abbrev pub indexed_in : ℕ → ℕ → List ℕ → Mode ℤ
indexed_in place n ws = let w = word_in 0 ws in
    if (extension_word w).is_full == 0 then mode.Indexed n (signed_of Byte w) (index_of false w)
    else mode.Full (full_in place (address_base w n) ws)

abbrev pub pc_indexed_in : ℕ → List ℕ → Mode ℤ
pc_indexed_in place ws = let w = word_in 0 ws in
    if (extension_word w).is_full == 0 then mode.PcIndexed (target_of Byte place w) (index_of false w)
    else mode.Full (full_in place (pc_base w) ws)

-- an operand of mode 7, where the register's field says which mode it is
abbrev pub special_in : Size → ℕ → ℕ → List ℕ → Mode ℤ
special_in s place n ws =
    if n == 0 then mode.Absolute (pos (word_in 0 ws)) (Some width.Word)
    else if n == 1 then mode.Absolute (pos (long_in 0 ws)) (Some width.Long)
    else if n == 2 then mode.PcDisplaced (target_of Word place (word_in 0 ws))
    else if n == 3 then pc_indexed_in place ws
    else mode.Immediate (number_in s ws)

-- the operand of the size with the kind of mode and the register, whose extension words are at the front and stand at
-- the place
abbrev pub mode_in : Size → ℕ → ℕ → ℕ → List ℕ → Mode ℤ
mode_in s place kind n ws =
    if kind == 0 then mode.Data n else if kind == 1 then mode.Address n else if kind == 2 then mode.Indirect n
    else if kind == 3 then mode.PostIncrement n else if kind == 4 then mode.PreDecrement n
    else if kind == 5 then mode.Displaced n (signed_of Word (word_in 0 ws))
    else if kind == 6 then indexed_in place n ws
    else special_in s place n ws
