-- The size that an operation has.
use Rattle.std.specs.Prelude.{ℕ, ◌+◌, ◌*◌, ◌^◌, Option, Some, None}
use Rattle.mb_instr.specs.Sizes.{size_bits, move_bits, chk_bits, long_bit}
use Rattle.mb_instr.specs.declared.size.Size.{Size}
use Rattle.mb_instr.specs.declared.size.Size.TheVariants as size
use Rattle.mb_syntax.specs.declared.statement.SizeLetter.{SizeLetter}
use Rattle.mb_syntax.specs.declared.statement.SizeLetter.TheVariants as letter
use Rattle.mb_mnemonics.specs.declared.sizes.SizeField.{SizeField}
use Rattle.mb_mnemonics.specs.declared.sizes.SizeField.TheVariants.{Usual, Bit8, Bit6, OfMove, OfCas, OfBounds, OfChk}
use Rattle.mb_mnemonics.specs.declared.sizes.Sizes.{Sizes}
use Rattle.mb_mnemonics.specs.declared.sizes.Sizes.TheVariants.{Unsized, Only, Written, Stated, Short, WordLong, Any}

-- the size that a letter says; `.S` says none
abbrev pub letter_size : SizeLetter → Option Size
letter_size letter.Byte = Some size.Byte
letter_size letter.Short = None
letter_size letter.Word = Some size.Word
letter_size letter.Long = Some size.Long

-- the size, where it is the written one
abbrev pub only : Size → Option Size → Option Size
only size.Byte (Some size.Byte) = Some size.Byte
only size.Word (Some size.Word) = Some size.Word
only size.Long (Some size.Long) = Some size.Long
only _ _ = None

abbrev pub not_byte_size : Option Size → Option Size
not_byte_size (Some size.Word) = Some size.Word
not_byte_size (Some size.Long) = Some size.Long
not_byte_size _ = None

-- The size of an operation whose name has this letter, or none. What has no size is as a long.
abbrev pub size_in : Sizes → Option SizeLetter → Option Size
size_in Unsized None = Some size.Long
size_in Unsized (Some l) = None
size_in (Only s) None = Some s
size_in (Only s) (Some l) = only s (letter_size l)
size_in (Written s) None = Some s
size_in (Written s) (Some l) = only s (letter_size l)
size_in (Stated s) None = None
size_in (Stated s) (Some l) = only s (letter_size l)
size_in Short (Some letter.Byte) = Some size.Byte
size_in Short (Some letter.Short) = Some size.Byte
size_in Short _ = None
size_in (WordLong field) None = Some size.Word
size_in (WordLong field) (Some l) = not_byte_size (letter_size l)
size_in (Any field) None = Some size.Word
size_in (Any field) (Some l) = letter_size l

-- the bits of the first word that say the size
abbrev pub field_bits : SizeField → Size → ℕ
field_bits Usual s = size_bits s * 2 ^ 6
field_bits Bit8 s = long_bit s * 2 ^ 8
field_bits Bit6 s = long_bit s * 2 ^ 6
field_bits OfMove s = move_bits s * 2 ^ 12
field_bits OfCas s = (size_bits s + 1) * 2 ^ 9
field_bits OfBounds s = size_bits s * 2 ^ 9
field_bits OfChk s = chk_bits s * 2 ^ 6

abbrev pub size_bits_by : Sizes → Size → ℕ
size_bits_by (WordLong field) s = field_bits field s
size_bits_by (Any field) s = field_bits field s
size_bits_by _ s = 0
