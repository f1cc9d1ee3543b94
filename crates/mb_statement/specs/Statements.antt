-- Statements as they are listed: what a line of the table of mnemonics makes of words.
use Rattle.std.specs.Prelude.{ℕ, zero, suc, ◌+◌, ◌-◌, ◌*◌, ◌/◌, ◌%◌, ◌^◌, ◌==◌, ℤ, pos, Bool, bit_and, ◌++◌}
use Rattle.std.specs.Prelude.{nat_lt, if◌then◌else◌, List, [], ◌∷◌, drop, Option, Some, None, option_map}
use Rattle.std.specs.Int.{reverse_bits, w16}
use Rattle.mb_alu.specs.Signs.{signed_of}
use Rattle.mb_instr.specs.declared.size.Size.{Size}
use Rattle.mb_instr.specs.declared.size.Size.TheVariants as size
use Rattle.mb_instr.specs.declared.control.ControlRegister.{ControlRegister}
use Rattle.mb_instr.specs.declared.control.ControlRegister.TheVariants as control
use Rattle.mb_instr.specs.Control.{control_of}
use Rattle.mb_instr.specs.Kinds.{caches_kind}
use Rattle.mb_instr.specs.Sizes.{move_size, size_of, size_of_bit}
use Rattle.mb_instr.specs.FurtherWords.{field_word}
use Rattle.mb_syntax.specs.declared.statement.SizeLetter.{SizeLetter}
use Rattle.mb_syntax.specs.declared.statement.SizeLetter.TheVariants as letter
use Rattle.mb_syntax.specs.declared.mode.Width.TheVariants as width
use Rattle.mb_syntax.specs.declared.mode.Mode.{Mode}
use Rattle.mb_syntax.specs.declared.mode.Mode.TheVariants as mode
use Rattle.mb_syntax.specs.declared.operand.BitField.{BitField}
use Rattle.mb_syntax.specs.declared.operand.FieldNumber.{FieldNumber}
use Rattle.mb_syntax.specs.declared.operand.FieldNumber.TheVariants as field_part
use Rattle.mb_syntax.specs.declared.operand.Operand.{Operand}
use Rattle.mb_syntax.specs.declared.operand.Operand.TheVariants as operand
use Rattle.mb_mnemonics.specs.declared.line.Line.{Line}
use Rattle.mb_mnemonics.specs.declared.pattern.Place.{Place}
use Rattle.mb_mnemonics.specs.declared.pattern.Place.TheVariants.{X, Y, Upper, Middle, Lower, Both}
use Rattle.mb_mnemonics.specs.declared.pattern.Pattern.{Pattern}
use Rattle.mb_mnemonics.specs.declared.pattern.Pattern.TheVariants as pattern
use Rattle.mb_mnemonics.specs.declared.range.Range.{Range}
use Rattle.mb_mnemonics.specs.declared.range.Range.TheVariants as range
use Rattle.mb_mnemonics.specs.declared.sizes.SizeField.{SizeField}
use Rattle.mb_mnemonics.specs.declared.sizes.SizeField.TheVariants.{Usual, Bit8, Bit6, OfMove, OfCas, OfBounds, OfChk}
use Rattle.mb_mnemonics.specs.declared.sizes.Sizes.{Sizes}
use Rattle.mb_mnemonics.specs.declared.sizes.Sizes.TheVariants.{Unsized, Only, Written, Stated, Short, WordLong, Any}
use Rattle.mb_mnemonics.specs.Lines.{ending_name, endings, patterns_of, stem_of}
use Rattle.mb_mnemonics.specs.Operands.{operand_words}
use Rattle.mb_statement.specs.Modes.{long_in, mode_in, number_in, target_of, word_in}

-- the name of an operation, its size where one is written, and its operands
pub record Statement : Type 0 where
  pub name : List ℕ
  pub size : Option SizeLetter
  pub operands : List (Operand ℤ)

-- ---- sizes

-- the size that the first word says
abbrev pub size_field : SizeField → ℕ → Option Size
size_field Usual w = size_of (w / 2 ^ 6 % 4)
size_field Bit8 w = Some (size_of_bit (w / 2 ^ 8 % 2))
size_field Bit6 w = Some (size_of_bit (w / 2 ^ 6 % 2))
size_field OfMove w = if w / 2 ^ 12 % 4 == 0 then None else Some (move_size (w / 2 ^ 12 % 4))
size_field OfCas w = if w / 2 ^ 9 % 4 == 0 then None else size_of (w / 2 ^ 9 % 4 - 1)
size_field OfBounds w = size_of (w / 2 ^ 9 % 4)
size_field OfChk w = Some (if w / 2 ^ 7 % 2 == 1 then size.Word else size.Long)

-- the size of a line's statement, by the first word; what has no size is as a long
abbrev pub size_by : Sizes → ℕ → Option Size
size_by Unsized w = Some size.Long
size_by (Only s) w = Some s
size_by (Written s) w = Some s
size_by (Stated s) w = Some s
size_by Short w = Some size.Byte
size_by (WordLong field) w = size_field field w
size_by (Any field) w = size_field field w

abbrev pub letter_of : Size → SizeLetter
letter_of size.Byte = letter.Byte
letter_of size.Word = letter.Word
letter_of size.Long = letter.Long

-- the size as it is listed
abbrev pub letter_by : Sizes → Size → Option SizeLetter
letter_by Unsized s = None
letter_by (Only t) s = None
letter_by _ s = Some (letter_of s)

-- ---- operands

abbrev pub data_operand : ℕ → Operand ℤ
data_operand n = operand.Mode (mode.Data n)

abbrev pub address_operand : ℕ → Operand ℤ
address_operand n = operand.Mode (mode.Address n)

-- 0 to 7 are D0 to D7, 8 to 15 are A0 to A7
abbrev pub register : ℕ → Operand ℤ
register n = if nat_lt n 8 then data_operand n else address_operand (n - 8)

abbrev pub immediate : ℤ → Operand ℤ
immediate e = operand.Mode (mode.Immediate e)

-- a list of registers; one alone is no list
unfoldable pub one_among : ℕ → ℕ → Operand ℤ
one_among mask zero = operand.List mask
one_among mask (suc n) = if mask == 2 ^ n then register n else one_among mask n

-- bit 5 says that a register's number stands there
abbrev pub field_number : Bool → ℕ → ℕ → FieldNumber ℤ
field_number is_register n e = if is_register then field_part.Data n else field_part.Number (pos e)

-- `0nnn Oooo ooWw wwww`; a width of 32 is spelled 0
abbrev pub field_of : ℕ → BitField ℤ
field_of w = let f = field_word w in record {
  offset = field_number f.offset_is_register f.offset_register f.offset;
  width = field_number f.width_is_register f.width_register (if f.width == 0 then 32 else f.width);
}

-- the control register with a code; a code that no register has stands as a number
abbrev pub control_operand : Option ControlRegister → ℕ → Operand ℤ
control_operand (Some register) code = operand.Control register
control_operand None code = immediate (pos code)

-- ---- operands by patterns

-- the first word and the two behind it
pub record Front : Type 0 where
  pub first : ℕ
  pub second : ℕ
  pub third : ℕ

abbrev pub front_of : List ℕ → Front
front_of ws = record { first = word_in 0 ws; second = word_in 1 ws; third = word_in 2 ws }

-- the number of a register at its place in the first word or in one behind it
abbrev pub register_at : Place → ℕ → ℕ → ℕ
register_at X first w = first / 2 ^ 9 % 8
register_at Y first w = first % 8
register_at Upper first w = w / 2 ^ 12 % 8
register_at Middle first w = w / 2 ^ 6 % 8
register_at Lower first w = w % 8
register_at Both first w = w % 8

-- a number in the first word: 8 is spelled 0, and a byte has its sign
abbrev pub quick_in : Range → ℕ → ℤ
quick_in range.Count w = pos (if w / 2 ^ 9 % 8 == 0 then 8 else w / 2 ^ 9 % 8)
quick_in range.Byte w = signed_of size.Byte w
quick_in _ w = pos (w % 16)

-- a displacement of the size: in the first word, the word behind it, or in words of its own
abbrev pub reach_in : Size → Front → List ℕ → ℕ
reach_in size.Byte f own = f.first % 2 ^ 8
reach_in size.Word f own = f.second
reach_in size.Long f own = long_in 0 own

-- the operand in bits 5 to 0 of the first word, and MOVE's destination
abbrev pub source_in : Size → ℕ → Front → List ℕ → Mode ℤ
source_in s here f own = mode_in s here (f.first / 2 ^ 3 % 8) (f.first % 8) own

abbrev pub destination_in : Size → ℕ → Front → List ℕ → Mode ℤ
destination_in s here f own = mode_in s here (f.first / 2 ^ 6 % 8) (f.first / 2 ^ 9 % 8) own

-- The operand of a pattern in an instruction at an address, by its front and by the words that are the operand's own,
-- which stand here.
abbrev pub operand_in : Pattern → Size → ℕ → ℕ → Front → List ℕ → Operand ℤ
operand_in (pattern.Mode class) s at here f own = operand.Mode (source_in s here f own)
operand_in (pattern.Destination class) s at here f own = operand.Mode (destination_in s here f own)
operand_in (pattern.Memory class) s at here f own = operand.Mode (source_in s here f own)
operand_in pattern.DataMode s at here f own = operand.Mode (source_in s here f own)
operand_in (pattern.FieldMode class) s at here f own = operand.Field (source_in s here f own) (field_of f.second)
operand_in (pattern.Data place) s at here f own = data_operand (register_at place f.first f.second)
operand_in (pattern.Address place) s at here f own = address_operand (register_at place f.first f.second)
operand_in (pattern.Register place) s at here f own = register (f.second / 2 ^ 12)
operand_in (pattern.Indirect place) s at here f own =
    operand.Mode (mode.Indirect (register_at place f.first f.second))
operand_in (pattern.PostIncrement place) s at here f own =
    operand.Mode (mode.PostIncrement (register_at place f.first f.second))
operand_in (pattern.PreDecrement place) s at here f own =
    operand.Mode (mode.PreDecrement (register_at place f.first f.second))
operand_in pattern.Immediate s at here f own = immediate (number_in s own)
operand_in (pattern.Quick r) s at here f own = immediate (quick_in r f.first)
operand_in pattern.WordNumber s at here f own = immediate (pos f.second)
operand_in (pattern.Distance reach) s at here f own = immediate (signed_of reach (reach_in reach f own))
operand_in (pattern.Target reach) s at here f own =
    operand.Mode (mode.Absolute (target_of reach (at + 2) (reach_in reach f own)) None)
operand_in pattern.RegisterList s at here f own = one_among f.second 16
operand_in pattern.ReversedList s at here f own = one_among (reverse_bits w16 f.second) 16
operand_in pattern.Displaced s at here f own =
    operand.Mode (mode.Displaced (f.first % 8) (signed_of size.Word f.second))
operand_in pattern.Absolute s at here f own = operand.Mode (mode.Absolute (pos (long_in 0 own)) (Some width.Long))
operand_in pattern.Sr s at here f own = operand.Sr
operand_in pattern.Ccr s at here f own = operand.Ccr
operand_in pattern.Usp s at here f own = operand.Control control.Usp
operand_in pattern.Control s at here f own = control_operand (control_of (f.second % 2 ^ 12)) (f.second % 2 ^ 12)
operand_in (pattern.Pair h l) s at here f own =
    operand.Pair (register_at h f.first f.second) (register_at l f.first f.second)
operand_in (pattern.Pairs place) s at here f own =
    operand.Pair (register_at place f.first f.second) (register_at place f.first f.third)
operand_in pattern.IndirectPairs s at here f own = operand.IndirectPair (f.second / 2 ^ 12) (f.third / 2 ^ 12)
operand_in pattern.Caches s at here f own = operand.Caches (caches_kind (f.first / 2 ^ 6 % 4))

-- the operands of patterns, of which the first has its own words here
abbrev pub operands_in : List Pattern → Size → ℕ → ℕ → Front → List ℕ → List (Operand ℤ)
operands_in [] s at here f own = []
operands_in (p ∷ ps) s at here f own =
    let o = operand_in p s at here f own in let n = operand_words p s o in
    o ∷ operands_in ps s at ((here + 2 * n) % 2 ^ 32) f (drop n own)

-- ---- statements

abbrev pub statement_in : Line → Size → ℕ → List ℕ → Statement
statement_in l s at ws = record {
  name = stem_of l.stem ++ ending_name (endings l.ending) (word_in 0 ws / 2 ^ 8 % 16);
  size = letter_by l.sizes s;
  operands = operands_in (patterns_of l.operands) s at ((at + 2 * (1 + l.words)) % 2 ^ 32) (front_of ws)
      (drop (1 + l.words) ws);
}

-- the first word has the bits of the line that belong to no field
abbrev pub has_bits : Line → ℕ → Bool
has_bits l first = bit_and first l.fixed == l.first

-- A line's statement of the words at an address, where the first word says a size that the line has. Whether it says
-- just these words is left open.
unfoldable pub statement_by : Line → ℕ → List ℕ → Option Statement
statement_by l at ws = option_map (λ s. statement_in l s at ws) (size_by l.sizes (word_in 0 ws))
