-- Addressing modes as they are written, and their words.
use Rattle.std.specs.Prelude.{ℕ, ◌+◌, ◌*◌, ◌%◌, ◌^◌, ℤ, Bool, true, false, List, [], ◌∷◌, ◌++◌, Option}
use Rattle.std.specs.Prelude.{Some, None, if◌then◌else◌, option_map, option_and_then}
use Rattle.mb_instr.specs.declared.size.Size.{Size}
use Rattle.mb_instr.specs.declared.size.Size.TheVariants as size
use Rattle.mb_instr.specs.declared.operand.OperandClass.{OperandClass}
use Rattle.mb_instr.specs.Kinds.{flag}
use Rattle.mb_instr.specs.Operands.{allows, immediate, long_words}
use Rattle.mb_syntax.specs.declared.mode.Width.{Width}
use Rattle.mb_syntax.specs.declared.mode.Width.TheVariants as width
use Rattle.mb_syntax.specs.declared.mode.Scale.{Scale}
use Rattle.mb_syntax.specs.declared.mode.Scale.TheVariants.{One, Two, Four, Eight}
use Rattle.mb_syntax.specs.declared.mode.Index.{Index}
use Rattle.mb_syntax.specs.declared.mode.Base.{Base}
use Rattle.mb_syntax.specs.declared.mode.Base.TheVariants as base
use Rattle.mb_syntax.specs.declared.mode.Displacement.{Displacement}
use Rattle.mb_syntax.specs.declared.mode.Indirection.TheVariants.{Direct, PreIndexed, PostIndexed}
use Rattle.mb_syntax.specs.declared.mode.FullForm.{FullForm}
use Rattle.mb_syntax.specs.declared.mode.Mode.{Mode}
use Rattle.mb_syntax.specs.declared.mode.Mode.TheVariants.{Data, Address, Indirect, PostIncrement, PreDecrement}
use Rattle.mb_syntax.specs.declared.mode.Mode.TheVariants.{Displaced, Indexed, Absolute, PcDisplaced, PcIndexed}
use Rattle.mb_syntax.specs.declared.mode.Mode.TheVariants.{Full as FullMode, Immediate}
use Rattle.mb_mnemonics.specs.declared.range.Range.TheVariants as range
use Rattle.mb_mnemonics.specs.Ranges.{number, immediate_range, displacement}

-- ---- what the form alone says

-- the mode that the first word has
abbrev pub base_mode : Base → ℕ
base_mode (base.Address n) = 6
base_mode (base.NoAddress n) = 6
base_mode base.Pc = 7
base_mode base.NoPc = 7

abbrev pub mode_of : Mode ℤ → ℕ
mode_of (Data n) = 0
mode_of (Address n) = 1
mode_of (Indirect n) = 2
mode_of (PostIncrement n) = 3
mode_of (PreDecrement n) = 4
mode_of (Displaced n e) = 5
mode_of (Indexed n e i) = 6
mode_of (FullMode f) = base_mode f.base
mode_of _ = 7

-- the register that the first word has
abbrev pub base_lower : Base → ℕ
base_lower (base.Address n) = n
base_lower (base.NoAddress n) = n
base_lower base.Pc = 3
base_lower base.NoPc = 3

-- an absolute address is a long where it has no width
abbrev pub is_word : Option Width → Bool
is_word None = false
is_word (Some width.Word) = true
is_word (Some width.Long) = false

abbrev pub lower_of : Mode ℤ → ℕ
lower_of (Data n) = n
lower_of (Address n) = n
lower_of (Indirect n) = n
lower_of (PostIncrement n) = n
lower_of (PreDecrement n) = n
lower_of (Displaced n e) = n
lower_of (Indexed n e i) = n
lower_of (Absolute e w) = if is_word w then 0 else 1
lower_of (PcDisplaced e) = 2
lower_of (PcIndexed e i) = 3
lower_of (FullMode f) = base_lower f.base
lower_of (Immediate e) = 4

-- a mode of the class
abbrev pub in_class : OperandClass → Size → Mode ℤ → Bool
in_class class size mode = allows class size (mode_of mode) (lower_of mode)

-- how many words a displacement of a full form has
abbrev pub displacement_words : Option (Displacement ℤ) → ℕ
displacement_words None = 0
displacement_words (Some d) = elim d.width [ width.Word ↦ 1 | width.Long ↦ 2 ]

-- how many words an immediate has
abbrev pub immediate_words : Size → ℕ
immediate_words size.Byte = 1
immediate_words size.Word = 1
immediate_words size.Long = 2

-- how many words a full form has; there is no outer displacement where nothing is read from memory
abbrev pub outer_of : FullForm ℤ → Option (Displacement ℤ)
outer_of f = elim f.indirection [ Direct ↦ None | PreIndexed ↦ f.outer | PostIndexed ↦ f.outer ]

-- how many words the mode has behind the first word
unfoldable pub mode_words : Size → Mode ℤ → ℕ
mode_words size (Displaced n e) = 1
mode_words size (Indexed n e i) = 1
mode_words size (Absolute e w) = if is_word w then 1 else 2
mode_words size (PcDisplaced e) = 1
mode_words size (PcIndexed e i) = 1
mode_words size (FullMode f) = 1 + displacement_words f.displacement + displacement_words (outer_of f)
mode_words size (Immediate e) = immediate_words size
mode_words size _ = 0

-- ---- extension words

abbrev pub scale_bits : Scale → ℕ
scale_bits One = 0
scale_bits Two = 1
scale_bits Four = 2
scale_bits Eight = 3

abbrev pub is_long : Width → Bool
is_long width.Word = false
is_long width.Long = true

-- an index in bits 15 to 9 of an extension word
abbrev pub index_bits : Index → ℕ
index_bits i =
    flag i.is_address * 2 ^ 15 + i.register % 8 * 2 ^ 12 + flag (is_long i.width) * 2 ^ 11 + scale_bits i.scale * 2 ^ 9

-- `rnnn lkk0 dddddddd`
abbrev pub brief : Index → ℕ → ℕ
brief i d = index_bits i + d % 2 ^ 8

-- the field that says how long a displacement is: none, a word, a long
abbrev pub displacement_bits : Option (Displacement ℤ) → ℕ
displacement_bits d = 1 + displacement_words d

abbrev pub is_dropped_base : Base → Bool
is_dropped_base (base.Address n) = false
is_dropped_base (base.NoAddress n) = true
is_dropped_base base.Pc = false
is_dropped_base base.NoPc = true

-- where the address is read from memory: not, or behind the index or before it, with the outer displacement's length;
-- where the index is dropped it is the same behind it and before it
abbrev pub indirection_bits : FullForm ℤ → ℕ
indirection_bits f = elim f.indirection [
  | Direct ↦ 0
  | PreIndexed ↦ displacement_bits f.outer
  | PostIndexed ↦ if f.index.is_dropped then displacement_bits f.outer else 4 + displacement_bits f.outer
]

-- `rnnn lkk1 BIbb 0iii`
abbrev pub full_word : FullForm ℤ → ℕ
full_word f =
    index_bits f.index + 2 ^ 8 + flag (is_dropped_base f.base) * 2 ^ 7 + flag f.index.is_dropped * 2 ^ 6
    + displacement_bits f.displacement * 2 ^ 4 + indirection_bits f

abbrev pub width_size : Width → Size
width_size width.Word = size.Word
width_size width.Long = size.Long

-- a value of so many bits as words
abbrev pub words_of : Width → ℕ → List ℕ
words_of width.Word v = v ∷ []
words_of width.Long v = long_words v

-- a displacement of a full form, where there is one
abbrev pub plain : Option (Displacement ℤ) → Option (List ℕ)
plain None = Some []
plain (Some d) = option_map (words_of d.width)
    (number (elim d.width [ width.Word ↦ range.Displacement16 | width.Long ↦ range.Long ]) d.value)

-- the same, to a target
abbrev pub from_pc : ℕ → Option (Displacement ℤ) → Option (List ℕ)
from_pc place None = Some []
from_pc place (Some d) = option_map (words_of d.width) (displacement (width_size d.width) place d.value)

abbrev pub base_displacement : ℕ → FullForm ℤ → Option (List ℕ)
base_displacement place f = elim f.base [
  | base.Address n ↦ plain f.displacement
  | base.NoAddress n ↦ plain f.displacement
  | base.Pc ↦ from_pc place f.displacement
  | base.NoPc ↦ plain f.displacement
]

-- the words of a full form of which the first stands at the place
abbrev pub full : ℕ → FullForm ℤ → Option (List ℕ)
full place f = option_and_then (λ bd. option_map (λ od. full_word f ∷ bd ++ od) (plain (outer_of f)))
    (base_displacement place f)

-- The words of the mode behind the first word, for an operand of the size, where the first of them stands at the place;
-- none where a number is out of its range.
abbrev pub extension_words : Size → ℕ → Mode ℤ → Option (List ℕ)
extension_words s place (Displaced n e) = option_map (λ d. d ∷ []) (number range.Displacement16 e)
extension_words s place (Indexed n e i) = option_map (λ d. brief i d ∷ []) (number range.Displacement8 e)
extension_words s place (Absolute e w) =
    if is_word w then option_map (λ a. a ∷ []) (number range.Word e)
    else option_map long_words (number range.Long e)
extension_words s place (PcDisplaced e) = option_map (λ d. d ∷ []) (displacement size.Word place e)
extension_words s place (PcIndexed e i) = option_map (λ d. brief i d ∷ []) (displacement size.Byte place e)
extension_words s place (FullMode f) = full place f
extension_words s place (Immediate e) = option_map (immediate s) (number (immediate_range s) e)
extension_words s place _ = Some []
