-- The text of a statement.
use Rattle.std.specs.Prelude.{ℕ, zero, suc, ◌+◌, ◌-◌, ◌%◌, ◌^◌, ◌==◌, ◌++◌, ℤ, Bool, true, false, not, ◌&&◌, ◌||◌}
use Rattle.std.specs.Prelude.{nat_lt, if◌then◌else◌, List, [], ◌∷◌, Option, Some, None, codes, is_some}
use Rattle.mb_instr.specs.Sizes.{is_set}
use Rattle.mb_instr.specs.declared.kinds.Caches.{Caches}
use Rattle.mb_instr.specs.declared.kinds.Caches.TheVariants as caches
use Rattle.mb_syntax.specs.declared.statement.SizeLetter.{SizeLetter}
use Rattle.mb_syntax.specs.declared.statement.SizeLetter.TheVariants as letter
use Rattle.mb_instr.specs.Control.{control_name}
use Rattle.mb_syntax.specs.declared.mode.Width.{Width}
use Rattle.mb_syntax.specs.declared.mode.Width.TheVariants as width
use Rattle.mb_syntax.specs.declared.mode.Scale.{Scale}
use Rattle.mb_syntax.specs.declared.mode.Scale.TheVariants as scale
use Rattle.mb_syntax.specs.declared.mode.Index.{Index}
use Rattle.mb_syntax.specs.declared.mode.Base.{Base}
use Rattle.mb_syntax.specs.declared.mode.Base.TheVariants as base
use Rattle.mb_syntax.specs.declared.mode.Displacement.{Displacement}
use Rattle.mb_syntax.specs.declared.mode.Indirection.{Indirection}
use Rattle.mb_syntax.specs.declared.mode.Indirection.TheVariants as indirection
use Rattle.mb_syntax.specs.declared.mode.FullForm.{FullForm}
use Rattle.mb_syntax.specs.declared.mode.Mode.{Mode}
use Rattle.mb_syntax.specs.declared.mode.Mode.TheVariants as mode
use Rattle.mb_syntax.specs.declared.operand.BitField.{BitField}
use Rattle.mb_syntax.specs.declared.operand.FieldNumber.{FieldNumber}
use Rattle.mb_syntax.specs.declared.operand.FieldNumber.TheVariants as field_number
use Rattle.mb_syntax.specs.declared.operand.Operand.{Operand}
use Rattle.mb_syntax.specs.declared.operand.Operand.TheVariants as operand
use Rattle.mb_mnemonics.specs.Modes.{is_dropped_base}
use Rattle.mb_statement.specs.Numbers.{signed}
use Rattle.mb_statement.specs.Statements.{Statement}

-- ---- registers

-- `Dn` and `An`
abbrev pub letter_code : Bool → ℕ
letter_code is_address = if is_address then 65 else 68

abbrev pub numbered : Bool → ℕ → List ℕ
numbered is_address n = letter_code is_address ∷ (48 + n % 8) ∷ []

-- 0 to 7 are D0 to D7, 8 to 15 are A0 to A7
abbrev pub general : ℕ → List ℕ
general n = numbered (not (nat_lt n 8)) n

abbrev pub caches_text : Caches → List ℕ
caches_text caches.Neither = codes "NC"
caches_text caches.Data = codes "DC"
caches_text caches.Instruction = codes "IC"
caches_text caches.Both = codes "BC"

-- ---- modes

abbrev pub width_text : Width → List ℕ
width_text width.Word = codes ".W"
width_text width.Long = codes ".L"

abbrev pub address_width_text : Option Width → List ℕ
address_width_text None = []
address_width_text (Some w) = width_text w

-- a scale of one is left out
abbrev pub scale_text : Scale → List ℕ
scale_text scale.One = []
scale_text scale.Two = codes "*2"
scale_text scale.Four = codes "*4"
scale_text scale.Eight = codes "*8"

-- `Z` before a register says that it is dropped
abbrev pub dropped_text : Bool → List ℕ
dropped_text is_dropped = if is_dropped then codes "Z" else []

abbrev pub index_text : Index → List ℕ
index_text i = dropped_text i.is_dropped ++ numbered i.is_address i.register ++ width_text i.width ++ scale_text i.scale

abbrev pub base_text : Base → List ℕ
base_text (base.Address n) = numbered true n
base_text base.Pc = codes "PC"
base_text (base.NoAddress n) = codes "Z" ++ numbered true n
base_text base.NoPc = codes "ZPC"

abbrev pub displacement_text : Displacement ℤ → List ℕ
displacement_text d = signed d.value ++ width_text d.width

-- a displacement before others
abbrev pub first_text : Option (Displacement ℤ) → List ℕ
first_text None = []
first_text (Some d) = displacement_text d ++ codes ","

-- a displacement behind others
abbrev pub outer_text : Option (Displacement ℤ) → List ℕ
outer_text None = []
outer_text (Some d) = codes "," ++ displacement_text d

abbrev pub is_one : Scale → Bool
is_one scale.One = true
is_one _ = false

abbrev pub is_word : Width → Bool
is_word width.Word = true
is_word width.Long = false

-- the index that a form has which has none
abbrev pub is_no_index : Index → Bool
is_no_index i = i.is_dropped && not i.is_address && (i.register == 0) && is_word i.width && is_one i.scale

abbrev pub is_direct : Indirection → Bool
is_direct indirection.Direct = true
is_direct _ = false

-- brackets, a base displacement with its width and a dropped base ask for the full form
abbrev pub asks_full : FullForm ℤ → Bool
asks_full f = not (is_direct f.indirection) || is_some f.displacement || is_dropped_base f.base

-- an index that the form has anyway is left out, where something else asks for the full form
abbrev pub is_left_out : FullForm ℤ → Bool
is_left_out f = is_no_index f.index && asks_full f

abbrev pub behind_base_text : FullForm ℤ → List ℕ
behind_base_text f = if is_left_out f then [] else codes "," ++ index_text f.index

-- `(bd,An,Xn)`, `([bd,An,Xn],od)` or `([bd,An],Xn,od)`
abbrev pub full_text : FullForm ℤ → List ℕ
full_text f = elim f.indirection [
  | indirection.Direct ↦
      codes "(" ++ first_text f.displacement ++ base_text f.base ++ behind_base_text f ++ codes ")"
  | indirection.PreIndexed ↦
      codes "([" ++ first_text f.displacement ++ base_text f.base ++ behind_base_text f ++ codes "]"
      ++ outer_text f.outer ++ codes ")"
  | indirection.PostIndexed ↦
      codes "([" ++ first_text f.displacement ++ base_text f.base ++ codes "]" ++ behind_base_text f
      ++ outer_text f.outer ++ codes ")"
]

abbrev pub mode_text : Mode ℤ → List ℕ
mode_text (mode.Data n) = numbered false n
mode_text (mode.Address n) = numbered true n
mode_text (mode.Indirect n) = codes "(" ++ numbered true n ++ codes ")"
mode_text (mode.PostIncrement n) = codes "(" ++ numbered true n ++ codes ")+"
mode_text (mode.PreDecrement n) = codes "-(" ++ numbered true n ++ codes ")"
mode_text (mode.Displaced n e) = codes "(" ++ signed e ++ codes "," ++ numbered true n ++ codes ")"
mode_text (mode.Indexed n e i) =
    codes "(" ++ signed e ++ codes "," ++ numbered true n ++ codes "," ++ index_text i ++ codes ")"
mode_text (mode.Absolute e w) = signed e ++ address_width_text w
mode_text (mode.PcDisplaced e) = codes "(" ++ signed e ++ codes ",PC)"
mode_text (mode.PcIndexed e i) = codes "(" ++ signed e ++ codes ",PC," ++ index_text i ++ codes ")"
mode_text (mode.Full f) = full_text f
mode_text (mode.Immediate e) = codes "#" ++ signed e

-- ---- operands

-- `{o:w}`
abbrev pub field_number_text : FieldNumber ℤ → List ℕ
field_number_text (field_number.Data n) = numbered false n
field_number_text (field_number.Number e) = signed e

abbrev pub field_text : BitField ℤ → List ℕ
field_text f = codes "{" ++ field_number_text f.offset ++ codes ":" ++ field_number_text f.width ++ codes "}"

-- register n stands in a list
abbrev pub has : ℕ → ℕ → Bool
has mask n = is_set mask n

-- the first and the last register of a run, in which data and address registers stand apart
abbrev pub begins : ℕ → ℕ → Bool
begins mask n = has mask n && ((n % 8 == 0) || not (has mask (n - 1)))

abbrev pub ends : ℕ → ℕ → Bool
ends mask n = has mask n && ((n % 8 == 7) || not (has mask (n + 1)))

-- what a register adds: the beginning of a run, or the end of one of two or more
unfoldable pub listed : ℕ → ℕ → List ℕ
listed mask n =
    if begins mask n then (if mask % 2 ^ n == 0 then [] else codes "/") ++ general n
    else if ends mask n then codes "-" ++ general n
    else []

-- the first registers of a list
unfoldable pub listed_below : ℕ → ℕ → List ℕ
listed_below mask zero = []
listed_below mask (suc n) = listed_below mask n ++ listed mask n

abbrev pub list_text : ℕ → List ℕ
list_text mask = listed_below mask 16

abbrev pub operand_text : Operand ℤ → List ℕ
operand_text (operand.Mode m) = mode_text m
operand_text (operand.Field m f) = mode_text m ++ field_text f
operand_text operand.Sr = codes "SR"
operand_text operand.Ccr = codes "CCR"
operand_text (operand.Control c) = control_name c
operand_text (operand.List mask) = list_text mask
operand_text (operand.Pair n m) = numbered false n ++ codes ":" ++ numbered false m
operand_text (operand.IndirectPair n m) = codes "(" ++ general n ++ codes "):(" ++ general m ++ codes ")"
operand_text (operand.Caches c) = caches_text c
operand_text (operand.Text t) = []

-- ---- statements

abbrev pub size_text : Option SizeLetter → List ℕ
size_text None = []
size_text (Some letter.Byte) = codes ".B"
size_text (Some letter.Short) = codes ".S"
size_text (Some letter.Word) = codes ".W"
size_text (Some letter.Long) = codes ".L"

-- operands, each behind a mark: a blank before the first, and commas
abbrev pub operands_behind : ℕ → List (Operand ℤ) → List ℕ
operands_behind mark [] = []
operands_behind mark (o ∷ os) = mark ∷ operand_text o ++ operands_behind 44 os

unfoldable pub statement_text : Statement → List ℕ
statement_text s = s.name ++ size_text s.size ++ operands_behind 32 s.operands
