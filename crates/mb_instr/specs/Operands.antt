-- Which operands a row takes, and how an operand is spelled.
use Rattle.std.specs.Prelude.{ℕ, ⊤, ◌/◌, ◌%◌, ◌^◌, ◌<◌, Bool, true, false, ◌&&◌, ◌||◌, ◌==◌, not, nat_lt}
use Rattle.std.specs.Prelude.{List, [], ◌∷◌, ◌++◌, Option, Some, None, if◌then◌else◌}
use Rattle.mb_instr.specs.declared.size.Size.{Size}
use Rattle.mb_instr.specs.declared.size.Size.TheVariants as size
use Rattle.mb_instr.specs.declared.operand.Ea.{Ea}
use Rattle.mb_instr.specs.declared.operand.Ea.TheVariants.{Dn, An, Ind, Post, Pre, Disp, Index}
use Rattle.mb_instr.specs.declared.operand.Ea.TheVariants.{AbsW, AbsL, PcDisp, PcIndex, Imm}
use Rattle.mb_instr.specs.declared.operand.Ext.{Ext}
use Rattle.mb_instr.specs.declared.operand.Ext.TheVariants.{Brief, Full}
use Rattle.mb_instr.specs.declared.operand.OperandClass.{OperandClass}
use Rattle.mb_instr.specs.declared.operand.OperandClass.TheVariants.{All, Data, Alterable, DataAlterable}
use Rattle.mb_instr.specs.declared.operand.OperandClass.TheVariants.{DataAlterableOrPc, MemoryAlterable, Control}
use Rattle.mb_instr.specs.declared.operand.OperandClass.TheVariants.{ControlAlterable, StoreList, LoadList}
use Rattle.mb_instr.specs.declared.operand.OperandClass.TheVariants.{FieldSource, FieldTarget}
use Rattle.mb_instr.specs.FurtherWords.{extension_word}

-- memory that has one address
abbrev pub is_control : ℕ → ℕ → Bool
is_control mode lower = (mode == 2) || (mode == 5) || (mode == 6) || ((mode == 7) && nat_lt lower 4)

-- the same, that can be written
abbrev pub is_control_alterable : ℕ → ℕ → Bool
is_control_alterable mode lower = (mode == 2) || (mode == 5) || (mode == 6) || ((mode == 7) && nat_lt lower 2)

abbrev pub is_byte : Size → Bool
is_byte size.Byte = true
is_byte size.Word = false
is_byte size.Long = false

-- An has no bytes
abbrev pub has_size : Size → ℕ → Bool
has_size size mode = not (mode == 1) || not (is_byte size)

-- the modes and registers of a class
abbrev pub allows : OperandClass → Size → ℕ → ℕ → Bool
allows All size mode lower = (nat_lt mode 7 || nat_lt lower 5) && has_size size mode
allows Data size mode lower = (nat_lt mode 7 || nat_lt lower 5) && not (mode == 1)
allows Alterable size mode lower = (nat_lt mode 7 || nat_lt lower 2) && has_size size mode
allows DataAlterable size mode lower = (nat_lt mode 7 || nat_lt lower 2) && not (mode == 1)
allows DataAlterableOrPc size mode lower = (nat_lt mode 7 || nat_lt lower 4) && not (mode == 1)
allows MemoryAlterable size mode lower = (nat_lt mode 7 || nat_lt lower 2) && nat_lt 1 mode
allows Control size mode lower = is_control mode lower
allows ControlAlterable size mode lower = is_control_alterable mode lower
allows StoreList size mode lower = (mode == 4) || is_control_alterable mode lower
allows LoadList size mode lower = (mode == 3) || is_control mode lower
allows FieldSource size mode lower = (mode == 0) || is_control mode lower
allows FieldTarget size mode lower = (mode == 0) || is_control_alterable mode lower

-- the mode and the register that the first word has
abbrev pub mode : Ea → ℕ
mode (Dn n) = 0
mode (An n) = 1
mode (Ind n) = 2
mode (Post n) = 3
mode (Pre n) = 4
mode (Disp n d) = 5
mode (Index n e) = 6
mode _ = 7

abbrev pub lower : Ea → ℕ
lower (Dn n) = n
lower (An n) = n
lower (Ind n) = n
lower (Post n) = n
lower (Pre n) = n
lower (Disp n d) = n
lower (Index n e) = n
lower (AbsW a) = 0
lower (AbsL a) = 1
lower (PcDisp d) = 2
lower (PcIndex e) = 3
lower (Imm v) = 4

abbrev pub long_words : ℕ → List ℕ
long_words v = v / 65536 ∷ v % 65536 ∷ []

-- a full word's displacement: none, a word, a long
abbrev pub wide : ℕ → ℕ → List ℕ
wide width v = if width == 2 then v ∷ [] else if width == 3 then long_words v else []

-- such a displacement has its width, and is 0 where there is none
abbrev pub fits_width : ℕ → ℕ → Bool
fits_width width v = if width == 2 then nat_lt v 65536 else if width == 3 then true else v == 0

-- a full word's forms: bit 3 is 0, a base displacement is named, and so is a kind of indirection
abbrev pub is_full : ℕ → Bool
is_full w =
    let e = extension_word w in
    (w / 2 ^ 3 % 2 == 0) && not (e.base_width == 0) &&
    (if e.leaves_index == 0 then not (e.indirection == 4) else nat_lt e.indirection 4)

abbrev pub is_ext : Ext → Bool
is_ext (Brief w) = (extension_word w).is_full == 0
is_ext (Full w bd od) =
    let e = extension_word w in
    not (e.is_full == 0) && is_full w && fits_width e.base_width bd && fits_width e.outer_width od

abbrev pub ext : Ext → List ℕ
ext (Brief w) = w ∷ []
ext (Full w bd od) = w ∷ wide (extension_word w).base_width bd ++ wide (extension_word w).outer_width od

abbrev pub is_immediate : Size → ℕ → Bool
is_immediate size.Byte v = nat_lt v 65536
is_immediate size.Word v = nat_lt v 65536
is_immediate size.Long v = true

abbrev pub immediate : Size → ℕ → List ℕ
immediate size.Byte v = v ∷ []
immediate size.Word v = v ∷ []
immediate size.Long v = long_words v

-- the words behind the first
abbrev pub more : Size → Ea → List ℕ
more size (Disp n d) = d ∷ []
more size (Index n e) = ext e
more size (AbsW a) = a ∷ []
more size (AbsL a) = long_words a
more size (PcDisp d) = d ∷ []
more size (PcIndex e) = ext e
more size (Imm v) = immediate size v
more size _ = []

abbrev pub is_spelled : Size → Ea → Bool
is_spelled size (Index n e) = is_ext e
is_spelled size (PcIndex e) = is_ext e
is_spelled size (Imm v) = is_immediate size v
is_spelled size _ = true

-- an operand of the class that has a spelling
abbrev pub takes : OperandClass → Size → Ea → Bool
takes class size ea = allows class size (mode ea) (lower ea) && is_spelled size ea

-- the number of an address register
abbrev pub address_number : Ea → Option ℕ
address_number (An n) = Some n
address_number _ = None

-- an operand that a value can go to
abbrev pub IsDestination : Ea → Type 0
IsDestination (Imm v) = ⊥
IsDestination _ = ⊤

-- an operand that stands in memory
abbrev pub IsInMemory : Ea → Type 0
IsInMemory (Dn n) = ⊥
IsInMemory (An n) = ⊥
IsInMemory (Imm v) = ⊥
IsInMemory _ = ⊤

-- one that stands in a data register or in memory
abbrev pub IsData : Ea → Type 0
IsData (An n) = ⊥
IsData (Imm v) = ⊥
IsData _ = ⊤

-- ---- the ranges of an operand's parts

-- extension words, and displacements of 32 bits
abbrev pub IsExt : Ext → Type 0
IsExt (Brief w) = w < 2 ^ 16
IsExt (Full w bd od) = (w < 2 ^ 16) × (bd < 2 ^ 32) × (od < 2 ^ 32)

-- a byte immediate is kept as its whole word
abbrev pub IsImmediate : Size → ℕ → Type 0
IsImmediate size.Byte v = v < 2 ^ 16
IsImmediate size.Word v = v < 2 ^ 16
IsImmediate size.Long v = v < 2 ^ 32

-- registers are 0 to 7, and what is spelled by words fits them
abbrev pub IsEa : Size → Ea → Type 0
IsEa size (Dn n) = n < 8
IsEa size (An n) = n < 8
IsEa size (Ind n) = n < 8
IsEa size (Post n) = n < 8
IsEa size (Pre n) = n < 8
IsEa size (Disp n d) = (n < 8) × (d < 2 ^ 16)
IsEa size (Index n e) = (n < 8) × IsExt e
IsEa size (AbsW a) = a < 2 ^ 16
IsEa size (AbsL a) = a < 2 ^ 32
IsEa size (PcDisp d) = d < 2 ^ 16
IsEa size (PcIndex e) = IsExt e
IsEa size (Imm v) = IsImmediate size v
