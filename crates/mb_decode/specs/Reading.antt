-- Reading words from left to right.
use Rattle.std.specs.Prelude.{◌≡◌, ℕ, ◌+◌, ◌*◌, Bool, ◌==◌, List, [], ◌∷◌}
use Rattle.std.specs.Prelude.{Result, Ok, Err, Some, None, if◌then◌else◌}
use denote.Ref.{Bor}
use Rattle.mb_instr.specs.declared.size.Size.{Size}
use Rattle.mb_instr.specs.declared.size.Size.TheVariants as size
use Rattle.mb_instr.specs.declared.operand.Ea.{Ea}
use Rattle.mb_instr.specs.declared.operand.Ea.TheVariants.{Dn, An, Ind, Post, Pre, Disp, Index}
use Rattle.mb_instr.specs.declared.operand.Ea.TheVariants.{AbsW, AbsL, PcDisp, PcIndex, Imm}
use Rattle.mb_instr.specs.declared.operand.Ext.{Ext}
use Rattle.mb_instr.specs.declared.operand.Ext.TheVariants.{Brief, Full}
use Rattle.mb_instr.specs.declared.operand.OperandClass.{OperandClass}
use Rattle.mb_instr.specs.declared.rule.WordRule.{WordRule}
use Rattle.mb_instr.specs.declared.kinds.Branch.{Branch}
use Rattle.mb_instr.specs.declared.kinds.Branch.TheVariants as branch
use Rattle.mb_instr.specs.declared.kinds.TrapOperand.{TrapOperand}
use Rattle.mb_instr.specs.declared.kinds.TrapOperand.TheVariants as trap
use Rattle.mb_instr.specs.declared.opcode.Opcode.{Opcode}
use Rattle.mb_instr.specs.Sizes.{size_of}
use Rattle.mb_instr.specs.Rules.{holds}
use Rattle.mb_instr.specs.FurtherWords.{extension_word}
use Rattle.mb_instr.specs.Operands.{is_full, allows}
use Rattle.mb_decode.specs.declared.reading.Stop.{Stop}
use Rattle.mb_decode.specs.declared.reading.Stop.TheVariants.{More, Illegal}

-- a reader of values, and the words behind what it read
abbrev pub Reader : Type 0 → Type 0
Reader A = List ℕ → Result (A × List ℕ) Stop

-- what a function returned, the value and the words behind it, is what a reader gives
abbrev pub Gives : {A : Type 0} → Result (A × Bor (List ℕ)) Stop → Result (A × List ℕ) Stop → Type 0
Gives (Ok (value, behind)) read = read ≡ Ok (value, behind.now)
Gives (Err stop) read = read ≡ Err stop

-- a reader, and then the reader that its value chooses
unfoldable pub reads_then : {A B : Type 0} → Reader A → (A → Reader B) → Reader B
reads_then r f ws = elim (r ws) [ Ok (value, behind) ↦ f value behind | Err e ↦ Err e ]

infixl 10 ◌>>=◌
abbrev pub ◌>>=◌ : {A B : Type 0} → Reader A → (A → Reader B) → Reader B
r >>= f = reads_then r f

-- a value that takes no word
abbrev pub give : {A : Type 0} → A → Reader A
give a ws = Ok (a, ws)

-- no row has the words, whatever follows
abbrev pub illegal : {A : Type 0} → Reader A
illegal ws = Err Illegal

-- the test comes before any word is read
abbrev pub when_legal : {A : Type 0} → Bool → Reader A → Reader A
when_legal test r = if test then r else illegal

-- the next word
unfoldable pub word_at : Reader ℕ
word_at [] = Err More
word_at (w ∷ ws) = Ok (w, ws)

-- two words, the high one first
unfoldable pub long_at : Reader ℕ
long_at = do
  high ← word_at
  low ← word_at
  give (high * 65536 + low)

-- a displacement of the full format, whose size field is 2 for a word, 3 for a long
unfoldable pub wide_at : ℕ → Reader ℕ
wide_at width = if width == 2 then word_at else if width == 3 then long_at else give 0

-- what follows a full extension word: the base displacement, then the outer displacement
unfoldable pub full_at : ℕ → Reader Ext
full_at w = do
  bd ← wide_at (extension_word w).base_width
  od ← wide_at (extension_word w).outer_width
  give (Full w bd od)

abbrev pub ext_at : Reader Ext
ext_at = do
  w ← word_at
  if (extension_word w).is_full == 0 then give (Brief w) else when_legal (is_full w) (full_at w)

-- a byte immediate takes a whole word
abbrev pub immediate_at : Size → Reader ℕ
immediate_at size.Byte = word_at
immediate_at size.Word = word_at
immediate_at size.Long = long_at

-- the operand of a mode and a register field; mode 7 has no register above 4
unfoldable pub operand_at : Size → ℕ → ℕ → Reader Ea
operand_at size mode lower =
    if mode == 0 then give (Dn lower) else
    if mode == 1 then give (An lower) else
    if mode == 2 then give (Ind lower) else
    if mode == 3 then give (Post lower) else
    if mode == 4 then give (Pre lower) else
    if mode == 5 then (word_at >>= λ d. give (Disp lower d)) else
    if mode == 6 then (ext_at >>= λ e. give (Index lower e)) else
    if lower == 0 then (word_at >>= λ a. give (AbsW a)) else
    if lower == 1 then (long_at >>= λ a. give (AbsL a)) else
    if lower == 2 then (word_at >>= λ d. give (PcDisp d)) else
    if lower == 3 then (ext_at >>= λ e. give (PcIndex e)) else
    (immediate_at size >>= λ v. give (Imm v))

-- ---- what rows have in common

-- what is made of the parts that were read
abbrev pub made : {A B : Type 0} → Reader A → (A → B) → Reader B
made r make = r >>= λ x. give (make x)

-- the size field of most rows, where 3 is no size
abbrev pub by_size : {A : Type 0} → ℕ → (Size → Reader A) → Reader A
by_size field f = elim (size_of field) [ Some s ↦ f s | None ↦ illegal ]

-- a word that the rule allows
unfoldable pub ruled_at : WordRule → Reader ℕ
ruled_at rule = word_at >>= λ w. when_legal (holds rule w) (give w)

-- an operand of the class in the low six bits
unfoldable pub ea_at : OperandClass → Size → Opcode → Reader Ea
ea_at class s p = when_legal (allows class s p.mode p.lower) (operand_at s p.mode p.lower)

-- the same, and its size in the size field
unfoldable pub sized_at : OperandClass → Opcode → Reader (Size × Ea)
sized_at class p = by_size p.size (λ s. made (ea_at class s p) (λ ea. (s, ea)))

-- a word that the rule allows, and then the operand's words
abbrev pub word_ea_at : WordRule → OperandClass → Size → Opcode → Reader (ℕ × Ea)
word_ea_at rule class s p = when_legal (allows class s p.mode p.lower) (do
  w ← ruled_at rule
  ea ← operand_at s p.mode p.lower
  give (w, ea))

-- an immediate, and then the operand's words, of the size in the size field
abbrev pub immediate_ea_at : OperandClass → Opcode → Reader (Size × ℕ × Ea)
immediate_ea_at class p = by_size p.size (λ s. when_legal (allows class s p.mode p.lower) (do
  v ← immediate_at s
  ea ← operand_at s p.mode p.lower
  give (s, v, ea)))

-- a displacement byte of 0 says a word, $FF a long
unfoldable pub branch_at : ℕ → Reader Branch
branch_at byte =
    if byte == 0 then made word_at (λ w. branch.Word w) else
    if byte == 255 then made long_at (λ l. branch.Long l) else give (branch.Byte byte)

-- what stands behind TRAPcc
unfoldable pub trap_operand_at : ℕ → Reader TrapOperand
trap_operand_at lower =
    if lower == 2 then made word_at (λ w. trap.Word w) else
    if lower == 3 then made long_at (λ l. trap.Long l) else
    if lower == 4 then give trap.Nothing else illegal
