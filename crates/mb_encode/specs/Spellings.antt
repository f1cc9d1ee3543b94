-- The row that a spelling stands for.
use Rattle.std.specs.Prelude.{ℕ, Bool, true, false, ◌&&◌, List, [], ◌∷◌, ◌++◌}
use Rattle.mb_instr.specs.declared.instruction.Arith.{Arith}
use Rattle.mb_instr.specs.declared.instruction.Arith.TheVariants as arith
use Rattle.mb_instr.specs.Operands.{more, long_words, is_spelled, is_immediate, immediate}
use Rattle.mb_instr.specs.Shapes.{Row}
use Rattle.mb_encode.specs.declared.spelling.Head.{Head}
use Rattle.mb_encode.specs.declared.spelling.Further.{Further}
use Rattle.mb_encode.specs.declared.spelling.Further.TheVariants as further
use Rattle.mb_encode.specs.declared.spelling.Spelling.{Spelling}

-- line, upper register, bit 8, size
abbrev pub head : ℕ → ℕ → ℕ → ℕ → Head
head a b c s = record { line = a; upper = b; bit = c; size = s }

-- the operands and the immediate among what stands behind the first word have a spelling
abbrev pub has_words : Further → Bool
has_words (further.Operand s ea) = is_spelled s ea
has_words (further.WordOperand w s ea) = is_spelled s ea
has_words (further.ImmediateOperand v s ea) = is_immediate s v && is_spelled s ea
has_words (further.Operands s first second) = is_spelled s first && is_spelled s second
has_words _ = true

-- the words before those of the operands
abbrev pub before_words : Further → List ℕ
before_words (further.WordOperand w s ea) = w ∷ []
before_words _ = []

-- the operands' words
abbrev pub operand_words : Further → List ℕ
operand_words further.Nothing = []
operand_words (further.Word w) = w ∷ []
operand_words (further.Words w v) = w ∷ v ∷ []
operand_words (further.Long v) = long_words v
operand_words (further.Operand s ea) = more s ea
operand_words (further.WordOperand w s ea) = more s ea
operand_words (further.ImmediateOperand v s ea) = immediate s v ++ more s ea
operand_words (further.Operands s first second) = more s first ++ more s second

-- the words behind the first
abbrev pub further_words : Further → List ℕ
further_words f = before_words f ++ operand_words f

-- the line of the table
abbrev pub row_of : Spelling → Row
row_of x = record {
  legal = x.is_legal && has_words x.further;
  opcode = x.opcode;
  before = before_words x.further;
  operands = operand_words x.further;
}

-- whether an operand stands in the low six bits
abbrev pub has_operand : Arith → Bool
has_operand (arith.Abcd x m y) = false
has_operand (arith.Addx x s m y) = false
has_operand (arith.AndiCcr w) = false
has_operand (arith.Cas2 s w v) = false
has_operand (arith.Cmpm x s y) = false
has_operand (arith.EoriCcr w) = false
has_operand (arith.ExtL d) = false
has_operand (arith.ExtW d) = false
has_operand (arith.ExtbL d) = false
has_operand (arith.OriCcr w) = false
has_operand (arith.Pack x m y w) = false
has_operand (arith.Sbcd x m y) = false
has_operand (arith.ShiftReg n l s i k r) = false
has_operand (arith.Subx x s m y) = false
has_operand (arith.Unpk x m y w) = false
has_operand _ = true
