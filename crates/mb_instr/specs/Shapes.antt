-- What rows of the table have in common.
use Rattle.std.specs.Prelude.{ℕ, ◌+◌, ◌*◌, ◌/◌, ◌%◌, ◌^◌, ◌==◌, Bool, true, ◌&&◌, not, nat_lt}
use Rattle.std.specs.Prelude.{List, [], ◌∷◌, ◌++◌, length}
use Rattle.mb_instr.specs.declared.size.Size.{Size}
use Rattle.mb_instr.specs.declared.operand.Ea.{Ea}
use Rattle.mb_instr.specs.declared.operand.OperandClass.{OperandClass}
use Rattle.mb_instr.specs.declared.rule.WordRule.{WordRule}
use Rattle.mb_instr.specs.declared.kinds.Condition.{Condition}
use Rattle.mb_instr.specs.declared.kinds.Branch.{Branch}
use Rattle.mb_instr.specs.declared.kinds.Branch.TheVariants as branch
use Rattle.mb_instr.specs.declared.opcode.Opcode.{Opcode}
use Rattle.mb_instr.specs.Sizes.{size_bits}
use Rattle.mb_instr.specs.Kinds.{condition_bits}
use Rattle.mb_instr.specs.Rules.{holds}
use Rattle.mb_instr.specs.Operands.{takes, more, mode, lower, long_words, is_immediate, immediate}

-- One row of the table: whether it has the value, the first word's fields, the words between the first one and those of
-- the operands, and the operands' words.
pub record Row : Type 0 where
  pub legal : Bool
  pub opcode : Opcode
  pub before : List ℕ
  pub operands : List ℕ

-- the words behind the first
abbrev pub further : Row → List ℕ
further r = r.before ++ r.operands

-- the address of the operands' words, where the instruction stands at `at`
abbrev pub operands_at : Row → ℕ → ℕ
operands_at r at = (at + 2 * (1 + length r.before)) % 2 ^ 32

-- line, upper register, bit 8, size, mode, lower register
abbrev pub op : ℕ → ℕ → ℕ → ℕ → ℕ → ℕ → Opcode
op a b c s m r = record { line = a; upper = b; bit = c; size = s; mode = m; lower = r }

-- a first word with a condition
abbrev pub on_condition : ℕ → Condition → ℕ → ℕ → ℕ → Opcode
on_condition a c s m r = op a (condition_bits c / 2) (condition_bits c % 2) s m r

-- a first word alone, or before an operand of one word or a long
abbrev pub bare : Opcode → Row
bare p = record { legal = true; opcode = p; before = []; operands = [] }

abbrev pub with_word : Opcode → ℕ → Row
with_word p w = record { legal = true; opcode = p; before = []; operands = w ∷ [] }

abbrev pub with_long : Opcode → ℕ → Row
with_long p v = record { legal = true; opcode = p; before = []; operands = long_words v }

-- a first word before a word with fixed bits
abbrev pub with_ruled : WordRule → Opcode → ℕ → Row
with_ruled rule p w = record { legal = holds rule w; opcode = p; before = []; operands = w ∷ [] }

-- an operand in the low six bits
abbrev pub at_ea : OperandClass → Size → ℕ → ℕ → ℕ → ℕ → Ea → Row
at_ea class s a b c f ea = record {
  legal = takes class s ea;
  opcode = op a b c f (mode ea) (lower ea);
  before = [];
  operands = more s ea;
}

-- an operand, whose size stands in the size field
abbrev pub sized : OperandClass → ℕ → ℕ → ℕ → Size → Ea → Row
sized class a b c s ea = at_ea class s a b c (size_bits s) ea

-- a word with fixed bits, and then an operand's words
abbrev pub word_ea : WordRule → OperandClass → Size → ℕ → ℕ → ℕ → ℕ → ℕ → Ea → Row
word_ea rule class s a b c f w ea = record {
  legal = holds rule w && takes class s ea;
  opcode = op a b c f (mode ea) (lower ea);
  before = w ∷ [];
  operands = more s ea;
}

-- an immediate, and then an operand's words, both of the size in the size field
abbrev pub immediate_ea : OperandClass → ℕ → ℕ → ℕ → Size → ℕ → Ea → Row
immediate_ea class a b c s v ea = record {
  legal = is_immediate s v && takes class s ea;
  opcode = op a b c (size_bits s) (mode ea) (lower ea);
  before = [];
  operands = immediate s v ++ more s ea;
}

-- a row for some values alone
abbrev pub when : Bool → Row → Row
when test r = record r { legal = test && r.legal }

-- the displacement byte of a branch's first word, and the words behind it
abbrev pub branch_byte : Branch → ℕ
branch_byte (branch.Byte b) = b
branch_byte (branch.Word w) = 0
branch_byte (branch.Long l) = 255

abbrev pub branch_words : Branch → List ℕ
branch_words (branch.Byte b) = []
branch_words (branch.Word w) = w ∷ []
branch_words (branch.Long l) = long_words l

abbrev pub is_branch : Branch → Bool
is_branch (branch.Byte b) = not (b == 0) && not (b == 255)
is_branch (branch.Word w) = true
is_branch (branch.Long l) = true

-- 1 to 8, where 8 is spelled 0
abbrev pub is_quick : ℕ → Bool
is_quick q = nat_lt 0 q && nat_lt q 9
