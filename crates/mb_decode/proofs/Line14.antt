-- Line 14: each row is read from its spelling, and what is read is spelled so.
use Rattle.std.proofs.Common.{◌≡◌, ℕ, ◌+◌, ◌*◌, ◌/◌, ◌%◌, ◌<◌, ◌≤◌, Bool, true, false, List, ◌∷◌, ◌++◌, Ok, refl, sym, ◌∙◌, arith}
use Rattle.std.specs.Prelude.{◌&&◌, ◌||◌, nat_lt}
use Rattle.mb_instr.specs.declared.size.Size.{Size}
use Rattle.mb_instr.specs.declared.size.Size.TheVariants as size
use Rattle.mb_instr.specs.declared.operand.Ea.{Ea}
use Rattle.mb_instr.specs.declared.operand.OperandClass.TheVariants.{MemoryAlterable, FieldSource, FieldTarget}
use Rattle.mb_instr.specs.declared.rule.WordRule.TheVariants as rule
use Rattle.mb_instr.specs.declared.kinds.ShiftKind.{ShiftKind}
use Rattle.mb_instr.specs.declared.kinds.ShiftKind.TheVariants as shift
use Rattle.mb_instr.specs.declared.kinds.FieldKind.{FieldKind}
use Rattle.mb_instr.specs.declared.kinds.FieldKind.TheVariants as field
use Rattle.mb_instr.specs.declared.instruction.Arith.TheVariants as arith_of
use Rattle.mb_instr.specs.declared.instruction.Instr.TheVariants.{Arith}
use Rattle.mb_instr.specs.declared.opcode.Opcode.{Opcode}
use Rattle.mb_instr.specs.Sizes.{size_bits}
use Rattle.mb_instr.specs.Kinds.{flag, shift_bits, shift_kind, field_bits, field_kind, field_class, field_rule}
use Rattle.mb_instr.specs.Rules.{holds}
use Rattle.mb_instr.specs.Opcodes.{IsOpcode}
use Rattle.mb_instr.specs.Operands.{takes, mode, lower, more}
use Rattle.mb_instr.specs.Shapes.{op, is_quick}
use Rattle.mb_instr.specs.Rows.{row, count_field}
use Rattle.mb_decode.proofs.ReadBack.{next, by_size_read, ea_read, word_ea_read}
use Rattle.mb_decode.proofs.Shapes.{Shape, equal, below, by_size_shape, op_is, made_row, given_when, ea_shape, word_ea_shape}
use Rattle.mb_decode.specs.RowReading.{shift_count, field_kind_in, shift_14, shift_mem_14, field_14, line_14}
use Rattle.mb_decode.proofs.Fields.{under_8, not_three, flag_is, flag_of, shift_kind_is, shift_kind_of, shift_low, quick_again, is_quick_of, quick_field}
use Rattle.mb_decode.proofs.Fields.{test_holds}

-- ---- from its spelling

shift_by : (i : Bool) (k : ShiftKind) → nat_lt 3 (flag i * 4 + shift_bits k) ≡ i
shift_by true shift.Arithmetic = refl
shift_by true shift.Logical = refl
shift_by true shift.RotateExtended = refl
shift_by true shift.Rotate = refl
shift_by false shift.Arithmetic = refl
shift_by false shift.Logical = refl
shift_by false shift.RotateExtended = refl
shift_by false shift.Rotate = refl

shift_as : (i : Bool) (k : ShiftKind) → shift_kind ((flag i * 4 + shift_bits k) % 4) ≡ k
shift_as true shift.Arithmetic = refl
shift_as true shift.Logical = refl
shift_as true shift.RotateExtended = refl
shift_as true shift.Rotate = refl
shift_as false shift.Arithmetic = refl
shift_as false shift.Logical = refl
shift_as false shift.RotateExtended = refl
shift_as false shift.Rotate = refl

count_again : (i : Bool) (n : ℕ) → (i || is_quick n) ≡ true → shift_count i (count_field i n) ≡ n
count_again true n h = refl
count_again false n h = quick_again n h

pub shift_read : (n : ℕ) (l : Bool) (s : Size) (i : Bool) (k : ShiftKind) (r : ℕ) (rest : List ℕ) → ((i || is_quick n) && true) ≡ true →
    line_14 (op 14 (count_field i n) (flag l) (size_bits s) (flag i * 4 + shift_bits k) r) rest ≡ Ok (Arith (arith_of.ShiftReg n l s i k r), rest)
shift_read n l s i k r rest h =
    let size = not_three s in
    let by = shift_by i k in
    let as_kind = shift_as i k in
    let left = flag_is l in
    let count = count_again i n (test_holds (i || is_quick n) h) in
    rw size (by_size_read s _ _ ∙ rw (by, as_kind, left, count) refl)

pub shift_mem_read : (k : ShiftKind) (l : Bool) (ea : Ea) (rest : List ℕ) → takes MemoryAlterable size.Word ea ≡ true →
    line_14 (op 14 (shift_bits k) (flag l) 3 (mode ea) (lower ea)) (more size.Word ea ++ rest) ≡ Ok (Arith (arith_of.ShiftMem k l ea), rest)
shift_mem_read k l ea rest h =
    let low = shift_low k in
    let as_kind = shift_kind_is k in
    let left = flag_is l in
    rw (low, as_kind, left) (next _ _ _ _ _ (ea_read MemoryAlterable size.Word 14 (shift_bits k) (flag l) 3 ea rest h))

pub field_read : (k : FieldKind) (ea : Ea) (w : ℕ) (rest : List ℕ) → (holds (field_rule k) w && takes (field_class k) size.Long ea) ≡ true →
    line_14 (op 14 (4 + field_bits k / 2) (field_bits k % 2) 3 (mode ea) (lower ea)) (w ∷ more size.Long ea ++ rest) ≡ Ok (Arith (arith_of.Field k ea w), rest)
field_read field.Test ea w rest h = next _ _ _ _ _ (word_ea_read rule.FieldAlone FieldSource size.Long 14 4 0 3 w ea rest h)
field_read field.ExtractUnsigned ea w rest h = next _ _ _ _ _ (word_ea_read rule.Field FieldSource size.Long 14 4 1 3 w ea rest h)
field_read field.Change ea w rest h = next _ _ _ _ _ (word_ea_read rule.FieldAlone FieldTarget size.Long 14 5 0 3 w ea rest h)
field_read field.ExtractSigned ea w rest h = next _ _ _ _ _ (word_ea_read rule.Field FieldSource size.Long 14 5 1 3 w ea rest h)
field_read field.Clear ea w rest h = next _ _ _ _ _ (word_ea_read rule.FieldAlone FieldTarget size.Long 14 6 0 3 w ea rest h)
field_read field.FindFirst ea w rest h = next _ _ _ _ _ (word_ea_read rule.Field FieldSource size.Long 14 6 1 3 w ea rest h)
field_read field.Set ea w rest h = next _ _ _ _ _ (word_ea_read rule.FieldAlone FieldTarget size.Long 14 7 0 3 w ea rest h)
field_read field.Insert ea w rest h = next _ _ _ _ _ (word_ea_read rule.Field FieldTarget size.Long 14 7 1 3 w ea rest h)

-- ---- what is read

count_legal : (i : Bool) (n : ℕ) → n < 8 → (i || is_quick (shift_count i n)) ≡ true
count_legal true n h = refl
count_legal false n h = is_quick_of n h

count_fits : (i : Bool) (n : ℕ) → n < 8 → n ≡ count_field i (shift_count i n)
count_fits true n h = refl
count_fits false n h = quick_field n h

shift_mode : (n : ℕ) → n < 8 → n ≡ flag (nat_lt 3 n) * 4 + shift_bits (shift_kind (n % 4))
shift_mode n h = under_8 (λ n. n ≡ flag (nat_lt 3 n) * 4 + shift_bits (shift_kind (n % 4))) refl refl refl refl refl refl refl refl n h

shift_14_shape : (p : Opcode) → IsOpcode p → p.line ≡ 14 → Shape row p (shift_14 p)
shift_14_shape p is line = by_size_shape row p p.size _ (λ s e.
    let count = count_fits (nat_lt 3 p.mode) p.upper is.upper in
    given_when p _ _ _ refl (count_legal (nat_lt 3 p.mode) p.upper is.upper)
    (op_is p 14 _ _ _ _ p.lower line count (flag_of p.bit is.bit) (sym e) (shift_mode p.mode is.mode) refl))

shift_mem_14_shape : (p : Opcode) → IsOpcode p → p.line ≡ 14 → p.size ≡ 3 → p.upper < 4 → Shape row p (shift_mem_14 p)
shift_mem_14_shape p is line wide low =
    made_row _ p _ _ (ea_shape p MemoryAlterable size.Word 14 _ _ 3 is line (shift_kind_of p.upper low) (flag_of p.bit is.bit) wide) (λ ea. refl)

field_bits_of : (n : ℕ) → n < 8 → field_bits (field_kind n) ≡ n
field_bits_of n h = under_8 (λ n. field_bits (field_kind n) ≡ n) refl refl refl refl refl refl refl refl n h

field_14_shape : (p : Opcode) → IsOpcode p → p.line ≡ 14 → p.size ≡ 3 → 4 ≤ p.upper → Shape row p (field_14 p)
field_14_shape p is line wide high =
    let up = is.upper in
    let below = is.bit in
    let same = field_bits_of (p.upper % 4 * 2 + p.bit) (omega arith) in
    let upper : p.upper ≡ 4 + field_bits (field_kind_in p) / 2 = omega arith in
    let bit : p.bit ≡ field_bits (field_kind_in p) % 2 = omega arith in
    made_row _ p _ _ (word_ea_shape p (field_rule (field_kind_in p)) (field_class (field_kind_in p)) size.Long 14 _ _ 3 is line upper bit wide) (λ x. refl)

pub line_14_shape : (p : Opcode) → IsOpcode p → p.line ≡ 14 → Shape row p (line_14 p)
line_14_shape p is line = equal row p p.size 3 _ _
    (λ size. below row p p.upper 4 _ _ (λ low. shift_mem_14_shape p is line size low) (λ high. field_14_shape p is line size high))
    (λ n. shift_14_shape p is line)
