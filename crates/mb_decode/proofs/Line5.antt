-- Lines 5 to 7: each row is read from its spelling, and what is read is spelled so.
use Rattle.std.proofs.Common.{◌≡◌, ℕ, ◌+◌, ◌*◌, ◌/◌, ◌%◌, ◌<◌, true, List, ◌∷◌, ◌++◌, Ok, refl, sym, subst, arith}
use Rattle.std.specs.Prelude.{◌&&◌, ◌==◌, nat_lt}
use Rattle.mb_instr.specs.declared.size.Size.{Size}
use Rattle.mb_instr.specs.declared.size.Size.TheVariants as size
use Rattle.mb_instr.specs.declared.operand.Ea.{Ea}
use Rattle.mb_instr.specs.declared.operand.OperandClass.TheVariants.{Alterable, DataAlterable}
use Rattle.mb_instr.specs.declared.kinds.Condition.{Condition}
use Rattle.mb_instr.specs.declared.kinds.Branch.{Branch}
use Rattle.mb_instr.specs.declared.kinds.TrapOperand.{TrapOperand}
use Rattle.mb_instr.specs.declared.kinds.TrapOperand.TheVariants as trap
use Rattle.mb_instr.specs.declared.instruction.Move.TheVariants as move
use Rattle.mb_instr.specs.declared.instruction.Flow.TheVariants as flow
use Rattle.mb_instr.specs.declared.instruction.Instr.TheVariants.{Move, Flow}
use Rattle.mb_instr.specs.declared.opcode.Opcode.{Opcode}
use Rattle.mb_instr.specs.Sizes.{size_bits}
use Rattle.mb_instr.specs.Kinds.{condition_of}
use Rattle.mb_instr.specs.Opcodes.{IsOpcode}
use Rattle.mb_instr.specs.Operands.{takes, mode, lower, more}
use Rattle.mb_instr.specs.Shapes.{op, on_condition, sized, when, branch_byte, branch_words, is_branch, is_quick}
use Rattle.mb_instr.specs.Rows.{row, trap_lower, trap_words}
use Rattle.mb_decode.specs.Reading.{reads_then, give, branch_at, trap_operand_at}
use Rattle.mb_decode.proofs.ReadBack.{next, word_read, taken, ea_read, sized_read, branch_read, trap_operand_read}
use Rattle.mb_decode.proofs.Found.{after, eq_true}
use Rattle.mb_decode.proofs.Steady.{made_steady, branch_steady, trap_operand_steady}
use Rattle.mb_decode.proofs.Shapes.{Found, Shape, either, equal, only, op_is, guarded, made_row, given, word_shape, ea_shape, sized_shape, FoundBranch}
use Rattle.mb_decode.proofs.Shapes.{branch_cases, FoundTrap, trap_cases}
use Rattle.mb_decode.specs.RowReading.{low_byte, quick_value, conditional_5, quick_instr, quick_5, line_5, line_6, line_7}
use Rattle.mb_decode.proofs.Fields.{under_2, not_three, not_address, not_trap, quick_again, is_quick_of, quick_field, condition_is, IsCondition}
use Rattle.mb_decode.proofs.Fields.{condition_fields}
use Rattle.mb_instr.proofs.Ranges.{and_is}

byte_of : (n : ℕ) → n / 64 * 64 + n / 8 % 8 * 8 + n % 8 ≡ n
byte_of n = omega arith

-- ---- from its spelling

-- ADDQ and SUBQ
pub quick_read : (n q : ℕ) (s : Size) (ea : Ea) (rest : List ℕ) → (is_quick q && takes Alterable s ea) ≡ true →
    line_5 (op 5 (q % 8) n (size_bits s) (mode ea) (lower ea)) (more s ea ++ rest) ≡ Ok (quick_instr n q s ea, rest)
quick_read n q s ea rest h =
    let p = and_is (is_quick q) (takes Alterable s ea) h in
    let size = not_three s in
    let quick = quick_again q p.0 in
    rw (size, quick) (next _ _ _ _ _ (sized_read Alterable 5 (q % 8) n s ea rest p.1))

pub scc_read : (c : Condition) (ea : Ea) (rest : List ℕ) → takes DataAlterable size.Byte ea ≡ true →
    line_5 (on_condition 5 c 3 (mode ea) (lower ea)) (more size.Byte ea ++ rest) ≡ Ok (Move (move.Scc c ea), rest)
unfolding conditional_5
scc_read c ea rest h =
    let class = (taken DataAlterable size.Byte ea h).0 in
    let first = not_address size.Byte (mode ea) (lower ea) class in
    let second = not_trap size.Byte (mode ea) (lower ea) class in
    let same = condition_is c in
    rw (first, second, same) (next _ _ _ _ _ (ea_read DataAlterable size.Byte 5 _ _ 3 ea rest h))

pub dbcc_read : (c : Condition) (d w : ℕ) (rest : List ℕ) → line_5 (on_condition 5 c 3 1 d) (w ∷ rest) ≡ Ok (Flow (flow.Dbcc c d w), rest)
unfolding conditional_5
dbcc_read c d w rest = let same = condition_is c in rw same (next _ _ _ _ _ (word_read w rest))

trap_high : (o : TrapOperand) → nat_lt 1 (trap_lower o) ≡ true
trap_high (trap.Word w) = refl
trap_high (trap.Long l) = refl
trap_high trap.Nothing = refl

pub trapcc_read : (c : Condition) (o : TrapOperand) (rest : List ℕ) →
    line_5 (on_condition 5 c 3 7 (trap_lower o)) (trap_words o ++ rest) ≡ Ok (Flow (flow.Trapcc c o), rest)
unfolding conditional_5
trapcc_read c o rest =
    let high = trap_high o in
    let same = condition_is c in
    rw (high, same) (next _ _ _ _ _ (trap_operand_read o rest))

pub bcc_read : (c : Condition) (d : Branch) (rest : List ℕ) → is_branch d ≡ true →
    line_6 (on_condition 6 c (branch_byte d / 64) (branch_byte d / 8 % 8) (branch_byte d % 8)) (branch_words d ++ rest) ≡ Ok (Flow (flow.Bcc c d), rest)
bcc_read c d rest h = let same = condition_is c in rw (byte_of (branch_byte d), same) (next _ _ _ _ _ (branch_read d rest h))

pub moveq_read : (d n : ℕ) (rest : List ℕ) → line_7 (op 7 d 0 (n / 64) (n / 8 % 8) (n % 8)) rest ≡ Ok (Move (move.Moveq d n), rest)
moveq_read d n rest = rw (byte_of n) refl

-- ---- what is read

trapcc_shape : (p : Opcode) (c : Condition) → IsCondition p.upper p.bit c → p.line ≡ 5 → p.size ≡ 3 → p.mode ≡ 7 →
    Shape row p (reads_then (trap_operand_at p.lower) (λ o. give (Flow (flow.Trapcc c o))))
trapcc_shape p c on line size mode = record {
  found = λ ws h. after (trap_operand_at p.lower) _ ws (Found row p ws) (λ e. tt) (λ o rest e.
      let f = subst (FoundTrap p.lower ws) e (trap_cases p.lower ws h) in
      record { legal = refl; opcode = op_is p 5 _ _ 3 7 _ line on.0 on.1 size mode (sym f.0); taken = f.1 });
  steady = made_steady _ _ (trap_operand_steady _);
}

conditional_5_shape : (p : Opcode) (c : Condition) → IsOpcode p → IsCondition p.upper p.bit c → p.line ≡ 5 → p.size ≡ 3 → Shape row p (conditional_5 c p)
unfolding conditional_5
conditional_5_shape p c is on line wide =
    equal row p p.mode 1 _ _
    (λ mode. made_row _ p _ _ (word_shape p _ (op_is p 5 _ _ 3 1 p.lower line on.0 on.1 wide mode refl)) (λ w. refl)) (λ n.
    either row p ((p.mode == 7) && nat_lt 1 p.lower) _ _
    (λ e. trapcc_shape p c on line wide (eq_true p.mode 7 (and_is (p.mode == 7) (nat_lt 1 p.lower) e).0)) (λ e.
    made_row _ p _ _ (ea_shape p DataAlterable size.Byte 5 _ _ 3 is line on.0 on.1 wide) (λ ea. refl)))

abbrev QuickRow : ℕ → Type 0
QuickRow n = (q : ℕ) (s : Size) (ea : Ea) → row (quick_instr n q s ea) ≡ when (is_quick q) (sized Alterable 5 (q % 8) n s ea)

quick_row : (n : ℕ) → n < 2 → QuickRow n
quick_row n h = under_2 QuickRow (λ q s ea. refl) (λ q s ea. refl) n h

quick_5_shape : (p : Opcode) → IsOpcode p → p.line ≡ 5 → Shape row p (quick_5 p)
quick_5_shape p is line =
    made_row _ p _ _
    (guarded _ p _ _ (is_quick_of p.upper is.upper) (sized_shape p Alterable 5 _ p.bit is line (quick_field p.upper is.upper) refl))
    (λ x. quick_row p.bit is.bit (quick_value p.upper) x.0 x.1)

pub line_5_shape : (p : Opcode) → IsOpcode p → p.line ≡ 5 → Shape row p (line_5 p)
line_5_shape p is line =
    let on = condition_fields p.upper p.bit is.upper is.bit in
    equal row p p.size 3 _ _ (λ size. conditional_5_shape p (condition_of p.upper p.bit) is on line size) (λ n. quick_5_shape p is line)

-- the low byte's fields
record LowByte (p : Opcode) (n : ℕ) : Type 0 where
  size : p.size ≡ n / 64
  mode : p.mode ≡ n / 8 % 8
  lower : p.lower ≡ n % 8

low_byte_of : (p : Opcode) (n : ℕ) → IsOpcode p → n ≡ low_byte p → LowByte p n
low_byte_of p n is e =
    let size = is.size in
    let mode = is.mode in
    let lower = is.lower in
    record { size = omega arith; mode = omega arith; lower = omega arith }

pub line_6_shape : (p : Opcode) → IsOpcode p → p.line ≡ 6 → Shape row p (line_6 p)
line_6_shape p is line = record {
  found = λ ws h. after (branch_at (low_byte p)) _ ws (Found row p ws) (λ e. tt) (λ d rest e.
      let f = subst (FoundBranch (low_byte p) ws) e (branch_cases (low_byte p) ws h) in
      let low = low_byte_of p (branch_byte d) is f.1 in
      let on = condition_fields p.upper p.bit is.upper is.bit in
      record { legal = f.0; opcode = op_is p 6 _ _ _ _ _ line on.0 on.1 low.size low.mode low.lower; taken = f.2 });
  steady = made_steady _ _ (branch_steady _);
}

pub line_7_shape : (p : Opcode) → IsOpcode p → p.line ≡ 7 → Shape row p (line_7 p)
line_7_shape p is line =
    let low = low_byte_of p (low_byte p) is refl in
    only row p (p.bit == 0) _ (λ e. given p _ _ refl (op_is p 7 p.upper 0 _ _ _ line refl (eq_true p.bit 0 e) low.size low.mode low.lower))
