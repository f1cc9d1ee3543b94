-- Line 0: each row is read from its spelling, and what is read is spelled so.
use Rattle.std.proofs.Common.{◌≡◌, ◌≢◌, ℕ, ◌+◌, ◌*◌, ◌/◌, ◌%◌, ◌<◌, ◌≤◌, ◌^◌, Bool, true, false, cond, List, ◌∷◌, ◌++◌, Ok, refl, sym, ◌∙◌, arith}
use Rattle.std.specs.Prelude.{◌&&◌, ◌||◌, ◌==◌, nat_lt}
use Rattle.mb_instr.specs.declared.size.Size.{Size}
use Rattle.mb_instr.specs.declared.size.Size.TheVariants as size
use Rattle.mb_instr.specs.declared.operand.Ea.{Ea}
use Rattle.mb_instr.specs.declared.operand.OperandClass.TheVariants.{DataAlterable, DataAlterableOrPc, MemoryAlterable, Control}
use Rattle.mb_instr.specs.declared.rule.WordRule.TheVariants as rule
use Rattle.mb_instr.specs.declared.kinds.BitKind.{BitKind}
use Rattle.mb_instr.specs.declared.kinds.BitKind.TheVariants as bit_of
use Rattle.mb_instr.specs.declared.instruction.Move.TheVariants as move
use Rattle.mb_instr.specs.declared.instruction.Arith.TheVariants as arith_of
use Rattle.mb_instr.specs.declared.instruction.Flow.TheVariants as flow
use Rattle.mb_instr.specs.declared.instruction.System.TheVariants as system
use Rattle.mb_instr.specs.declared.instruction.Instr.TheVariants.{Move, Arith, Flow, System}
use Rattle.mb_instr.specs.declared.opcode.Opcode.{Opcode}
use Rattle.mb_instr.specs.Sizes.{size_bits, long_bit, size_of_bit, not_byte}
use Rattle.mb_instr.specs.Kinds.{flag, bit_bits, bit_kind, bit_class, bit_class_immediate}
use Rattle.mb_instr.specs.Rules.{holds}
use Rattle.mb_instr.specs.Opcodes.{IsOpcode}
use Rattle.mb_instr.specs.Operands.{allows, takes, mode, lower, more, is_immediate, immediate}
use Rattle.mb_instr.specs.Shapes.{op, with_word, word_ea}
use Rattle.mb_instr.specs.Rows.{row}
use Rattle.mb_decode.specs.Reading.{ruled_at}
use Rattle.mb_decode.proofs.ReadBack.{next, unmet, word_read, by_size_read, taken, ruled_read, ea_read, word_ea_read, immediate_ea_read}
use Rattle.mb_decode.proofs.Found.{after, eq_true, eq_false}
use Rattle.mb_decode.proofs.Steady.{then_steady, always, made_steady, made_readable, ruled_steady, ruled_readable}
use Rattle.mb_decode.proofs.Shapes.{Found, Shape, none, either, equal, equals, below, only, by_size_shape, op_is, guarded, made_row, Same, made_row_if}
use Rattle.mb_decode.proofs.Shapes.{word_ea_row, immediate_ea_row, word_shape, ruled_found, both, joined, ea_shape, word_ea_shape, immediate_ea_shape}
use Rattle.mb_decode.specs.RowReading.{movep_0, bit_register_0, odd_0, bounds_instr, cas_size, bounds_0, cas2_0, cas_0, immediate_instr, to_ccr_instr, to_sr_instr}
use Rattle.mb_decode.specs.RowReading.{status_0, immediate_0}
use Rattle.mb_decode.specs.RowReading.{cmpi_0, moves_0, bit_0, even_0, line_0}
use Rattle.mb_decode.proofs.Fields.{under_4, under_8, not_three, not_byte_of_bit, bit_kind_is, bit_kind_of, not_address, not_address_data, not_immediate}
use Rattle.mb_decode.proofs.Fields.{not_immediate_memory}
use Rattle.mb_instr.proofs.Ranges.{and_is}

-- ---- from its spelling

pub movep_read : (d : ℕ) (k : Bool) (s : Size) (a w : ℕ) (rest : List ℕ) → not_byte s ≡ true →
    line_0 (op 0 d 1 (flag k * 2 + long_bit s) 1 a) (w ∷ rest) ≡ Ok (Move (move.Movep d k s a w), rest)
movep_read d true size.Word a w rest h = next _ _ _ _ _ (word_read w rest)
movep_read d true size.Long a w rest h = next _ _ _ _ _ (word_read w rest)
movep_read d false size.Word a w rest h = next _ _ _ _ _ (word_read w rest)
movep_read d false size.Long a w rest h = next _ _ _ _ _ (word_read w rest)
movep_read d k size.Byte a w rest h = absurd cc

bit_class_address : (k : BitKind) (m r : ℕ) → allows (bit_class k) size.Byte m r ≡ true → (m == 1) ≡ false
bit_class_address bit_of.Test m r h = not_address_data size.Byte m r h
bit_class_address bit_of.Change m r h = not_address size.Byte m r h
bit_class_address bit_of.Clear m r h = not_address size.Byte m r h
bit_class_address bit_of.Set m r h = not_address size.Byte m r h

pub bit_reg_read : (d : ℕ) (k : BitKind) (ea : Ea) (rest : List ℕ) → takes (bit_class k) size.Byte ea ≡ true →
    line_0 (op 0 d 1 (bit_bits k) (mode ea) (lower ea)) (more size.Byte ea ++ rest) ≡ Ok (Arith (arith_of.BitReg d k ea), rest)
bit_reg_read d k ea rest h =
    let e = bit_kind_is k in
    let class = bit_class_address k _ _ (taken _ _ ea h).0 in
    unmet _ _ _ _ class ∙ rw e (next _ _ _ _ _ (ea_read (bit_class k) size.Byte 0 d 1 (bit_bits k) ea rest h))

pub bit_imm_read : (k : BitKind) (ea : Ea) (w : ℕ) (rest : List ℕ) → takes (bit_class_immediate k) size.Byte ea ≡ true →
    line_0 (op 0 4 0 (bit_bits k) (mode ea) (lower ea)) (w ∷ more size.Byte ea ++ rest) ≡ Ok (Arith (arith_of.BitImm k ea w), rest)
bit_imm_read k ea w rest h =
    let e = bit_kind_is k in
    rw e (next _ _ _ _ _ (word_ea_read rule.Any (bit_class_immediate k) size.Byte 0 4 0 (bit_bits k) w ea rest h))

-- CMP2 and CHK2: bit 11 of the word tells which
bounds_again : (s : Size) (ea : Ea) (w : ℕ) (rest : List ℕ) → (holds rule.RegisterAndBit w && takes Control s ea) ≡ true →
    line_0 (op 0 (size_bits s) 0 3 (mode ea) (lower ea)) (w ∷ more s ea ++ rest) ≡ Ok (bounds_instr s w ea, rest)
bounds_again size.Byte ea w rest h = next _ _ _ _ _ (word_ea_read rule.RegisterAndBit Control size.Byte 0 0 0 3 w ea rest h)
bounds_again size.Word ea w rest h = next _ _ _ _ _ (word_ea_read rule.RegisterAndBit Control size.Word 0 1 0 3 w ea rest h)
bounds_again size.Long ea w rest h = next _ _ _ _ _ (word_ea_read rule.RegisterAndBit Control size.Long 0 2 0 3 w ea rest h)

compare_bounds : (s : Size) (ea : Ea) (w : ℕ) → (holds rule.Compare w && takes Control s ea) ≡ true →
    ((holds rule.RegisterAndBit w && takes Control s ea) ≡ true) × ((w / 2 ^ 11 % 2 == 0) ≡ true)
compare_bounds s ea w h =
    let p = and_is (holds rule.Compare w) (takes Control s ea) h in
    let zero = eq_true (w % 2 ^ 12) 0 p.0 in
    let low : w % 2 ^ 11 ≡ 0 = omega arith in
    let bit : w / 2 ^ 11 % 2 ≡ 0 = omega arith in
    (both (rw low refl) p.1, rw bit refl)

pub cmp2_read : (s : Size) (ea : Ea) (w : ℕ) (rest : List ℕ) → (holds rule.Compare w && takes Control s ea) ≡ true →
    line_0 (op 0 (size_bits s) 0 3 (mode ea) (lower ea)) (w ∷ more s ea ++ rest) ≡ Ok (Arith (arith_of.Cmp2 s ea w), rest)
cmp2_read s ea w rest h =
    let b = compare_bounds s ea w h in
    let bit = b.1 in
    bounds_again s ea w rest b.0 ∙ rw bit refl

check_bounds : (s : Size) (ea : Ea) (w : ℕ) → (holds rule.Check w && takes Control s ea) ≡ true →
    ((holds rule.RegisterAndBit w && takes Control s ea) ≡ true) × ((w / 2 ^ 11 % 2 == 0) ≡ false)
check_bounds s ea w h =
    let p = and_is (holds rule.Check w) (takes Control s ea) h in
    let set = eq_true (w % 2 ^ 12) 2048 p.0 in
    let low : w % 2 ^ 11 ≡ 0 = omega arith in
    let bit : w / 2 ^ 11 % 2 ≡ 1 = omega arith in
    (both (rw low refl) p.1, rw bit refl)

pub chk2_read : (s : Size) (ea : Ea) (w : ℕ) (rest : List ℕ) → (holds rule.Check w && takes Control s ea) ≡ true →
    line_0 (op 0 (size_bits s) 0 3 (mode ea) (lower ea)) (w ∷ more s ea ++ rest) ≡ Ok (Flow (flow.Chk2 s ea w), rest)
chk2_read s ea w rest h =
    let b = check_bounds s ea w h in
    let bit = b.1 in
    bounds_again s ea w rest b.0 ∙ rw bit refl

cas_memory : (s : Size) (ea : Ea) (w : ℕ) → (holds rule.Swap w && takes MemoryAlterable s ea) ≡ true → ((mode ea == 7) && (lower ea == 4)) ≡ false
cas_memory s ea w h =
    not_immediate_memory s (mode ea) (lower ea) (taken MemoryAlterable s ea (and_is (holds rule.Swap w) (takes MemoryAlterable s ea) h).1).0

pub cas_read : (s : Size) (ea : Ea) (w : ℕ) (rest : List ℕ) → (holds rule.Swap w && takes MemoryAlterable s ea) ≡ true →
    line_0 (op 0 (5 + size_bits s) 0 3 (mode ea) (lower ea)) (w ∷ more s ea ++ rest) ≡ Ok (Arith (arith_of.Cas s ea w), rest)
cas_read size.Byte ea w rest h =
    unmet _ _ _ _ (cas_memory size.Byte ea w h) ∙ next _ _ _ _ _ (word_ea_read rule.Swap MemoryAlterable size.Byte 0 5 0 3 w ea rest h)
cas_read size.Word ea w rest h =
    unmet _ _ _ _ (cas_memory size.Word ea w h) ∙ next _ _ _ _ _ (word_ea_read rule.Swap MemoryAlterable size.Word 0 6 0 3 w ea rest h)
cas_read size.Long ea w rest h =
    unmet _ _ _ _ (cas_memory size.Long ea w h) ∙ next _ _ _ _ _ (word_ea_read rule.Swap MemoryAlterable size.Long 0 7 0 3 w ea rest h)

pub cas2_read : (s : Size) (w v : ℕ) (rest : List ℕ) → (not_byte s && holds rule.SwapPair w && holds rule.SwapPair v) ≡ true →
    line_0 (op 0 (5 + size_bits s) 0 3 7 4) (w ∷ v ∷ rest) ≡ Ok (Arith (arith_of.Cas2 s w v), rest)
unfolding cas2_0
cas2_read size.Byte w v rest h = absurd cc
cas2_read size.Word w v rest h =
    let p = and_is (holds rule.SwapPair w) (holds rule.SwapPair v) h in
    next _ _ _ _ _ (ruled_read rule.SwapPair w (v ∷ rest) p.0) ∙ next _ _ _ _ _ (ruled_read rule.SwapPair v rest p.1)
cas2_read size.Long w v rest h =
    let p = and_is (holds rule.SwapPair w) (holds rule.SwapPair v) h in
    next _ _ _ _ _ (ruled_read rule.SwapPair w (v ∷ rest) p.0) ∙ next _ _ _ _ _ (ruled_read rule.SwapPair v rest p.1)

-- ORI, ANDI, SUBI, ADDI, EORI
pub immediate_again : (n : ℕ) (s : Size) (ea : Ea) (v : ℕ) (rest : List ℕ) → (is_immediate s v && takes DataAlterable s ea) ≡ true → (n == 4) ≡ false →
    (n == 6) ≡ false → (n == 7) ≡ false →
    line_0 (op 0 n 0 (size_bits s) (mode ea) (lower ea)) ((immediate s v ++ more s ea) ++ rest) ≡ Ok (immediate_instr n s v ea, rest)
immediate_again n s ea v rest h n4 n6 n7 =
    let class = (taken DataAlterable s ea (and_is (is_immediate s v) (takes DataAlterable s ea) h).1).0 in
    let size = not_three s in
    let operand = not_immediate s (mode ea) (lower ea) class in
    rw (n4, n6, n7, size, operand) (next _ _ _ _ _ (immediate_ea_read DataAlterable 0 n 0 s v ea rest h))

pub ccr_again : (n w : ℕ) (rest : List ℕ) → (n == 4) ≡ false → (n == 6) ≡ false → (n == 7) ≡ false → ((n == 2) || (n == 3)) ≡ false →
    line_0 (op 0 n 0 0 7 4) (w ∷ rest) ≡ Ok (to_ccr_instr n w, rest)
ccr_again n w rest n4 n6 n7 other = rw (n4, n6, n7, other) (next _ _ _ _ _ (word_read w rest))

pub sr_again : (n w : ℕ) (rest : List ℕ) → (n == 4) ≡ false → (n == 6) ≡ false → (n == 7) ≡ false → ((n == 2) || (n == 3)) ≡ false →
    line_0 (op 0 n 0 1 7 4) (w ∷ rest) ≡ Ok (to_sr_instr n w, rest)
sr_again n w rest n4 n6 n7 other = rw (n4, n6, n7, other) (next _ _ _ _ _ (word_read w rest))

pub cmpi_read : (s : Size) (ea : Ea) (v : ℕ) (rest : List ℕ) → (is_immediate s v && takes DataAlterableOrPc s ea) ≡ true →
    line_0 (op 0 6 0 (size_bits s) (mode ea) (lower ea)) ((immediate s v ++ more s ea) ++ rest) ≡ Ok (Arith (arith_of.Cmpi s ea v), rest)
cmpi_read s ea v rest h = unmet _ _ _ _ (not_three s) ∙ next _ _ _ _ _ (immediate_ea_read DataAlterableOrPc 0 6 0 s v ea rest h)

pub moves_read : (s : Size) (ea : Ea) (w : ℕ) (rest : List ℕ) → (holds rule.RegisterAndBit w && takes MemoryAlterable s ea) ≡ true →
    line_0 (op 0 7 0 (size_bits s) (mode ea) (lower ea)) (w ∷ more s ea ++ rest) ≡ Ok (System (system.Moves s ea w), rest)
moves_read s ea w rest h =
    let size = not_three s in
    rw size (by_size_read s _ _ ∙ next _ _ _ _ _ (word_ea_read rule.RegisterAndBit MemoryAlterable s 0 7 0 (size_bits s) w ea rest h))

-- ---- what is read

movep_size : (n : ℕ) → n < 4 → n ≡ flag (nat_lt 1 n) * 2 + long_bit (size_of_bit (n % 2))
movep_size n h = under_4 (λ n. n ≡ flag (nat_lt 1 n) * 2 + long_bit (size_of_bit (n % 2))) refl refl refl refl n h

movep_0_shape : (p : Opcode) → IsOpcode p → p.line ≡ 0 → p.bit ≡ 1 → p.mode ≡ 1 → Shape row p (movep_0 p)
movep_0_shape p is line bit mode =
    let fields = op_is p 0 p.upper 1 _ 1 p.lower line refl bit (movep_size p.size is.size) mode refl in
    made_row _ p _ _ (guarded _ p _ _ (not_byte_of_bit (p.size % 2) (omega arith)) (word_shape p _ fields)) (λ w. refl)

bit_register_0_shape : (p : Opcode) → IsOpcode p → p.line ≡ 0 → p.bit ≡ 1 → Shape row p (bit_register_0 p)
bit_register_0_shape p is line bit =
    made_row _ p _ _ (ea_shape p (bit_class (bit_kind p.size)) size.Byte 0 p.upper 1 _ is line refl bit (bit_kind_of p.size is.size)) (λ ea. refl)

odd_0_shape : (p : Opcode) → IsOpcode p → p.line ≡ 0 → p.bit ≡ 1 → Shape row p (odd_0 p)
odd_0_shape p is line bit = equal row p p.mode 1 _ _ (λ mode. movep_0_shape p is line bit mode) (λ n. bit_register_0_shape p is line bit)

cas_field : (n : ℕ) → n < 8 → 5 ≤ n → n ≡ 5 + size_bits (cas_size n)
cas_field n h = under_8 (λ n. 5 ≤ n → n ≡ 5 + size_bits (cas_size n))
    (λ z. absurd (omega arith)) (λ z. absurd (omega arith)) (λ z. absurd (omega arith)) (λ z. absurd (omega arith)) (λ z. absurd (omega arith)) (λ z. refl)
    (λ z. refl) (λ z. refl) n h

bounds_cases : (s : Size) (w : ℕ) (ea : Ea) (b : Bool) → (w / 2 ^ 11 % 2 == 0) ≡ b →
    (word_ea rule.RegisterAndBit Control s 0 (size_bits s) 0 3 w ea).legal ≡ true →
    Same (row (cond b (Arith (arith_of.Cmp2 s ea w)) (Flow (flow.Chk2 s ea w)))) (word_ea rule.RegisterAndBit Control s 0 (size_bits s) 0 3 w ea)
bounds_cases s w ea true e h =
    let p = and_is (holds rule.RegisterAndBit w) (takes Control s ea) h in
    let low = eq_true (w % 2 ^ 11) 0 p.0 in
    let bit = eq_true (w / 2 ^ 11 % 2) 0 e in
    let all : w % 2 ^ 12 ≡ 0 = omega arith in
    record { legal = both (rw all refl) p.1; opcode = refl; words = refl }
bounds_cases s w ea false e h =
    let p = and_is (holds rule.RegisterAndBit w) (takes Control s ea) h in
    let low = eq_true (w % 2 ^ 11) 0 p.0 in
    let bit = eq_false (w / 2 ^ 11 % 2) 0 e in
    let all : w % 2 ^ 12 ≡ 2048 = omega arith in
    record { legal = both (rw all refl) p.1; opcode = refl; words = refl }

bounds_0_shape : (p : Opcode) → IsOpcode p → p.line ≡ 0 → p.bit ≡ 0 → p.size ≡ 3 → Shape row p (bounds_0 p)
bounds_0_shape p is line bit size = by_size_shape row p p.upper _ (λ s e.
    made_row_if (word_ea_row rule.RegisterAndBit Control s 0 (size_bits s) 0 3) p _ _
    (word_ea_shape p rule.RegisterAndBit Control s 0 (size_bits s) 0 3 is line (sym e) bit size)
    (λ x legal. bounds_cases s x.0 x.1 (x.0 / 2 ^ 11 % 2 == 0) refl legal))

cas2_0_shape : (p : Opcode) (s : Size) → op 0 (5 + size_bits s) 0 3 7 4 ≡ p → Shape row p (cas2_0 s)
unfolding cas2_0
cas2_0_shape p s e = only row p (not_byte s) _ (λ ok. record {
  found = λ ws h.
      after (ruled_at rule.SwapPair) _ ws (Found row p ws) (λ e. tt) (λ w mid ew.
      let x = ruled_found rule.SwapPair ws w mid h ew in
      after (ruled_at rule.SwapPair) _ mid (Found row p ws) (λ e. tt) (λ v rest ev.
      let y = ruled_found rule.SwapPair mid v rest x.1.rest_words ev in
      record { legal = both (both ok x.0) y.0; opcode = e; taken = joined _ _ _ _ _ x.1 y.1 }));
  steady =
      then_steady _ _ (ruled_steady _) (λ w. made_steady _ _ (ruled_steady _))
      (always _ _ (ruled_steady _) (λ w. made_readable _ _ (ruled_steady _) (ruled_readable _)));
})

cas_0_shape : (p : Opcode) → IsOpcode p → p.line ≡ 0 → p.bit ≡ 0 → p.size ≡ 3 → 5 ≤ p.upper → Shape row p (cas_0 p)
cas_0_shape p is line bit size high =
    let upper = cas_field p.upper is.upper high in
    equals row p p.mode 7 p.lower 4 _ _
    (λ m r. cas2_0_shape p (cas_size p.upper) (op_is p 0 _ 0 3 7 4 line upper bit size m r))
    (made_row _ p _ _ (word_ea_shape p rule.Swap MemoryAlterable (cas_size p.upper) 0 _ 0 3 is line upper bit size) (λ x. refl))

or_false : (a b : Bool) → (a || b) ≡ false → (a ≡ false) × (b ≡ false)
or_false true b e = absurd cc
or_false false b e = (refl, e)

-- each of the rows that bits 11 to 9 tell apart
abbrev ImmediateRow : ℕ → Type 0
ImmediateRow n = (x : Size × ℕ × Ea) → row (immediate_instr n x.0 x.1 x.2) ≡ immediate_ea_row DataAlterable 0 n 0 x

immediate_row : (n : ℕ) → n < 8 → n < 6 → n ≢ 4 → ImmediateRow n
immediate_row n h = under_8 (λ n. n < 6 → n ≢ 4 → ImmediateRow n)
    (λ a b x. refl) (λ a b x. refl) (λ a b x. refl) (λ a b x. refl) (λ a b. absurd (b refl)) (λ a b x. refl)
    (λ a b. absurd (omega arith)) (λ a b. absurd (omega arith)) n h

abbrev StatusRow : ℕ → Type 0
StatusRow n = ((w : ℕ) → row (to_ccr_instr n w) ≡ with_word (op 0 n 0 0 7 4) w) × ((w : ℕ) → row (to_sr_instr n w) ≡ with_word (op 0 n 0 1 7 4) w)

status_row : (n : ℕ) → n < 8 → n < 6 → n ≢ 2 → n ≢ 3 → n ≢ 4 → StatusRow n
status_row n h = under_8 (λ n. n < 6 → n ≢ 2 → n ≢ 3 → n ≢ 4 → StatusRow n)
    (λ a b c d. (λ w. refl, λ w. refl)) (λ a b c d. (λ w. refl, λ w. refl)) (λ a b c d. absurd (b refl)) (λ a b c d. absurd (c refl))
    (λ a b c d. absurd (d refl)) (λ a b c d. (λ w. refl, λ w. refl)) (λ a b c d. absurd (omega arith)) (λ a b c d. absurd (omega arith)) n h

status_0_shape : (p : Opcode) → IsOpcode p → p.line ≡ 0 → p.upper < 6 → p.upper ≢ 4 → p.bit ≡ 0 → p.mode ≡ 7 → p.lower ≡ 4 → Shape row p (status_0 p)
status_0_shape p is line low ne bit m r =
    either row p ((p.upper == 2) || (p.upper == 3)) _ _ (λ e. none row p) (λ e.
    let q = or_false (p.upper == 2) (p.upper == 3) e in
    let rows = status_row p.upper is.upper low (eq_false p.upper 2 q.0) (eq_false p.upper 3 q.1) ne in
    equal row p p.size 0 _ _ (λ size. made_row _ p _ _ (word_shape p _ (op_is p 0 p.upper 0 0 7 4 line refl bit size m r)) rows.0) (λ n.
    equal row p p.size 1 _ _ (λ size. made_row _ p _ _ (word_shape p _ (op_is p 0 p.upper 0 1 7 4 line refl bit size m r)) rows.1) (λ n. none row p)))

immediate_0_shape : (p : Opcode) → IsOpcode p → p.line ≡ 0 → p.upper < 6 → p.upper ≢ 4 → p.bit ≡ 0 → Shape row p (immediate_0 p)
immediate_0_shape p is line low ne bit = equals row p p.mode 7 p.lower 4 _ _
    (λ m r. status_0_shape p is line low ne bit m r)
    (made_row _ p _ _ (immediate_ea_shape p DataAlterable 0 p.upper 0 is line refl bit) (immediate_row p.upper is.upper low ne))

cmpi_0_shape : (p : Opcode) → IsOpcode p → p.line ≡ 0 → p.upper ≡ 6 → p.bit ≡ 0 → Shape row p (cmpi_0 p)
cmpi_0_shape p is line upper bit = made_row _ p _ _ (immediate_ea_shape p DataAlterableOrPc 0 6 0 is line upper bit) (λ x. refl)

moves_0_shape : (p : Opcode) → IsOpcode p → p.line ≡ 0 → p.upper ≡ 7 → p.bit ≡ 0 → Shape row p (moves_0 p)
moves_0_shape p is line upper bit = by_size_shape row p p.size _ (λ s e.
    made_row _ p _ _ (word_ea_shape p rule.RegisterAndBit MemoryAlterable s 0 7 0 (size_bits s) is line upper bit (sym e)) (λ x. refl))

bit_0_shape : (p : Opcode) → IsOpcode p → p.line ≡ 0 → p.upper ≡ 4 → p.bit ≡ 0 → Shape row p (bit_0 p)
bit_0_shape p is line upper bit = made_row _ p _ _
    (word_ea_shape p rule.Any (bit_class_immediate (bit_kind p.size)) size.Byte 0 4 0 _ is line upper bit (bit_kind_of p.size is.size))
    (λ x. refl)

even_0_shape : (p : Opcode) → IsOpcode p → p.line ≡ 0 → p.bit ≡ 0 → Shape row p (even_0 p)
even_0_shape p is line bit =
    equal row p p.upper 4 _ _ (λ u. bit_0_shape p is line u bit) (λ n4.
    equal row p p.size 3 _ _ (λ s. below row p p.upper 4 _ _
    (λ u. bounds_0_shape p is line bit s) (λ u. cas_0_shape p is line bit s (omega arith))) (λ s.
    equal row p p.upper 6 _ _ (λ u. cmpi_0_shape p is line u bit) (λ n6.
    equal row p p.upper 7 _ _ (λ u. moves_0_shape p is line u bit) (λ n7. let up = is.upper in immediate_0_shape p is line (omega arith) n4 bit))))

pub line_0_shape : (p : Opcode) → IsOpcode p → p.line ≡ 0 → Shape row p (line_0 p)
line_0_shape p is line = equal row p p.bit 1 _ _ (λ bit. odd_0_shape p is line bit) (λ n. let below = is.bit in even_0_shape p is line (omega arith))
