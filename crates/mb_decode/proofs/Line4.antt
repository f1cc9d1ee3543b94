-- Line 4: each row is read from its spelling, and what is read is spelled so.
use Rattle.std.proofs.Common.{◌≡◌, ◌≢◌, ℕ, ◌+◌, ◌*◌, ◌/◌, ◌%◌, ◌<◌, ◌≤◌, Bool, true, false, List, ◌∷◌, ◌++◌, Ok, refl, ◌∙◌, arith}
use Rattle.std.specs.Prelude.{◌&&◌, ◌||◌, ◌==◌, nat_lt}
use Rattle.std.proofs.lemmas.Bool.Decides.{nat_tests}
use Rattle.mb_instr.specs.declared.size.Size.{Size}
use Rattle.mb_instr.specs.declared.size.Size.TheVariants as size
use Rattle.mb_instr.specs.declared.operand.Ea.{Ea}
use Rattle.mb_instr.specs.declared.operand.OperandClass.TheVariants.{All, Data, DataAlterable, Control, StoreList, LoadList}
use Rattle.mb_instr.specs.declared.rule.WordRule.TheVariants as rule
use Rattle.mb_instr.specs.declared.instruction.Move.TheVariants as move
use Rattle.mb_instr.specs.declared.instruction.Arith.TheVariants as arith_of
use Rattle.mb_instr.specs.declared.instruction.Flow.TheVariants as flow
use Rattle.mb_instr.specs.declared.instruction.System.TheVariants as system
use Rattle.mb_instr.specs.declared.instruction.Instr.TheVariants.{Move, Arith, Flow, System}
use Rattle.mb_instr.specs.declared.opcode.Opcode.{Opcode}
use Rattle.mb_instr.specs.Sizes.{size_bits, chk_bits, long_bit, size_of_bit, not_byte}
use Rattle.mb_instr.specs.Kinds.{flag}
use Rattle.mb_instr.specs.Rules.{holds}
use Rattle.mb_instr.specs.Opcodes.{IsOpcode}
use Rattle.mb_instr.specs.Operands.{takes, mode, lower, more, long_words}
use Rattle.mb_instr.specs.Shapes.{op, bare, at_ea}
use Rattle.mb_instr.specs.Rows.{row}
use Rattle.mb_decode.proofs.ReadBack.{next, unmet, word_read, long_read, taken, ruled_read, ea_read, sized_read, word_ea_read}
use Rattle.mb_decode.proofs.Shapes.{Shape, none, equal, equals, below, above, only, op_is, guarded, made_row, given, given_when, sized_row, word_ea_row}
use Rattle.mb_decode.proofs.Shapes.{word_shape, long_shape, ruled_shape, ea_shape, sized_shape, word_ea_shape}
use Rattle.mb_decode.specs.RowReading.{unary_instr, unary_4, status_class, status_instr, status_4, nbcd_4, pea_4, extend_instr, movem_store_4, tst_4}
use Rattle.mb_decode.specs.RowReading.{long_pair_instr, long_pair_4, movem_load_4, jump_instr, jump_4, single_4, movec_4, system_4, even_4}
use Rattle.mb_decode.specs.RowReading.{lea_4, chk_size, chk_4, odd_4, line_4}
use Rattle.mb_decode.proofs.Fields.{under_2, under_4, under_8, not_three, not_register_control, not_register_store, not_address, not_byte_of_bit, high_size}
use Rattle.mb_decode.proofs.Fields.{and_false, test_holds}

-- ---- from its spelling

-- NEGX, CLR, NEG, NOT
pub unary_again : (n : ℕ) (s : Size) (ea : Ea) (rest : List ℕ) → takes DataAlterable s ea ≡ true → nat_lt n 4 ≡ true →
    line_4 (op 4 n 0 (size_bits s) (mode ea) (lower ea)) (more s ea ++ rest) ≡ Ok (unary_instr n s ea, rest)
unary_again n s ea rest h low = let size = not_three s in rw (low, size) (next _ _ _ _ _ (sized_read DataAlterable 4 n 0 s ea rest h))

-- MOVE from and to the status registers
pub status_again : (n : ℕ) (ea : Ea) (rest : List ℕ) → takes (status_class n) size.Word ea ≡ true → nat_lt n 4 ≡ true →
    line_4 (op 4 n 0 3 (mode ea) (lower ea)) (more size.Word ea ++ rest) ≡ Ok (status_instr n ea, rest)
status_again n ea rest h low = rw low (next _ _ _ _ _ (ea_read (status_class n) size.Word 4 n 0 3 ea rest h))

pub tst_read : (s : Size) (ea : Ea) (rest : List ℕ) → takes All s ea ≡ true →
    line_4 (op 4 5 0 (size_bits s) (mode ea) (lower ea)) (more s ea ++ rest) ≡ Ok (Arith (arith_of.Tst s ea), rest)
tst_read s ea rest h = unmet _ _ _ _ (not_three s) ∙ next _ _ _ _ _ (sized_read All 4 5 0 s ea rest h)

pub tas_read : (ea : Ea) (rest : List ℕ) → takes DataAlterable size.Byte ea ≡ true →
    line_4 (op 4 5 0 3 (mode ea) (lower ea)) (more size.Byte ea ++ rest) ≡ Ok (Arith (arith_of.Tas ea), rest)
tas_read ea rest h = next _ _ _ _ _ (ea_read DataAlterable size.Byte 4 5 0 3 ea rest h)

lea_operand : (a m : ℕ) → (m == 0) ≡ false → ((a == 4) && (m == 0)) ≡ false
lea_operand a m h = and_false (a == 4) (m == 0) h

pub lea_read : (a : ℕ) (ea : Ea) (rest : List ℕ) → takes Control size.Long ea ≡ true →
    line_4 (op 4 a 1 3 (mode ea) (lower ea)) (more size.Long ea ++ rest) ≡ Ok (Move (move.Lea a ea), rest)
lea_read a ea rest h =
    let operand = lea_operand a (mode ea) (not_register_control size.Long (mode ea) (lower ea) (taken Control size.Long ea h).0) in
    unmet _ _ _ _ operand ∙ next _ _ _ _ _ (ea_read Control size.Long 4 a 1 3 ea rest h)

pub extb_read : (d : ℕ) (rest : List ℕ) → line_4 (op 4 4 1 3 0 d) rest ≡ Ok (Arith (arith_of.ExtbL d), rest)
extb_read d rest = refl

pub mul_read : (ea : Ea) (w : ℕ) (rest : List ℕ) → (holds rule.LongPair w && takes Data size.Long ea) ≡ true →
    line_4 (op 4 6 0 0 (mode ea) (lower ea)) (w ∷ more size.Long ea ++ rest) ≡ Ok (Arith (arith_of.MulL ea w), rest)
mul_read ea w rest h = next _ _ _ _ _ (word_ea_read rule.LongPair Data size.Long 4 6 0 0 w ea rest h)

pub div_read : (ea : Ea) (w : ℕ) (rest : List ℕ) → (holds rule.LongPair w && takes Data size.Long ea) ≡ true →
    line_4 (op 4 6 0 1 (mode ea) (lower ea)) (w ∷ more size.Long ea ++ rest) ≡ Ok (Arith (arith_of.DivL ea w), rest)
div_read ea w rest h = next _ _ _ _ _ (word_ea_read rule.LongPair Data size.Long 4 6 0 1 w ea rest h)

pub link_long_read : (a d : ℕ) (rest : List ℕ) → line_4 (op 4 4 0 0 1 a) (long_words d ++ rest) ≡ Ok (Move (move.LinkL a d), rest)
link_long_read a d rest = next _ _ _ _ _ (long_read d rest)

pub nbcd_read : (ea : Ea) (rest : List ℕ) → takes DataAlterable size.Byte ea ≡ true →
    line_4 (op 4 4 0 0 (mode ea) (lower ea)) (more size.Byte ea ++ rest) ≡ Ok (Arith (arith_of.Nbcd ea), rest)
nbcd_read ea rest h =
    unmet _ _ _ _ (not_address size.Byte (mode ea) (lower ea) (taken DataAlterable size.Byte ea h).0) ∙
    next _ _ _ _ _ (ea_read DataAlterable size.Byte 4 4 0 0 ea rest h)

pub pea_read : (ea : Ea) (rest : List ℕ) → takes Control size.Long ea ≡ true →
    line_4 (op 4 4 0 1 (mode ea) (lower ea)) (more size.Long ea ++ rest) ≡ Ok (Move (move.Pea ea), rest)
pea_read ea rest h =
    unmet _ _ _ _ (not_register_control size.Long (mode ea) (lower ea) (taken Control size.Long ea h).0) ∙
    next _ _ _ _ _ (ea_read Control size.Long 4 4 0 1 ea rest h)

pub jsr_read : (ea : Ea) (rest : List ℕ) → takes Control size.Long ea ≡ true →
    line_4 (op 4 7 0 2 (mode ea) (lower ea)) (more size.Long ea ++ rest) ≡ Ok (Flow (flow.Jsr ea), rest)
jsr_read ea rest h = next _ _ _ _ _ (ea_read Control size.Long 4 7 0 2 ea rest h)

pub jmp_read : (ea : Ea) (rest : List ℕ) → takes Control size.Long ea ≡ true →
    line_4 (op 4 7 0 3 (mode ea) (lower ea)) (more size.Long ea ++ rest) ≡ Ok (Flow (flow.Jmp ea), rest)
jmp_read ea rest h = next _ _ _ _ _ (ea_read Control size.Long 4 7 0 3 ea rest h)

pub chk_read : (d : ℕ) (s : Size) (ea : Ea) (rest : List ℕ) → (not_byte s && takes Data s ea) ≡ true →
    line_4 (op 4 d 1 (chk_bits s) (mode ea) (lower ea)) (more s ea ++ rest) ≡ Ok (Flow (flow.Chk d s ea), rest)
chk_read d size.Byte ea rest h = absurd cc
chk_read d size.Word ea rest h = next _ _ _ _ _ (ea_read Data size.Word 4 d 1 2 ea rest h)
chk_read d size.Long ea rest h = next _ _ _ _ _ (ea_read Data size.Long 4 d 1 0 ea rest h)

pub swap_read : (d : ℕ) (rest : List ℕ) → line_4 (op 4 4 0 1 0 d) rest ≡ Ok (Move (move.Swap d), rest)
swap_read d rest = refl

pub movem_load_read : (s : Size) (ea : Ea) (w : ℕ) (rest : List ℕ) → (not_byte s && takes LoadList s ea) ≡ true →
    line_4 (op 4 6 0 (2 + long_bit s) (mode ea) (lower ea)) (w ∷ more s ea ++ rest) ≡ Ok (Move (move.MovemLoad s ea w), rest)
movem_load_read size.Byte ea w rest h = absurd cc
movem_load_read size.Word ea w rest h = next _ _ _ _ _ (word_ea_read rule.Any LoadList size.Word 4 6 0 2 w ea rest h)
movem_load_read size.Long ea w rest h = next _ _ _ _ _ (word_ea_read rule.Any LoadList size.Long 4 6 0 3 w ea rest h)

pub movem_read : (s : Size) (ea : Ea) (w : ℕ) (rest : List ℕ) → (not_byte s && takes StoreList s ea) ≡ true →
    line_4 (op 4 4 0 (2 + long_bit s) (mode ea) (lower ea)) (w ∷ more s ea ++ rest) ≡ Ok (Move (move.MovemStore s ea w), rest)
movem_read size.Byte ea w rest h = absurd cc
movem_read size.Word ea w rest h =
    unmet _ _ _ _ (not_register_store size.Word (mode ea) (lower ea) (taken StoreList size.Word ea h).0) ∙
    next _ _ _ _ _ (word_ea_read rule.Any StoreList size.Word 4 4 0 2 w ea rest h)
movem_read size.Long ea w rest h =
    unmet _ _ _ _ (not_register_store size.Long (mode ea) (lower ea) (taken StoreList size.Long ea h).0) ∙
    next _ _ _ _ _ (word_ea_read rule.Any StoreList size.Long 4 4 0 3 w ea rest h)

pub ext_word_read : (d : ℕ) (rest : List ℕ) → line_4 (op 4 4 0 2 0 d) rest ≡ Ok (Arith (arith_of.ExtW d), rest)
ext_word_read d rest = refl

pub ext_long_read : (d : ℕ) (rest : List ℕ) → line_4 (op 4 4 0 3 0 d) rest ≡ Ok (Arith (arith_of.ExtL d), rest)
ext_long_read d rest = refl

pub trap_read : (v : ℕ) (rest : List ℕ) → (nat_lt v 16 && true) ≡ true → line_4 (op 4 7 0 1 (v / 8) (v % 8)) rest ≡ Ok (Flow (flow.Trap v), rest)
trap_read v rest h =
    let below = test_holds (nat_lt v 16) h in
    let low : nat_lt (v / 8) 2 ≡ true = grind (arith, nat_tests) in
    let same : v / 8 * 8 + v % 8 ≡ v = omega arith in
    rw (low, same) refl

pub link_word_read : (a d : ℕ) (rest : List ℕ) → line_4 (op 4 7 0 1 2 a) (d ∷ rest) ≡ Ok (Move (move.LinkW a d), rest)
link_word_read a d rest = next _ _ _ _ _ (word_read d rest)

pub unlk_read : (a : ℕ) (rest : List ℕ) → line_4 (op 4 7 0 1 3 a) rest ≡ Ok (Move (move.Unlk a), rest)
unlk_read a rest = refl

pub move_usp_read : (k : Bool) (a : ℕ) (rest : List ℕ) → line_4 (op 4 7 0 1 (4 + flag k) a) rest ≡ Ok (System (system.MoveUsp k a), rest)
move_usp_read true a rest = refl
move_usp_read false a rest = refl

pub reset_read : (rest : List ℕ) → line_4 (op 4 7 0 1 6 0) rest ≡ Ok (System system.Reset, rest)
reset_read rest = refl

pub nop_read : (rest : List ℕ) → line_4 (op 4 7 0 1 6 1) rest ≡ Ok (Flow flow.Nop, rest)
nop_read rest = refl

pub stop_read : (w : ℕ) (rest : List ℕ) → line_4 (op 4 7 0 1 6 2) (w ∷ rest) ≡ Ok (System (system.Stop w), rest)
stop_read w rest = next _ _ _ _ _ (word_read w rest)

pub rtd_read : (d : ℕ) (rest : List ℕ) → line_4 (op 4 7 0 1 6 4) (d ∷ rest) ≡ Ok (Flow (flow.Rtd d), rest)
rtd_read d rest = next _ _ _ _ _ (word_read d rest)

pub rte_read : (rest : List ℕ) → line_4 (op 4 7 0 1 6 3) rest ≡ Ok (System system.Rte, rest)
rte_read rest = refl

pub rts_read : (rest : List ℕ) → line_4 (op 4 7 0 1 6 5) rest ≡ Ok (Flow flow.Rts, rest)
rts_read rest = refl

pub trapv_read : (rest : List ℕ) → line_4 (op 4 7 0 1 6 6) rest ≡ Ok (Flow flow.Trapv, rest)
trapv_read rest = refl

pub rtr_read : (rest : List ℕ) → line_4 (op 4 7 0 1 6 7) rest ≡ Ok (Flow flow.Rtr, rest)
rtr_read rest = refl

pub movec_read : (k : Bool) (w : ℕ) (rest : List ℕ) → holds rule.Control w ≡ true →
    line_4 (op 4 7 0 1 7 (2 + flag k)) (w ∷ rest) ≡ Ok (System (system.Movec k w), rest)
movec_read true w rest h = next _ _ _ _ _ (ruled_read rule.Control w rest h)
movec_read false w rest h = next _ _ _ _ _ (ruled_read rule.Control w rest h)

-- ---- what is read

nbcd_4_shape : (p : Opcode) → IsOpcode p → p.line ≡ 4 → p.upper ≡ 4 → p.bit ≡ 0 → p.size ≡ 0 → Shape row p (nbcd_4 p)
nbcd_4_shape p is line upper bit f =
    equal row p p.mode 1 _ _ (λ mode. made_row _ p _ _ (long_shape p _ (op_is p 4 4 0 0 1 p.lower line upper bit f mode refl)) (λ d. refl)) (λ n.
    made_row _ p _ _ (ea_shape p DataAlterable size.Byte 4 4 0 0 is line upper bit f) (λ ea. refl))

pea_4_shape : (p : Opcode) → IsOpcode p → p.line ≡ 4 → p.upper ≡ 4 → p.bit ≡ 0 → p.size ≡ 1 → Shape row p (pea_4 p)
pea_4_shape p is line upper bit f =
    equal row p p.mode 0 _ _ (λ mode. given p _ _ refl (op_is p 4 4 0 1 0 p.lower line upper bit f mode refl)) (λ n.
    made_row _ p _ _ (ea_shape p Control size.Long 4 4 0 1 is line upper bit f) (λ ea. refl))

abbrev ExtendRow : ℕ → Type 0
ExtendRow n = 2 ≤ n → (d : ℕ) → row (extend_instr n d) ≡ bare (op 4 4 0 n 0 d)

extend_row : (n : ℕ) → n < 4 → ExtendRow n
extend_row n h = under_4 ExtendRow (λ z. absurd (omega arith)) (λ z. absurd (omega arith)) (λ z d. refl) (λ z d. refl) n h

movem_store_4_shape : (p : Opcode) → IsOpcode p → p.line ≡ 4 → p.upper ≡ 4 → p.bit ≡ 0 → 2 ≤ p.size → Shape row p (movem_store_4 p)
movem_store_4_shape p is line upper bit high =
    let long_words = size_of_bit (p.size % 2) in
    equal row p p.mode 0 _ _
    (λ mode. given p _ _ (extend_row p.size is.size high p.lower) (op_is p 4 4 0 _ 0 p.lower line upper bit refl mode refl)) (λ n.
    made_row _ p _ _ (guarded _ p _ _ (not_byte_of_bit (p.size % 2) (omega arith))
    (word_ea_shape p rule.Any StoreList long_words 4 4 0 _ is line upper bit (high_size p.size is.size high))) (λ x. refl))

single_4_shape : (p : Opcode) → IsOpcode p → p.line ≡ 4 → p.upper ≡ 7 → p.bit ≡ 0 → p.size ≡ 1 → p.mode ≡ 6 → Shape row p (single_4 p)
single_4_shape p is line upper bit size mode =
    let low = is.lower in
    equal row p p.lower 0 _ _ (λ lower. given p _ _ refl (op_is p 4 7 0 1 6 0 line upper bit size mode lower)) (λ n0.
    equal row p p.lower 1 _ _ (λ lower. given p _ _ refl (op_is p 4 7 0 1 6 1 line upper bit size mode lower)) (λ n1.
    equal row p p.lower 2 _ _ (λ lower. made_row _ p _ _ (word_shape p _ (op_is p 4 7 0 1 6 2 line upper bit size mode lower)) (λ w. refl)) (λ n2.
    equal row p p.lower 3 _ _ (λ lower. given p _ _ refl (op_is p 4 7 0 1 6 3 line upper bit size mode lower)) (λ n3.
    equal row p p.lower 4 _ _ (λ lower. made_row _ p _ _ (word_shape p _ (op_is p 4 7 0 1 6 4 line upper bit size mode lower)) (λ w. refl)) (λ n4.
    equal row p p.lower 5 _ _ (λ lower. given p _ _ refl (op_is p 4 7 0 1 6 5 line upper bit size mode lower)) (λ n5.
    equal row p p.lower 6 _ _ (λ lower. given p _ _ refl (op_is p 4 7 0 1 6 6 line upper bit size mode lower)) (λ n6.
    given p _ _ refl (op_is p 4 7 0 1 6 7 line upper bit size mode (omega arith)))))))))

abbrev MovecField : ℕ → Type 0
MovecField n = ((n == 2) || (n == 3)) ≡ true → n ≡ 2 + flag (n == 3)

movec_field : (n : ℕ) → n < 8 → MovecField n
movec_field n h =
    under_8 MovecField (λ e. absurd cc) (λ e. absurd cc) (λ e. refl) (λ e. refl) (λ e. absurd cc) (λ e. absurd cc) (λ e. absurd cc) (λ e. absurd cc) n h

movec_4_shape : (p : Opcode) → IsOpcode p → p.line ≡ 4 → p.upper ≡ 7 → p.bit ≡ 0 → p.size ≡ 1 → p.mode ≡ 7 → Shape row p (movec_4 p)
movec_4_shape p is line upper bit size mode = only row p ((p.lower == 2) || (p.lower == 3)) _ (λ e.
    let fields = op_is p 4 7 0 1 7 _ line upper bit size mode (movec_field p.lower is.lower e) in
    made_row _ p _ _ (ruled_shape p _ rule.Control fields) (λ w. refl))

usp_mode : (m : ℕ) → m < 8 → 2 ≤ m → m ≢ 2 → m ≢ 3 → m ≢ 6 → m ≢ 7 → m ≡ 4 + flag (m == 5)
usp_mode m h = under_8 (λ m. 2 ≤ m → m ≢ 2 → m ≢ 3 → m ≢ 6 → m ≢ 7 → m ≡ 4 + flag (m == 5))
    (λ a b c d e. absurd (omega arith)) (λ a b c d e. absurd (omega arith)) (λ a b c d e. absurd (b refl)) (λ a b c d e. absurd (c refl))
    (λ a b c d e. refl) (λ a b c d e. refl) (λ a b c d e. absurd (d refl)) (λ a b c d e. absurd (e refl)) m h

trap_below : (m r : ℕ) → m < 2 → r < 8 → nat_lt (m * 8 + r) 16 ≡ true
trap_below m r hm hr = let below : m * 8 + r < 16 = omega arith in grind (arith, nat_tests)

system_4_shape : (p : Opcode) → IsOpcode p → p.line ≡ 4 → p.upper ≡ 7 → p.bit ≡ 0 → p.size ≡ 1 → Shape row p (system_4 p)
system_4_shape p is line upper bit size =
    let low = is.lower in
    let high : p.mode ≡ (p.mode * 8 + p.lower) / 8 = omega arith in
    let rest : p.lower ≡ (p.mode * 8 + p.lower) % 8 = omega arith in
    below row p p.mode 2 _ _
    (λ m. given_when p _ _ _ refl (trap_below p.mode p.lower m low) (op_is p 4 7 0 1 _ _ line upper bit size high rest)) (λ m.
    equal row p p.mode 2 _ _ (λ mode. made_row _ p _ _ (word_shape p _ (op_is p 4 7 0 1 2 p.lower line upper bit size mode refl)) (λ d. refl)) (λ n2.
    equal row p p.mode 3 _ _ (λ mode. given p _ _ refl (op_is p 4 7 0 1 3 p.lower line upper bit size mode refl)) (λ n3.
    equal row p p.mode 6 _ _ (λ mode. single_4_shape p is line upper bit size mode) (λ n6.
    equal row p p.mode 7 _ _ (λ mode. movec_4_shape p is line upper bit size mode) (λ n7.
    given p _ _ refl (op_is p 4 7 0 1 _ p.lower line upper bit size (usp_mode p.mode is.mode m n2 n3 n6 n7) refl))))))

abbrev UnaryRow : ℕ → Type 0
UnaryRow n = (x : Size × Ea) → row (unary_instr n x.0 x.1) ≡ sized_row DataAlterable 4 n 0 x

unary_4_shape : (p : Opcode) → IsOpcode p → p.line ≡ 4 → p.upper < 4 → p.bit ≡ 0 → Shape row p (unary_4 p)
unary_4_shape p is line low bit =
    made_row _ p _ _ (sized_shape p DataAlterable 4 p.upper 0 is line refl bit) (under_4 UnaryRow (λ x. refl) (λ x. refl) (λ x. refl) (λ x. refl) p.upper low)

abbrev StatusRow : ℕ → Type 0
StatusRow n = (ea : Ea) → row (status_instr n ea) ≡ at_ea (status_class n) size.Word 4 n 0 3 ea

status_4_shape : (p : Opcode) → IsOpcode p → p.line ≡ 4 → p.upper < 4 → p.bit ≡ 0 → p.size ≡ 3 → Shape row p (status_4 p)
status_4_shape p is line low bit f =
    made_row _ p _ _ (ea_shape p (status_class p.upper) size.Word 4 p.upper 0 3 is line refl bit f)
    (under_4 StatusRow (λ ea. refl) (λ ea. refl) (λ ea. refl) (λ ea. refl) p.upper low)

tst_4_shape : (p : Opcode) → IsOpcode p → p.line ≡ 4 → p.upper ≡ 5 → p.bit ≡ 0 → Shape row p (tst_4 p)
tst_4_shape p is line upper bit =
    equal row p p.size 3 _ _ (λ f. made_row _ p _ _ (ea_shape p DataAlterable size.Byte 4 5 0 3 is line upper bit f) (λ ea. refl)) (λ n.
    made_row _ p _ _ (sized_shape p All 4 5 0 is line upper bit) (λ x. refl))

abbrev LongPairRow : ℕ → Type 0
LongPairRow n = (x : ℕ × Ea) → row (long_pair_instr n x.0 x.1) ≡ word_ea_row rule.LongPair Data size.Long 4 6 0 n x

long_pair_4_shape : (p : Opcode) → IsOpcode p → p.line ≡ 4 → p.upper ≡ 6 → p.bit ≡ 0 → p.size < 2 → Shape row p (long_pair_4 p)
long_pair_4_shape p is line upper bit low =
    made_row _ p _ _ (word_ea_shape p rule.LongPair Data size.Long 4 6 0 p.size is line upper bit refl)
    (under_2 LongPairRow (λ x. refl) (λ x. refl) p.size low)

movem_load_4_shape : (p : Opcode) → IsOpcode p → p.line ≡ 4 → p.upper ≡ 6 → p.bit ≡ 0 → 2 ≤ p.size → Shape row p (movem_load_4 p)
movem_load_4_shape p is line upper bit high =
    let long_words = size_of_bit (p.size % 2) in
    made_row _ p _ _ (guarded _ p _ _ (not_byte_of_bit (p.size % 2) (omega arith))
    (word_ea_shape p rule.Any LoadList long_words 4 6 0 _ is line upper bit (high_size p.size is.size high))) (λ x. refl)

abbrev JumpRow : ℕ → Type 0
JumpRow n = 2 ≤ n → (ea : Ea) → row (jump_instr n ea) ≡ at_ea Control size.Long 4 7 0 n ea

jump_4_shape : (p : Opcode) → IsOpcode p → p.line ≡ 4 → p.upper ≡ 7 → p.bit ≡ 0 → 2 ≤ p.size → Shape row p (jump_4 p)
jump_4_shape p is line upper bit high =
    made_row _ p _ _ (ea_shape p Control size.Long 4 7 0 p.size is line upper bit refl)
    (under_4 JumpRow (λ z. absurd (omega arith)) (λ z. absurd (omega arith)) (λ z ea. refl) (λ z ea. refl) p.size is.size high)

lea_4_shape : (p : Opcode) → IsOpcode p → p.line ≡ 4 → p.bit ≡ 1 → p.size ≡ 3 → Shape row p (lea_4 p)
lea_4_shape p is line bit f =
    equals row p p.upper 4 p.mode 0 _ _ (λ upper mode. given p _ _ refl (op_is p 4 4 1 3 0 p.lower line upper bit f mode refl))
    (made_row _ p _ _ (ea_shape p Control size.Long 4 p.upper 1 3 is line refl bit f) (λ ea. refl))

abbrev ChkField : ℕ → Type 0
ChkField n = n ≢ 1 → n ≢ 3 → (not_byte (chk_size n) ≡ true) × (n ≡ chk_bits (chk_size n))

chk_field : (n : ℕ) → n < 4 → ChkField n
chk_field n h = under_4 ChkField (λ a b. (refl, refl)) (λ a b. absurd (a refl)) (λ a b. (refl, refl)) (λ a b. absurd (b refl)) n h

chk_4_shape : (p : Opcode) → IsOpcode p → p.line ≡ 4 → p.bit ≡ 1 → p.size ≢ 1 → p.size ≢ 3 → Shape row p (chk_4 p)
chk_4_shape p is line bit one three =
    let f = chk_field p.size is.size one three in
    made_row _ p _ _ (guarded _ p _ _ f.0 (ea_shape p Data (chk_size p.size) 4 p.upper 1 _ is line refl bit f.1)) (λ ea. refl)

odd_4_shape : (p : Opcode) → IsOpcode p → p.line ≡ 4 → p.bit ≡ 1 → Shape row p (odd_4 p)
odd_4_shape p is line bit =
    equal row p p.size 3 _ _ (λ f. lea_4_shape p is line bit f) (λ three.
    equal row p p.size 1 _ _ (λ f. none row p) (λ one. chk_4_shape p is line bit one three))

even_4_shape : (p : Opcode) → IsOpcode p → p.line ≡ 4 → p.bit ≡ 0 → Shape row p (even_4 p)
even_4_shape p is line bit =
    let up = is.upper in
    below row p p.upper 4 _ _ (λ low.
    equal row p p.size 3 _ _ (λ f. status_4_shape p is line low bit f) (λ n. unary_4_shape p is line low bit)) (λ high.
    equal row p p.upper 4 _ _ (λ u.
    equal row p p.size 0 _ _ (λ f. nbcd_4_shape p is line u bit f) (λ n0.
    equal row p p.size 1 _ _ (λ f. pea_4_shape p is line u bit f) (λ n1. movem_store_4_shape p is line u bit (omega arith)))) (λ n4.
    equal row p p.upper 5 _ _ (λ u. tst_4_shape p is line u bit) (λ n5.
    equal row p p.upper 6 _ _ (λ u.
    above row p 1 p.size _ _ (λ f. movem_load_4_shape p is line u bit f) (λ f. long_pair_4_shape p is line u bit (omega arith))) (λ n6.
    let u : p.upper ≡ 7 = omega arith in
    above row p 1 p.size _ _ (λ f. jump_4_shape p is line u bit f) (λ f.
    equal row p p.size 1 _ _ (λ f. system_4_shape p is line u bit f) (λ n. none row p))))))

pub line_4_shape : (p : Opcode) → IsOpcode p → p.line ≡ 4 → Shape row p (line_4 p)
line_4_shape p is line = equal row p p.bit 1 _ _ (λ bit. odd_4_shape p is line bit) (λ n.
    let below = is.bit in even_4_shape p is line (omega arith))
