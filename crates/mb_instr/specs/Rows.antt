-- The table of instructions, row by row.
use Rattle.std.specs.Prelude.{ℕ, ◌+◌, ◌*◌, ◌/◌, ◌%◌, Bool, true, ◌&&◌, ◌||◌, nat_lt}
use Rattle.std.specs.Prelude.{List, [], ◌∷◌, ◌++◌, if◌then◌else◌}
use Rattle.mb_instr.specs.declared.size.Size.TheVariants as size
use Rattle.mb_instr.specs.declared.operand.OperandClass.TheVariants.{All, Data, Alterable, DataAlterable}
use Rattle.mb_instr.specs.declared.operand.OperandClass.TheVariants.{DataAlterableOrPc, MemoryAlterable, Control}
use Rattle.mb_instr.specs.declared.operand.OperandClass.TheVariants.{StoreList, LoadList}
use Rattle.mb_instr.specs.declared.rule.WordRule.TheVariants as rule
use Rattle.mb_instr.specs.declared.kinds.Exchange.{Exchange}
use Rattle.mb_instr.specs.declared.kinds.Exchange.TheVariants as exchange
use Rattle.mb_instr.specs.declared.kinds.TrapOperand.{TrapOperand}
use Rattle.mb_instr.specs.declared.kinds.TrapOperand.TheVariants as trap
use Rattle.mb_instr.specs.declared.instruction.Move.{Move}
use Rattle.mb_instr.specs.declared.instruction.Move.TheVariants as move
use Rattle.mb_instr.specs.declared.instruction.Arith.{Arith}
use Rattle.mb_instr.specs.declared.instruction.Arith.TheVariants as arith
use Rattle.mb_instr.specs.declared.instruction.Flow.{Flow}
use Rattle.mb_instr.specs.declared.instruction.Flow.TheVariants as flow
use Rattle.mb_instr.specs.declared.instruction.System.{System}
use Rattle.mb_instr.specs.declared.instruction.System.TheVariants as system
use Rattle.mb_instr.specs.declared.instruction.Instr.{Instr}
use Rattle.mb_instr.specs.declared.instruction.Instr.TheVariants as instr
use Rattle.mb_instr.specs.Sizes.{size_bits, move_bits, chk_bits, long_bit, not_byte}
use Rattle.mb_instr.specs.Kinds.{flag, bit_bits, shift_bits, field_bits, line_bits, caches_bits, scope_bits}
use Rattle.mb_instr.specs.Kinds.{flush_bits, condition_bits, bit_class, bit_class_immediate, field_class, field_rule, side}
use Rattle.mb_instr.specs.Rules.{holds}
use Rattle.mb_instr.specs.Operands.{takes, more, mode, lower, long_words}
use Rattle.mb_instr.specs.Shapes.{Row, op, bare, with_word, with_long, with_ruled, at_ea, sized, word_ea, immediate_ea}
use Rattle.mb_instr.specs.Shapes.{when, on_condition, branch_byte, branch_words, is_branch, is_quick}

-- EXG's size and mode
abbrev pub exchange_bits : Exchange → ℕ
exchange_bits exchange.Data = 1
exchange_bits exchange.Address = 1
exchange_bits exchange.DataAddress = 2

abbrev pub exchange_mode : Exchange → ℕ
exchange_mode exchange.Data = 0
exchange_mode exchange.Address = 1
exchange_mode exchange.DataAddress = 1

-- TRAPcc's register field, and the words behind it
abbrev pub trap_lower : TrapOperand → ℕ
trap_lower (trap.Word w) = 2
trap_lower (trap.Long l) = 3
trap_lower trap.Nothing = 4

abbrev pub trap_words : TrapOperand → List ℕ
trap_words (trap.Word w) = w ∷ []
trap_words (trap.Long l) = long_words l
trap_words trap.Nothing = []

-- an immediate count 8 is spelled 0
abbrev pub count_field : Bool → ℕ → ℕ
count_field by_register count = if by_register then count else count % 8

-- ---- the rows

-- Above each row stands its first word in bits, and behind a semicolon a further word that has fields of its own:
-- mmmrrr is an operand's mode and register, s its size, a d x y are registers, c is a condition, k says which form it
-- is, and of a further word n is the register that it names.

abbrev pub move_row : Move → Row
-- 1100 xxx1 kkkk kyyy
move_row (move.Exg x k y) = bare (op 12 x 1 (exchange_bits k) (exchange_mode k) y)
-- 0100 0010 11mm mrrr
move_row (move.FromCcr ea) = at_ea DataAlterable size.Word 4 1 0 3 ea
-- 0100 aaa1 11mm mrrr
move_row (move.Lea a ea) = at_ea Control size.Long 4 a 1 3 ea
-- 0100 1000 0000 1aaa
move_row (move.LinkL a d) = with_long (op 4 4 0 0 1 a) d
-- 0100 1110 0101 0aaa
move_row (move.LinkW a d) = with_word (op 4 7 0 1 2 a) d
-- 00ss RRRM MMmm mrrr
move_row (move.Move s d e) = record {
  legal = takes All s e && takes DataAlterable s d;
  opcode = op (move_bits s) (lower d) (mode d / 4) (mode d % 4) (mode e) (lower e);
  before = [];
  operands = more s e ++ more s d;
}
-- 1111 0110 000k kaaa
move_row (move.Move16Abs k a l) = with_long (op 15 3 0 0 (line_bits k) a) l
-- 1111 0110 0010 0xxx; 1yyy 0000 0000 0000
move_row (move.Move16Post x w) = with_ruled rule.Line (op 15 3 0 0 4 x) w
-- 00ss aaa0 01mm mrrr
move_row (move.Movea s a ea) = when (not_byte s) (at_ea All s (move_bits s) a 0 1 ea)
-- 0100 1100 1smm mrrr
move_row (move.MovemLoad s ea w) = when (not_byte s) (word_ea rule.Any LoadList s 4 6 0 (2 + long_bit s) w ea)
-- 0100 1000 1smm mrrr
move_row (move.MovemStore s ea w) = when (not_byte s) (word_ea rule.Any StoreList s 4 4 0 (2 + long_bit s) w ea)
-- 0000 ddd1 ks00 1aaa
move_row (move.Movep d k s a w) = when (not_byte s) (with_word (op 0 d 1 (flag k * 2 + long_bit s) 1 a) w)
-- 0111 ddd0 nnnn nnnn
move_row (move.Moveq d n) = bare (op 7 d 0 (n / 64) (n / 8 % 8) (n % 8))
-- 0100 1000 01mm mrrr
move_row (move.Pea ea) = at_ea Control size.Long 4 4 0 1 ea
-- 0101 cccc 11mm mrrr
move_row (move.Scc c ea) = at_ea DataAlterable size.Byte 5 (condition_bits c / 2) (condition_bits c % 2) 3 ea
-- 0100 1000 0100 0ddd
move_row (move.Swap d) = bare (op 4 4 0 1 0 d)
-- 0100 0100 11mm mrrr
move_row (move.ToCcr ea) = at_ea Data size.Word 4 2 0 3 ea
-- 0100 1110 0101 1aaa
move_row (move.Unlk a) = bare (op 4 7 0 1 3 a)

abbrev pub arith_row : Arith → Row
-- 1100 xxx1 0000 kyyy
arith_row (arith.Abcd x m y) = bare (op 12 x 1 0 (flag m) y)
-- 1101 dddk ssmm mrrr
arith_row (arith.Add d k s ea) = sized (side All k) 13 d (flag k) s ea
-- 1101 aaas 11mm mrrr
arith_row (arith.Adda a s ea) = when (not_byte s) (at_ea All s 13 a (long_bit s) 3 ea)
-- 0000 0110 ssmm mrrr
arith_row (arith.Addi s ea v) = immediate_ea DataAlterable 0 3 0 s v ea
-- 0101 qqq0 ssmm mrrr
arith_row (arith.Addq q s ea) = when (is_quick q) (sized Alterable 5 (q % 8) 0 s ea)
-- 1101 xxx1 ss00 kyyy
arith_row (arith.Addx x s m y) = bare (op 13 x 1 (size_bits s) (flag m) y)
-- 1100 dddk ssmm mrrr
arith_row (arith.And d k s ea) = sized (side Data k) 12 d (flag k) s ea
-- 0000 0010 ssmm mrrr
arith_row (arith.Andi s ea v) = immediate_ea DataAlterable 0 1 0 s v ea
-- 0000 0010 0011 1100
arith_row (arith.AndiCcr w) = with_word (op 0 1 0 0 7 4) w
-- 0000 1000 kkmm mrrr
arith_row (arith.BitImm k ea w) = word_ea rule.Any (bit_class_immediate k) size.Byte 0 4 0 (bit_bits k) w ea
-- 0000 ddd1 kkmm mrrr
arith_row (arith.BitReg d k ea) = at_ea (bit_class k) size.Byte 0 d 1 (bit_bits k) ea
-- 0000 1ss0 11mm mrrr; 0000 000u uu00 0ccc
arith_row (arith.Cas s ea w) = word_ea rule.Swap MemoryAlterable s 0 (5 + size_bits s) 0 3 w ea
-- 0000 1ss0 1111 1100; nnnn 000u uu00 0ccc, twice
arith_row (arith.Cas2 s w v) = record {
  legal = not_byte s && holds rule.SwapPair w && holds rule.SwapPair v;
  opcode = op 0 (5 + size_bits s) 0 3 7 4;
  before = [];
  operands = w ∷ v ∷ [];
}
-- 0100 0010 ssmm mrrr
arith_row (arith.Clr s ea) = sized DataAlterable 4 1 0 s ea
-- 1011 ddd0 ssmm mrrr
arith_row (arith.Cmp d s ea) = sized All 11 d 0 s ea
-- 0000 0ss0 11mm mrrr; nnnn 0000 0000 0000
arith_row (arith.Cmp2 s ea w) = word_ea rule.Compare Control s 0 (size_bits s) 0 3 w ea
-- 1011 aaas 11mm mrrr
arith_row (arith.Cmpa a s ea) = when (not_byte s) (at_ea All s 11 a (long_bit s) 3 ea)
-- 0000 1100 ssmm mrrr
arith_row (arith.Cmpi s ea v) = immediate_ea DataAlterableOrPc 0 6 0 s v ea
-- 1011 xxx1 ss00 1yyy
arith_row (arith.Cmpm x s y) = bare (op 11 x 1 (size_bits s) 1 y)
-- 0100 1100 01mm mrrr; 0lll gw00 0000 0hhh
arith_row (arith.DivL ea w) = word_ea rule.LongPair Data size.Long 4 6 0 1 w ea
-- 1000 dddg 11mm mrrr
arith_row (arith.DivW d g ea) = at_ea Data size.Word 8 d (flag g) 3 ea
-- 1011 ddd1 ssmm mrrr
arith_row (arith.Eor d s ea) = sized DataAlterable 11 d 1 s ea
-- 0000 1010 ssmm mrrr
arith_row (arith.Eori s ea v) = immediate_ea DataAlterable 0 5 0 s v ea
-- 0000 1010 0011 1100
arith_row (arith.EoriCcr w) = with_word (op 0 5 0 0 7 4) w
-- 0100 1000 1100 0ddd
arith_row (arith.ExtL d) = bare (op 4 4 0 3 0 d)
-- 0100 1000 1000 0ddd
arith_row (arith.ExtW d) = bare (op 4 4 0 2 0 d)
-- 0100 1001 1100 0ddd
arith_row (arith.ExtbL d) = bare (op 4 4 1 3 0 d)
-- 1110 1kkk 11mm mrrr; 0nnn iooo oojw wwww
arith_row (arith.Field k ea w) =
    word_ea (field_rule k) (field_class k) size.Long 14 (4 + field_bits k / 2) (field_bits k % 2) 3 w ea
-- 0100 1100 00mm mrrr; 0lll gw00 0000 0hhh
arith_row (arith.MulL ea w) = word_ea rule.LongPair Data size.Long 4 6 0 0 w ea
-- 1100 dddg 11mm mrrr
arith_row (arith.MulW d g ea) = at_ea Data size.Word 12 d (flag g) 3 ea
-- 0100 1000 00mm mrrr
arith_row (arith.Nbcd ea) = at_ea DataAlterable size.Byte 4 4 0 0 ea
-- 0100 0100 ssmm mrrr
arith_row (arith.Neg s ea) = sized DataAlterable 4 2 0 s ea
-- 0100 0000 ssmm mrrr
arith_row (arith.Negx s ea) = sized DataAlterable 4 0 0 s ea
-- 0100 0110 ssmm mrrr
arith_row (arith.Not s ea) = sized DataAlterable 4 3 0 s ea
-- 1000 dddk ssmm mrrr
arith_row (arith.Or d k s ea) = sized (side Data k) 8 d (flag k) s ea
-- 0000 0000 ssmm mrrr
arith_row (arith.Ori s ea v) = immediate_ea DataAlterable 0 0 0 s v ea
-- 0000 0000 0011 1100
arith_row (arith.OriCcr w) = with_word (op 0 0 0 0 7 4) w
-- 1000 xxx1 0100 kyyy
arith_row (arith.Pack x m y w) = with_word (op 8 x 1 1 (flag m) y) w
-- 1000 xxx1 0000 kyyy
arith_row (arith.Sbcd x m y) = bare (op 8 x 1 0 (flag m) y)
-- 1110 0kkl 11mm mrrr
arith_row (arith.ShiftMem k l ea) = at_ea MemoryAlterable size.Word 14 (shift_bits k) (flag l) 3 ea
-- 1110 nnnl ssik kddd
arith_row (arith.ShiftReg n l s i k r) =
    when (i || is_quick n) (bare (op 14 (count_field i n) (flag l) (size_bits s) (flag i * 4 + shift_bits k) r))
-- 1001 dddk ssmm mrrr
arith_row (arith.Sub d k s ea) = sized (side All k) 9 d (flag k) s ea
-- 1001 aaas 11mm mrrr
arith_row (arith.Suba a s ea) = when (not_byte s) (at_ea All s 9 a (long_bit s) 3 ea)
-- 0000 0100 ssmm mrrr
arith_row (arith.Subi s ea v) = immediate_ea DataAlterable 0 2 0 s v ea
-- 0101 qqq1 ssmm mrrr
arith_row (arith.Subq q s ea) = when (is_quick q) (sized Alterable 5 (q % 8) 1 s ea)
-- 1001 xxx1 ss00 kyyy
arith_row (arith.Subx x s m y) = bare (op 9 x 1 (size_bits s) (flag m) y)
-- 0100 1010 11mm mrrr
arith_row (arith.Tas ea) = at_ea DataAlterable size.Byte 4 5 0 3 ea
-- 0100 1010 ssmm mrrr
arith_row (arith.Tst s ea) = sized All 4 5 0 s ea
-- 1000 xxx1 1000 kyyy
arith_row (arith.Unpk x m y w) = with_word (op 8 x 1 2 (flag m) y) w

abbrev pub flow_row : Flow → Row
-- 0110 cccc bbbb bbbb
flow_row (flow.Bcc c d) = record {
  legal = is_branch d;
  opcode = on_condition 6 c (branch_byte d / 64) (branch_byte d / 8 % 8) (branch_byte d % 8);
  before = [];
  operands = branch_words d;
}
-- 0100 ddd1 s0mm mrrr
flow_row (flow.Chk d s ea) = when (not_byte s) (at_ea Data s 4 d 1 (chk_bits s) ea)
-- 0000 0ss0 11mm mrrr; nnnn 1000 0000 0000
flow_row (flow.Chk2 s ea w) = word_ea rule.Check Control s 0 (size_bits s) 0 3 w ea
-- 0101 cccc 1100 1ddd
flow_row (flow.Dbcc c d w) = with_word (on_condition 5 c 3 1 d) w
-- 0100 1110 11mm mrrr
flow_row (flow.Jmp ea) = at_ea Control size.Long 4 7 0 3 ea
-- 0100 1110 10mm mrrr
flow_row (flow.Jsr ea) = at_ea Control size.Long 4 7 0 2 ea
-- 0100 1110 0111 0001
flow_row flow.Nop = bare (op 4 7 0 1 6 1)
-- 0100 1110 0111 0100
flow_row (flow.Rtd d) = with_word (op 4 7 0 1 6 4) d
-- 0100 1110 0111 0111
flow_row flow.Rtr = bare (op 4 7 0 1 6 7)
-- 0100 1110 0111 0101
flow_row flow.Rts = bare (op 4 7 0 1 6 5)
-- 0100 1110 0100 nnnn
flow_row (flow.Trap n) = when (nat_lt n 16) (bare (op 4 7 0 1 (n / 8) (n % 8)))
-- 0101 cccc 1111 1ooo
flow_row (flow.Trapcc c o) = record {
  legal = true;
  opcode = on_condition 5 c 3 7 (trap_lower o);
  before = [];
  operands = trap_words o;
}
-- 0100 1110 0111 0110
flow_row flow.Trapv = bare (op 4 7 0 1 6 6)

abbrev pub system_row : System → Row
-- 0000 0010 0111 1100
system_row (system.AndiSr w) = with_word (op 0 1 0 1 7 4) w
-- 1111 0100 kk0p paaa
system_row (system.Cinv c s a) = bare (op 15 2 0 (caches_bits c) (scope_bits s) a)
-- 1111 0100 kk1p paaa
system_row (system.Cpush c s a) = bare (op 15 2 0 (caches_bits c) (4 + scope_bits s) a)
-- 0000 1010 0111 1100
system_row (system.EoriSr w) = with_word (op 0 5 0 1 7 4) w
-- 0100 0000 11mm mrrr
system_row (system.FromSr ea) = at_ea DataAlterable size.Word 4 0 0 3 ea
-- 0100 1110 0110 kaaa
system_row (system.MoveUsp k a) = bare (op 4 7 0 1 (4 + flag k) a)
-- 0100 1110 0111 101k; nnnn cccc cccc cccc
system_row (system.Movec k w) = with_ruled rule.Control (op 4 7 0 1 7 (2 + flag k)) w
-- 0000 1110 ssmm mrrr; nnnn k000 0000 0000
system_row (system.Moves s ea w) = word_ea rule.RegisterAndBit MemoryAlterable s 0 7 0 (size_bits s) w ea
-- 0000 0000 0111 1100
system_row (system.OriSr w) = with_word (op 0 0 0 1 7 4) w
-- 1111 0101 000k kaaa
system_row (system.Pflush k a) = bare (op 15 2 1 0 (flush_bits k) a)
-- 1111 0101 01k0 1aaa
system_row (system.Ptest k a) = bare (op 15 2 1 1 (flag k * 4 + 1) a)
-- 0100 1110 0111 0000
system_row system.Reset = bare (op 4 7 0 1 6 0)
-- 0100 1110 0111 0011
system_row system.Rte = bare (op 4 7 0 1 6 3)
-- 0100 1110 0111 0010
system_row (system.Stop w) = with_word (op 4 7 0 1 6 2) w
-- 0100 0110 11mm mrrr
system_row (system.ToSr ea) = at_ea Data size.Word 4 3 0 3 ea

abbrev pub row : Instr → Row
row (instr.Move i) = move_row i
row (instr.Arith i) = arith_row i
row (instr.Flow i) = flow_row i
row (instr.System i) = system_row i
