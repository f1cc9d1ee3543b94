-- Reading each row of the table. Above a reader stands the first word in bits: mmmrrr is an operand's mode and
-- register, s its size, and k says which of the rows or forms it is.
use Rattle.std.specs.Prelude.{ℕ, ◌+◌, ◌*◌, ◌/◌, ◌%◌, ◌^◌, Bool, true, false, ◌&&◌, ◌||◌, ◌==◌, nat_lt}
use Rattle.std.specs.Prelude.{Some, None, if◌then◌else◌}
use Rattle.mb_instr.specs.declared.size.Size.{Size}
use Rattle.mb_instr.specs.declared.size.Size.TheVariants as size
use Rattle.mb_instr.specs.declared.operand.Ea.{Ea}
use Rattle.mb_instr.specs.declared.operand.OperandClass.{OperandClass}
use Rattle.mb_instr.specs.declared.operand.OperandClass.TheVariants.{All, Data, Alterable, DataAlterable}
use Rattle.mb_instr.specs.declared.operand.OperandClass.TheVariants.{DataAlterableOrPc, MemoryAlterable, Control}
use Rattle.mb_instr.specs.declared.operand.OperandClass.TheVariants.{StoreList, LoadList}
use Rattle.mb_instr.specs.declared.rule.WordRule.TheVariants as rule
use Rattle.mb_instr.specs.declared.kinds.Condition.{Condition}
use Rattle.mb_instr.specs.declared.kinds.FieldKind.{FieldKind}
use Rattle.mb_instr.specs.declared.kinds.Caches.{Caches}
use Rattle.mb_instr.specs.declared.kinds.CacheScope.{CacheScope}
use Rattle.mb_instr.specs.declared.kinds.Exchange.TheVariants as exchange
use Rattle.mb_instr.specs.declared.instruction.Move.TheVariants as move
use Rattle.mb_instr.specs.declared.instruction.Arith.TheVariants as arith
use Rattle.mb_instr.specs.declared.instruction.Flow.TheVariants as flow
use Rattle.mb_instr.specs.declared.instruction.System.TheVariants as system
use Rattle.mb_instr.specs.declared.instruction.Instr.{Instr}
use Rattle.mb_instr.specs.declared.instruction.Instr.TheVariants.{Move, Arith, Flow, System}
use Rattle.mb_instr.specs.declared.opcode.Opcode.{Opcode}
use Rattle.mb_instr.specs.Sizes.{move_size, size_of_bit, not_byte}
use Rattle.mb_instr.specs.Kinds.{bit_kind, shift_kind, field_kind, line_kind, caches_kind, scope_kind, flush_kind}
use Rattle.mb_instr.specs.Kinds.{condition_of, bit_class, bit_class_immediate, field_class, field_rule, side}
use Rattle.mb_instr.specs.Operands.{allows}
use Rattle.mb_decode.specs.Reading.{Reader, ◌>>=◌, give, illegal, when_legal, made, by_size, word_at, long_at}
use Rattle.mb_decode.specs.Reading.{operand_at, ruled_at, ea_at, sized_at, word_ea_at, immediate_ea_at}
use Rattle.mb_decode.specs.Reading.{branch_at, trap_operand_at}

-- bits 7 to 0 of the first word
abbrev pub low_byte : Opcode → ℕ
low_byte p = p.size * 64 + p.mode * 8 + p.lower

-- a quick value or a count of 8 is spelled 0
abbrev pub quick_value : ℕ → ℕ
quick_value field = if field == 0 then 8 else field

-- an immediate in place of an operand
abbrev pub is_immediate_field : Opcode → Bool
is_immediate_field p = (p.mode == 7) && (p.lower == 4)

-- ---- line 0: immediates, bits, CAS and CMP2

-- 0000 ddd1 ks00 1aaa
abbrev pub movep_0 : Opcode → Reader Instr
movep_0 p = made word_at (λ w. Move (move.Movep p.upper (nat_lt 1 p.size) (size_of_bit (p.size % 2)) p.lower w))

-- 0000 ddd1 kkmm mrrr
abbrev pub bit_register_0 : Opcode → Reader Instr
bit_register_0 p =
    made (ea_at (bit_class (bit_kind p.size)) size.Byte p) (λ ea. Arith (arith.BitReg p.upper (bit_kind p.size) ea))

abbrev pub odd_0 : Opcode → Reader Instr
odd_0 p = if p.mode == 1 then movep_0 p else bit_register_0 p

-- bit 11 of the word tells CMP2 from CHK2
abbrev pub bounds_instr : Size → ℕ → Ea → Instr
bounds_instr s w ea = if w / 2 ^ 11 % 2 == 0 then Arith (arith.Cmp2 s ea w) else Flow (flow.Chk2 s ea w)

-- size 3: CMP2 and CHK2 have their size in bits 10 and 9, CAS and CAS2 too
-- 0000 0ss0 11mm mrrr
abbrev pub bounds_0 : Opcode → Reader Instr
bounds_0 p = by_size p.upper (λ s. made (word_ea_at rule.RegisterAndBit Control s p) (λ (w, ea). bounds_instr s w ea))

-- the size that CAS has in bits 10 and 9
abbrev pub cas_size : ℕ → Size
cas_size upper = if upper == 5 then size.Byte else if upper == 6 then size.Word else size.Long

-- 0000 1ss0 1111 1100
unfoldable pub cas2_0 : Size → Reader Instr
cas2_0 s = when_legal (not_byte s) (do
  w ← ruled_at rule.SwapPair
  v ← ruled_at rule.SwapPair
  give (Arith (arith.Cas2 s w v)))

-- 0000 1ss0 11mm mrrr
abbrev pub cas_0 : Opcode → Reader Instr
cas_0 p =
    if is_immediate_field p then cas2_0 (cas_size p.upper) else
    made (word_ea_at rule.Swap MemoryAlterable (cas_size p.upper) p)
    (λ (w, ea). Arith (arith.Cas (cas_size p.upper) ea w))

-- the rows that bits 11 to 9 tell apart
abbrev pub immediate_instr : ℕ → Size → ℕ → Ea → Instr
immediate_instr n s v ea =
    if n == 0 then Arith (arith.Ori s ea v) else
    if n == 1 then Arith (arith.Andi s ea v) else
    if n == 2 then Arith (arith.Subi s ea v) else
    if n == 3 then Arith (arith.Addi s ea v) else Arith (arith.Eori s ea v)

abbrev pub to_ccr_instr : ℕ → ℕ → Instr
to_ccr_instr n w =
    if n == 0 then Arith (arith.OriCcr w) else
    if n == 1 then Arith (arith.AndiCcr w) else Arith (arith.EoriCcr w)

abbrev pub to_sr_instr : ℕ → ℕ → Instr
to_sr_instr n w =
    if n == 0 then System (system.OriSr w) else
    if n == 1 then System (system.AndiSr w) else System (system.EoriSr w)

-- ORI, ANDI and EORI to CCR and to SR stand where the others would have an immediate operand
-- 0000 kkk0 0s11 1100
abbrev pub status_0 : Opcode → Reader Instr
status_0 p =
    if (p.upper == 2) || (p.upper == 3) then illegal else
    if p.size == 0 then made word_at (λ w. to_ccr_instr p.upper w) else
    if p.size == 1 then made word_at (λ w. to_sr_instr p.upper w) else illegal

-- 0000 kkk0 ssmm mrrr
abbrev pub immediate_0 : Opcode → Reader Instr
immediate_0 p =
    if is_immediate_field p then status_0 p else
    made (immediate_ea_at DataAlterable p) (λ (s, v, ea). immediate_instr p.upper s v ea)

-- 0000 1100 ssmm mrrr
abbrev pub cmpi_0 : Opcode → Reader Instr
cmpi_0 p = made (immediate_ea_at DataAlterableOrPc p) (λ (s, v, ea). Arith (arith.Cmpi s ea v))

-- 0000 1110 ssmm mrrr
abbrev pub moves_0 : Opcode → Reader Instr
moves_0 p =
    by_size p.size
    (λ s. made (word_ea_at rule.RegisterAndBit MemoryAlterable s p) (λ (w, ea). System (system.Moves s ea w)))

-- 0000 1000 kkmm mrrr
abbrev pub bit_0 : Opcode → Reader Instr
bit_0 p =
    made (word_ea_at rule.Any (bit_class_immediate (bit_kind p.size)) size.Byte p)
    (λ (w, ea). Arith (arith.BitImm (bit_kind p.size) ea w))

abbrev pub even_0 : Opcode → Reader Instr
even_0 p =
    if p.upper == 4 then bit_0 p else
    if p.size == 3 then (if nat_lt p.upper 4 then bounds_0 p else cas_0 p) else
    if p.upper == 6 then cmpi_0 p else
    if p.upper == 7 then moves_0 p else immediate_0 p

abbrev pub line_0 : Opcode → Reader Instr
line_0 p = if p.bit == 1 then odd_0 p else even_0 p

-- ---- lines 1 to 3: MOVE and MOVEA

-- MOVE's destination has its mode in bits 8 to 6 and its register in bits 11 to 9
abbrev pub move_mode : Opcode → ℕ
move_mode p = p.bit * 4 + p.size

abbrev pub allows_move : Size → Opcode → Bool
allows_move s p = allows All s p.mode p.lower && allows DataAlterable s (move_mode p) p.upper

-- the source's words stand before the destination's
-- 00ss RRRM MMmm mrrr
abbrev pub move_at : Size → Opcode → Reader Instr
move_at s p = when_legal (allows_move s p) (do
  source ← operand_at s p.mode p.lower
  destination ← operand_at s (move_mode p) p.upper
  give (Move (move.Move s destination source)))

-- 00ss aaa0 01mm mrrr
abbrev pub movea_at : Size → Opcode → Reader Instr
movea_at s p = when_legal (not_byte s) (made (ea_at All s p) (λ ea. Move (move.Movea s p.upper ea)))

abbrev pub line_move : Opcode → Reader Instr
line_move p = if move_mode p == 1 then movea_at (move_size p.line) p else move_at (move_size p.line) p

-- ---- line 4: one operand, and what has none

-- NEGX, CLR, NEG, NOT
abbrev pub unary_instr : ℕ → Size → Ea → Instr
unary_instr n s ea =
    if n == 0 then Arith (arith.Negx s ea) else
    if n == 1 then Arith (arith.Clr s ea) else
    if n == 2 then Arith (arith.Neg s ea) else Arith (arith.Not s ea)

-- 0100 0kk0 ssmm mrrr
abbrev pub unary_4 : Opcode → Reader Instr
unary_4 p = made (sized_at DataAlterable p) (λ (s, ea). unary_instr p.upper s ea)

-- MOVE from SR, from CCR, to CCR, to SR
abbrev pub status_class : ℕ → OperandClass
status_class n = if nat_lt n 2 then DataAlterable else Data

abbrev pub status_instr : ℕ → Ea → Instr
status_instr n ea =
    if n == 0 then System (system.FromSr ea) else
    if n == 1 then Move (move.FromCcr ea) else
    if n == 2 then Move (move.ToCcr ea) else System (system.ToSr ea)

-- 0100 0kk0 11mm mrrr
abbrev pub status_4 : Opcode → Reader Instr
status_4 p = made (ea_at (status_class p.upper) size.Word p) (λ ea. status_instr p.upper ea)

-- 0100 1000 00mm mrrr; LINK.L is 0100 1000 0000 1aaa
abbrev pub nbcd_4 : Opcode → Reader Instr
nbcd_4 p =
    if p.mode == 1 then made long_at (λ d. Move (move.LinkL p.lower d)) else
    made (ea_at DataAlterable size.Byte p) (λ ea. Arith (arith.Nbcd ea))

-- 0100 1000 01mm mrrr; SWAP is 0100 1000 0100 0ddd
abbrev pub pea_4 : Opcode → Reader Instr
pea_4 p =
    if p.mode == 0 then give (Move (move.Swap p.lower)) else
    made (ea_at Control size.Long p) (λ ea. Move (move.Pea ea))

-- EXT to a word and to a long
abbrev pub extend_instr : ℕ → ℕ → Instr
extend_instr n d = if n == 2 then Arith (arith.ExtW d) else Arith (arith.ExtL d)

-- 0100 1000 1smm mrrr; EXT is 0100 1000 1s00 0ddd
abbrev pub movem_store_4 : Opcode → Reader Instr
movem_store_4 p =
    if p.mode == 0 then give (extend_instr p.size p.lower) else
    made (word_ea_at rule.Any StoreList (size_of_bit (p.size % 2)) p)
    (λ (w, ea). Move (move.MovemStore (size_of_bit (p.size % 2)) ea w))

-- TST of the fourth size is TAS
-- 0100 1010 ssmm mrrr
abbrev pub tst_4 : Opcode → Reader Instr
tst_4 p =
    if p.size == 3 then made (ea_at DataAlterable size.Byte p) (λ ea. Arith (arith.Tas ea)) else
    made (sized_at All p) (λ (s, ea). Arith (arith.Tst s ea))

abbrev pub long_pair_instr : ℕ → ℕ → Ea → Instr
long_pair_instr n w ea = if n == 0 then Arith (arith.MulL ea w) else Arith (arith.DivL ea w)

-- 0100 1100 0kmm mrrr
abbrev pub long_pair_4 : Opcode → Reader Instr
long_pair_4 p = made (word_ea_at rule.LongPair Data size.Long p) (λ (w, ea). long_pair_instr p.size w ea)

-- 0100 1100 1smm mrrr
abbrev pub movem_load_4 : Opcode → Reader Instr
movem_load_4 p =
    made (word_ea_at rule.Any LoadList (size_of_bit (p.size % 2)) p)
    (λ (w, ea). Move (move.MovemLoad (size_of_bit (p.size % 2)) ea w))

abbrev pub jump_instr : ℕ → Ea → Instr
jump_instr n ea = if n == 2 then Flow (flow.Jsr ea) else Flow (flow.Jmp ea)

-- 0100 1110 1kmm mrrr
abbrev pub jump_4 : Opcode → Reader Instr
jump_4 p = made (ea_at Control size.Long p) (λ ea. jump_instr p.size ea)

-- $4E70 to $4E77
-- 0100 1110 0111 0kkk
abbrev pub single_4 : Opcode → Reader Instr
single_4 p =
    if p.lower == 0 then give (System system.Reset) else
    if p.lower == 1 then give (Flow flow.Nop) else
    if p.lower == 2 then made word_at (λ w. System (system.Stop w)) else
    if p.lower == 3 then give (System system.Rte) else
    if p.lower == 4 then made word_at (λ d. Flow (flow.Rtd d)) else
    if p.lower == 5 then give (Flow flow.Rts) else
    if p.lower == 6 then give (Flow flow.Trapv) else give (Flow flow.Rtr)

-- $4E78 to $4E7F
-- 0100 1110 0111 101k
abbrev pub movec_4 : Opcode → Reader Instr
movec_4 p =
    when_legal ((p.lower == 2) || (p.lower == 3))
    (made (ruled_at rule.Control) (λ w. System (system.Movec (p.lower == 3) w)))

-- $4E40 to $4E7F
-- 0100 1110 01kk krrr
abbrev pub system_4 : Opcode → Reader Instr
system_4 p =
    if nat_lt p.mode 2 then give (Flow (flow.Trap (p.mode * 8 + p.lower))) else
    if p.mode == 2 then made word_at (λ d. Move (move.LinkW p.lower d)) else
    if p.mode == 3 then give (Move (move.Unlk p.lower)) else
    if p.mode == 6 then single_4 p else
    if p.mode == 7 then movec_4 p else give (System (system.MoveUsp (p.mode == 5) p.lower))

abbrev pub even_4 : Opcode → Reader Instr
even_4 p =
    if nat_lt p.upper 4 then (if p.size == 3 then status_4 p else unary_4 p) else
    if p.upper == 4 then (if p.size == 0 then nbcd_4 p else if p.size == 1 then pea_4 p else movem_store_4 p) else
    if p.upper == 5 then tst_4 p else
    if p.upper == 6 then (if nat_lt 1 p.size then movem_load_4 p else long_pair_4 p) else
    if nat_lt 1 p.size then jump_4 p else if p.size == 1 then system_4 p else illegal

-- EXTB stands where LEA has no operand
-- 0100 aaa1 11mm mrrr; EXTB is 0100 1001 1100 0ddd
abbrev pub lea_4 : Opcode → Reader Instr
lea_4 p =
    if (p.upper == 4) && (p.mode == 0) then give (Arith (arith.ExtbL p.lower)) else
    made (ea_at Control size.Long p) (λ ea. Move (move.Lea p.upper ea))

-- CHK of words and of longs
abbrev pub chk_size : ℕ → Size
chk_size n = if n == 0 then size.Long else size.Word

-- 0100 ddd1 s0mm mrrr
abbrev pub chk_4 : Opcode → Reader Instr
chk_4 p = made (ea_at Data (chk_size p.size) p) (λ ea. Flow (flow.Chk p.upper (chk_size p.size) ea))

abbrev pub odd_4 : Opcode → Reader Instr
odd_4 p = if p.size == 3 then lea_4 p else if p.size == 1 then illegal else chk_4 p

abbrev pub line_4 : Opcode → Reader Instr
line_4 p = if p.bit == 1 then odd_4 p else even_4 p

-- ---- lines 5 to 7: quick values, conditions and branches

-- size 3: DBcc and TRAPcc stand where Scc has no operand
-- 0101 cccc 11mm mrrr; DBcc is 0101 cccc 1100 1ddd, TRAPcc is 0101 cccc 1111 1ooo
unfoldable pub conditional_5 : Condition → Opcode → Reader Instr
conditional_5 c p =
    if p.mode == 1 then made word_at (λ d. Flow (flow.Dbcc c p.lower d)) else
    if (p.mode == 7) && nat_lt 1 p.lower then made (trap_operand_at p.lower) (λ o. Flow (flow.Trapcc c o)) else
    made (ea_at DataAlterable size.Byte p) (λ ea. Move (move.Scc c ea))

-- ADDQ and SUBQ
abbrev pub quick_instr : ℕ → ℕ → Size → Ea → Instr
quick_instr n q s ea = if n == 0 then Arith (arith.Addq q s ea) else Arith (arith.Subq q s ea)

-- 0101 qqqk ssmm mrrr
abbrev pub quick_5 : Opcode → Reader Instr
quick_5 p = made (sized_at Alterable p) (λ (s, ea). quick_instr p.bit (quick_value p.upper) s ea)

abbrev pub line_5 : Opcode → Reader Instr
line_5 p = if p.size == 3 then conditional_5 (condition_of p.upper p.bit) p else quick_5 p

-- 0110 cccc bbbb bbbb
abbrev pub line_6 : Opcode → Reader Instr
line_6 p = made (branch_at (low_byte p)) (λ d. Flow (flow.Bcc (condition_of p.upper p.bit) d))

-- 0111 ddd0 nnnn nnnn
abbrev pub line_7 : Opcode → Reader Instr
line_7 p = when_legal (p.bit == 0) (give (Move (move.Moveq p.upper (low_byte p))))

-- ---- lines 8, 9, 11, 12 and 13: a register and an operand

-- OR and AND, SUB and ADD: the rows that the line tells apart
abbrev pub source_class : ℕ → OperandClass
source_class line = if (line == 8) || (line == 12) then Data else All

abbrev pub binary_instr : ℕ → ℕ → Bool → Size → Ea → Instr
binary_instr line d k s ea =
    if line == 8 then Arith (arith.Or d k s ea) else
    if line == 9 then Arith (arith.Sub d k s ea) else
    if line == 12 then Arith (arith.And d k s ea) else Arith (arith.Add d k s ea)

-- llll dddk ssmm mrrr
abbrev pub binary_at : Opcode → Reader Instr
binary_at p =
    made (sized_at (side (source_class p.line) (p.bit == 1)) p)
    (λ (s, ea). binary_instr p.line p.upper (p.bit == 1) s ea)

-- SUBA, CMPA, ADDA
abbrev pub address_instr : ℕ → ℕ → Size → Ea → Instr
address_instr line a s ea =
    if line == 9 then Arith (arith.Suba a s ea) else
    if line == 11 then Arith (arith.Cmpa a s ea) else Arith (arith.Adda a s ea)

-- llll aaas 11mm mrrr
abbrev pub address_at : Opcode → Reader Instr
address_at p = made (ea_at All (size_of_bit p.bit) p) (λ ea. address_instr p.line p.upper (size_of_bit p.bit) ea)

-- SUBX, ADDX
abbrev pub extended_instr : ℕ → ℕ → Size → Bool → ℕ → Instr
extended_instr line x s m y = if line == 9 then Arith (arith.Subx x s m y) else Arith (arith.Addx x s m y)

-- llll xxx1 ss00 kyyy
abbrev pub extended_at : Opcode → Reader Instr
extended_at p = by_size p.size (λ s. give (extended_instr p.line p.upper s (p.mode == 1) p.lower))

-- DIVU and DIVS, MULU and MULS
abbrev pub product_instr : ℕ → ℕ → Bool → Ea → Instr
product_instr line d g ea = if line == 8 then Arith (arith.DivW d g ea) else Arith (arith.MulW d g ea)

-- llll dddg 11mm mrrr
abbrev pub product_at : Opcode → Reader Instr
product_at p = made (ea_at Data size.Word p) (λ ea. product_instr p.line p.upper (p.bit == 1) ea)

-- SBCD, ABCD
abbrev pub decimal_instr : ℕ → ℕ → Bool → ℕ → Instr
decimal_instr line x m y = if line == 8 then Arith (arith.Sbcd x m y) else Arith (arith.Abcd x m y)

-- PACK, UNPK
abbrev pub packed_instr : ℕ → ℕ → Bool → ℕ → ℕ → Instr
packed_instr n x m y w = if n == 1 then Arith (arith.Pack x m y w) else Arith (arith.Unpk x m y w)

-- 1000 xxx1 kk00 kyyy
abbrev pub packed_8 : Opcode → Reader Instr
packed_8 p = made word_at (λ w. packed_instr p.size p.upper (p.mode == 1) p.lower w)

-- 1100 xxx1 kkkk kyyy
abbrev pub exchange_12 : Opcode → Reader Instr
exchange_12 p =
    if (p.size == 1) && (p.mode == 0) then give (Move (move.Exg p.upper exchange.Data p.lower)) else
    if (p.size == 1) && (p.mode == 1) then give (Move (move.Exg p.upper exchange.Address p.lower)) else
    if (p.size == 2) && (p.mode == 1) then give (Move (move.Exg p.upper exchange.DataAddress p.lower)) else illegal

-- two registers stand where the operand in memory would have one
abbrev pub has_registers : Opcode → Bool
has_registers p = (p.bit == 1) && nat_lt p.mode 2

abbrev pub pair_8 : Opcode → Reader Instr
pair_8 p =
    if p.size == 0 then give (decimal_instr p.line p.upper (p.mode == 1) p.lower) else
    if p.line == 8 then packed_8 p else exchange_12 p

abbrev pub line_8 : Opcode → Reader Instr
line_8 p =
    if p.size == 3 then product_at p else
    if has_registers p then pair_8 p else binary_at p

abbrev pub line_9 : Opcode → Reader Instr
line_9 p =
    if p.size == 3 then address_at p else
    if has_registers p then extended_at p else binary_at p

-- 1011 ddd0 ssmm mrrr
abbrev pub cmp_11 : Opcode → Reader Instr
cmp_11 p = made (sized_at All p) (λ (s, ea). Arith (arith.Cmp p.upper s ea))

-- CMPM stands where EOR has no operand
-- 1011 ddd1 ssmm mrrr; CMPM is 1011 xxx1 ss00 1yyy
abbrev pub eor_11 : Opcode → Reader Instr
eor_11 p =
    if p.mode == 1 then by_size p.size (λ s. give (Arith (arith.Cmpm p.upper s p.lower))) else
    made (sized_at DataAlterable p) (λ (s, ea). Arith (arith.Eor p.upper s ea))

abbrev pub line_11 : Opcode → Reader Instr
line_11 p =
    if p.size == 3 then address_at p else
    if p.bit == 0 then cmp_11 p else eor_11 p

-- ---- line 14: shifts and bit fields

-- the count of a shift: a register, or 1 to 8
abbrev pub shift_count : Bool → ℕ → ℕ
shift_count by_register field = if by_register then field else quick_value field

-- mode 4 and above: the count is in a register
-- 1110 nnnl ssik kddd
abbrev pub shift_14 : Opcode → Reader Instr
shift_14 p = by_size p.size (λ s. give (Arith (arith.ShiftReg
    (shift_count (nat_lt 3 p.mode) p.upper) (p.bit == 1) s (nat_lt 3 p.mode) (shift_kind (p.mode % 4)) p.lower)))

-- 1110 0kkl 11mm mrrr
abbrev pub shift_mem_14 : Opcode → Reader Instr
shift_mem_14 p =
    made (ea_at MemoryAlterable size.Word p) (λ ea. Arith (arith.ShiftMem (shift_kind p.upper) (p.bit == 1) ea))

-- what a bit field instruction does stands in bits 10 to 8
abbrev pub field_kind_in : Opcode → FieldKind
field_kind_in p = field_kind (p.upper % 4 * 2 + p.bit)

-- 1110 1kkk 11mm mrrr
abbrev pub field_14 : Opcode → Reader Instr
field_14 p =
    made (word_ea_at (field_rule (field_kind_in p)) (field_class (field_kind_in p)) size.Long p)
    (λ (w, ea). Arith (arith.Field (field_kind_in p) ea w))

abbrev pub line_14 : Opcode → Reader Instr
line_14 p = if p.size == 3 then (if nat_lt p.upper 4 then shift_mem_14 p else field_14 p) else shift_14 p

-- ---- line 15: caches, translation and MOVE16

-- CINV and CPUSH
abbrev pub cached_instr : Bool → Caches → CacheScope → ℕ → Instr
cached_instr push c s a = if push then System (system.Cpush c s a) else System (system.Cinv c s a)

-- 1111 0100 kkop paaa
abbrev pub caches_15 : Opcode → Reader Instr
caches_15 p = elim (scope_kind (p.mode % 4)) [
  | Some s ↦ give (cached_instr (nat_lt 3 p.mode) (caches_kind p.size) s p.lower)
  | None ↦ illegal
]

-- PFLUSH and PTEST
-- 1111 0101 0kkk kaaa
abbrev pub translation_15 : Opcode → Reader Instr
translation_15 p =
    if p.size == 0 then when_legal (nat_lt p.mode 4) (give (System (system.Pflush (flush_kind p.mode) p.lower))) else
    if (p.size == 1) && (p.mode == 1) then give (System (system.Ptest false p.lower)) else
    if (p.size == 1) && (p.mode == 5) then give (System (system.Ptest true p.lower)) else illegal

-- MOVE16
-- 1111 0110 00kk kaaa
abbrev pub lines_15 : Opcode → Reader Instr
lines_15 p =
    if nat_lt p.mode 4 then made long_at (λ l. Move (move.Move16Abs (line_kind p.mode) p.lower l)) else
    if p.mode == 4 then made (ruled_at rule.Line) (λ w. Move (move.Move16Post p.lower w)) else illegal

abbrev pub line_15 : Opcode → Reader Instr
line_15 p =
    if p.upper == 2 then (if p.bit == 0 then caches_15 p else translation_15 p) else
    if (p.upper == 3) && (p.bit == 0) && (p.size == 0) then lines_15 p else illegal

-- ---- the row of a first word

unfoldable pub low_line : Opcode → Reader Instr
low_line p =
    if p.line == 0 then line_0 p else
    if nat_lt p.line 4 then line_move p else
    if p.line == 4 then line_4 p else
    if p.line == 5 then line_5 p else
    if p.line == 6 then line_6 p else line_7 p

unfoldable pub high_line : Opcode → Reader Instr
high_line p =
    if (p.line == 8) || (p.line == 12) then line_8 p else
    if (p.line == 9) || (p.line == 13) then line_9 p else
    if p.line == 11 then line_11 p else
    if p.line == 14 then line_14 p else
    if p.line == 15 then line_15 p else illegal

unfoldable pub row_at : Opcode → Reader Instr
row_at p = if nat_lt p.line 8 then low_line p else high_line p
