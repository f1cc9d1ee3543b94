-- Lines 8, 9, 11, 12 and 13: each row is read from its spelling, and what is read is spelled so.
use Rattle.std.proofs.Common.{◌≡◌, ℕ, ◌≢◌, ◌<◌, Bool, true, false, List, ◌∷◌, ◌++◌, Ok, refl, sym, ◌∙◌, arith}
use Rattle.std.specs.Prelude.{◌&&◌, ◌==◌, nat_lt}
use Rattle.std.proofs.lemmas.Bool.Decides.{nat_tests}
use Rattle.mb_instr.specs.declared.size.Size.{Size}
use Rattle.mb_instr.specs.declared.size.Size.TheVariants as size
use Rattle.mb_instr.specs.declared.operand.Ea.{Ea}
use Rattle.mb_instr.specs.declared.operand.OperandClass.TheVariants.{All, Data, DataAlterable, MemoryAlterable}
use Rattle.mb_instr.specs.declared.kinds.Exchange.{Exchange}
use Rattle.mb_instr.specs.declared.kinds.Exchange.TheVariants as exchange
use Rattle.mb_instr.specs.declared.instruction.Move.TheVariants as move
use Rattle.mb_instr.specs.declared.instruction.Arith.TheVariants as arith_of
use Rattle.mb_instr.specs.declared.instruction.Instr.TheVariants.{Move, Arith}
use Rattle.mb_instr.specs.declared.opcode.Opcode.{Opcode}
use Rattle.mb_instr.specs.Sizes.{size_bits, long_bit, size_of_bit, not_byte}
use Rattle.mb_instr.specs.Kinds.{flag, side}
use Rattle.mb_instr.specs.Opcodes.{IsOpcode}
use Rattle.mb_instr.specs.Operands.{takes, mode, lower, more}
use Rattle.mb_instr.specs.Shapes.{op, bare, with_word, at_ea, sized, when}
use Rattle.mb_instr.specs.Rows.{row, exchange_bits, exchange_mode}
use Rattle.mb_decode.proofs.ReadBack.{next, unmet, by_size_read, word_read, taken, ea_read, sized_read}
use Rattle.mb_decode.proofs.Found.{eq_true}
use Rattle.mb_decode.proofs.Shapes.{Shape, none, either, equal, equals, by_size_shape, op_is, guarded, made_row, given, word_shape, ea_shape, sized_shape}
use Rattle.mb_decode.specs.RowReading.{source_class, binary_instr, binary_at, address_instr, address_at, extended_instr, extended_at, product_instr, product_at}
use Rattle.mb_decode.specs.RowReading.{decimal_instr, packed_instr, packed_8, exchange_12, has_registers, pair_8, line_8, line_9, cmp_11, eor_11, line_11}
use Rattle.mb_decode.proofs.Fields.{not_byte_of_bit, under_2, under_4, not_three, flag_is, flag_of, not_address, not_register}
use Rattle.mb_instr.proofs.Ranges.{and_is}

-- ---- from its spelling

-- OR and AND
pub logic_again : (n d : ℕ) (k : Bool) (s : Size) (ea : Ea) (rest : List ℕ) → takes (side (source_class n) k) s ea ≡ true →
    line_8 (op n d (flag k) (size_bits s) (mode ea) (lower ea)) (more s ea ++ rest) ≡ Ok (binary_instr n d k s ea, rest)
logic_again n d true s ea rest h =
    let size = not_three s in
    let memory = not_register s (mode ea) (lower ea) (taken MemoryAlterable s ea h).0 in
    rw (size, memory) (next _ _ _ _ _ (sized_read MemoryAlterable n d 1 s ea rest h))
logic_again n d false s ea rest h = let size = not_three s in rw size (next _ _ _ _ _ (sized_read (source_class n) n d 0 s ea rest h))

-- SUB and ADD
pub sum_again : (n d : ℕ) (k : Bool) (s : Size) (ea : Ea) (rest : List ℕ) → takes (side (source_class n) k) s ea ≡ true →
    line_9 (op n d (flag k) (size_bits s) (mode ea) (lower ea)) (more s ea ++ rest) ≡ Ok (binary_instr n d k s ea, rest)
sum_again n d true s ea rest h =
    let size = not_three s in
    let memory = not_register s (mode ea) (lower ea) (taken MemoryAlterable s ea h).0 in
    rw (size, memory) (next _ _ _ _ _ (sized_read MemoryAlterable n d 1 s ea rest h))
sum_again n d false s ea rest h = let size = not_three s in rw size (next _ _ _ _ _ (sized_read (source_class n) n d 0 s ea rest h))

pub address_again : (n a : ℕ) (s : Size) (ea : Ea) (rest : List ℕ) → (not_byte s && takes All s ea) ≡ true →
    line_9 (op n a (long_bit s) 3 (mode ea) (lower ea)) (more s ea ++ rest) ≡ Ok (address_instr n a s ea, rest)
address_again n a size.Byte ea rest h = absurd cc
address_again n a size.Word ea rest h = next _ _ _ _ _ (ea_read All size.Word n a 0 3 ea rest h)
address_again n a size.Long ea rest h = next _ _ _ _ _ (ea_read All size.Long n a 1 3 ea rest h)

pub extended_again : (n x : ℕ) (s : Size) (m : Bool) (y : ℕ) (rest : List ℕ) →
    line_9 (op n x 1 (size_bits s) (flag m) y) rest ≡ Ok (extended_instr n x s m y, rest)
extended_again n x s true y rest = let size = not_three s in rw size (by_size_read s _ _)
extended_again n x s false y rest = let size = not_three s in rw size (by_size_read s _ _)

-- DIVU and DIVS, MULU and MULS
pub product_again : (n d : ℕ) (g : Bool) (ea : Ea) (rest : List ℕ) → takes Data size.Word ea ≡ true →
    line_8 (op n d (flag g) 3 (mode ea) (lower ea)) (more size.Word ea ++ rest) ≡ Ok (product_instr n d g ea, rest)
product_again n d g ea rest h = let signed = flag_is g in rw signed (next _ _ _ _ _ (ea_read Data size.Word n d (flag g) 3 ea rest h))

-- SBCD and ABCD
pub decimal_again : (n x : ℕ) (m : Bool) (y : ℕ) (rest : List ℕ) → line_8 (op n x 1 0 (flag m) y) rest ≡ Ok (decimal_instr n x m y, rest)
decimal_again n x true y rest = refl
decimal_again n x false y rest = refl

pub pack_read : (x : ℕ) (m : Bool) (y w : ℕ) (rest : List ℕ) → line_8 (op 8 x 1 1 (flag m) y) (w ∷ rest) ≡ Ok (Arith (arith_of.Pack x m y w), rest)
pack_read x true y w rest = next _ _ _ _ _ (word_read w rest)
pack_read x false y w rest = next _ _ _ _ _ (word_read w rest)

pub unpk_read : (x : ℕ) (m : Bool) (y w : ℕ) (rest : List ℕ) → line_8 (op 8 x 1 2 (flag m) y) (w ∷ rest) ≡ Ok (Arith (arith_of.Unpk x m y w), rest)
unpk_read x true y w rest = next _ _ _ _ _ (word_read w rest)
unpk_read x false y w rest = next _ _ _ _ _ (word_read w rest)

pub exg_read : (x : ℕ) (k : Exchange) (y : ℕ) (rest : List ℕ) → line_8 (op 12 x 1 (exchange_bits k) (exchange_mode k) y) rest ≡ Ok (Move (move.Exg x k y), rest)
exg_read x exchange.Data y rest = refl
exg_read x exchange.Address y rest = refl
exg_read x exchange.DataAddress y rest = refl

-- CMPA
pub cmpa_read : (a : ℕ) (s : Size) (ea : Ea) (rest : List ℕ) → (not_byte s && takes All s ea) ≡ true →
    line_11 (op 11 a (long_bit s) 3 (mode ea) (lower ea)) (more s ea ++ rest) ≡ Ok (Arith (arith_of.Cmpa a s ea), rest)
cmpa_read a size.Byte ea rest h = absurd cc
cmpa_read a size.Word ea rest h = next _ _ _ _ _ (ea_read All size.Word 11 a 0 3 ea rest h)
cmpa_read a size.Long ea rest h = next _ _ _ _ _ (ea_read All size.Long 11 a 1 3 ea rest h)

pub cmp_read : (d : ℕ) (s : Size) (ea : Ea) (rest : List ℕ) → takes All s ea ≡ true →
    line_11 (op 11 d 0 (size_bits s) (mode ea) (lower ea)) (more s ea ++ rest) ≡ Ok (Arith (arith_of.Cmp d s ea), rest)
cmp_read d s ea rest h = unmet _ _ _ _ (not_three s) ∙ next _ _ _ _ _ (sized_read All 11 d 0 s ea rest h)

pub cmpm_read : (x : ℕ) (s : Size) (y : ℕ) (rest : List ℕ) → line_11 (op 11 x 1 (size_bits s) 1 y) rest ≡ Ok (Arith (arith_of.Cmpm x s y), rest)
cmpm_read x s y rest = unmet _ _ _ _ (not_three s) ∙ by_size_read s _ _

pub eor_read : (d : ℕ) (s : Size) (ea : Ea) (rest : List ℕ) → takes DataAlterable s ea ≡ true →
    line_11 (op 11 d 1 (size_bits s) (mode ea) (lower ea)) (more s ea ++ rest) ≡ Ok (Arith (arith_of.Eor d s ea), rest)
eor_read d s ea rest h =
    let size = not_three s in
    let operand = not_address s (mode ea) (lower ea) (taken DataAlterable s ea h).0 in
    rw (size, operand) (next _ _ _ _ _ (sized_read DataAlterable 11 d 1 s ea rest h))

-- ---- what is read

-- what the line tells apart
abbrev pub BinaryRow : ℕ → Type 0
BinaryRow n = (d : ℕ) (k : Bool) (s : Size) (ea : Ea) → row (binary_instr n d k s ea) ≡ sized (side (source_class n) k) n d (flag k) s ea

abbrev pub AddressRow : ℕ → Type 0
AddressRow n = (a : ℕ) (s : Size) (ea : Ea) → row (address_instr n a s ea) ≡ when (not_byte s) (at_ea All s n a (long_bit s) 3 ea)

abbrev pub ExtendedRow : ℕ → Type 0
ExtendedRow n = (x : ℕ) (s : Size) (m : Bool) (y : ℕ) → row (extended_instr n x s m y) ≡ bare (op n x 1 (size_bits s) (flag m) y)

abbrev pub ProductRow : ℕ → Type 0
ProductRow n = (d : ℕ) (g : Bool) (ea : Ea) → row (product_instr n d g ea) ≡ at_ea Data size.Word n d (flag g) 3 ea

abbrev pub DecimalRow : ℕ → Type 0
DecimalRow n = (x : ℕ) (m : Bool) (y : ℕ) → row (decimal_instr n x m y) ≡ bare (op n x 1 0 (flag m) y)

lt_of : (m n : ℕ) → nat_lt m n ≡ true → m < n
lt_of m n h = grind (arith, nat_tests)

binary_shape : (p : Opcode) → IsOpcode p → BinaryRow p.line → Shape row p (binary_at p)
binary_shape p is rows = made_row _ p _ _
    (sized_shape p (side (source_class p.line) (p.bit == 1)) p.line p.upper _ is refl refl (flag_of p.bit is.bit))
    (λ x. rows p.upper (p.bit == 1) x.0 x.1)

bit_size : (n : ℕ) → n < 2 → n ≡ long_bit (size_of_bit n)
bit_size n h = under_2 (λ n. n ≡ long_bit (size_of_bit n)) refl refl n h

address_shape : (p : Opcode) → IsOpcode p → AddressRow p.line → p.size ≡ 3 → Shape row p (address_at p)
address_shape p is rows f = made_row _ p _ _
    (guarded _ p _ _ (not_byte_of_bit p.bit is.bit) (ea_shape p All (size_of_bit p.bit) p.line p.upper _ 3 is refl refl (bit_size p.bit is.bit) f))
    (λ ea. rows p.upper (size_of_bit p.bit) ea)

extended_shape : (p : Opcode) → IsOpcode p → ExtendedRow p.line → p.bit ≡ 1 → p.mode < 2 → Shape row p (extended_at p)
extended_shape p is rows bit low = by_size_shape row p p.size _ (λ s e.
    given p _ _ (rows p.upper s (p.mode == 1) p.lower)
    (op_is p p.line p.upper 1 _ _ p.lower refl refl bit (sym e) (flag_of p.mode low) refl))

product_shape : (p : Opcode) → IsOpcode p → ProductRow p.line → p.size ≡ 3 → Shape row p (product_at p)
product_shape p is rows f = made_row _ p _ _
    (ea_shape p Data size.Word p.line p.upper _ 3 is refl refl (flag_of p.bit is.bit) f) (λ ea. rows p.upper (p.bit == 1) ea)

abbrev PackedRow : ℕ → Type 0
PackedRow n = n ≢ 0 → n ≢ 3 → (x : ℕ) (m : Bool) (y w : ℕ) → row (packed_instr n x m y w) ≡ with_word (op 8 x 1 n (flag m) y) w

packed_row : (n : ℕ) → n < 4 → PackedRow n
packed_row n h = under_4 PackedRow (λ a b. absurd (a refl)) (λ a b x m y w. refl) (λ a b x m y w. refl) (λ a b. absurd (b refl)) n h

packed_8_shape : (p : Opcode) → IsOpcode p → p.line ≡ 8 → p.bit ≡ 1 → p.mode < 2 → p.size ≢ 0 → p.size ≢ 3 → Shape row p (packed_8 p)
packed_8_shape p is line bit low n0 n3 = made_row _ p _ _
    (word_shape p _ (op_is p 8 p.upper 1 p.size _ p.lower line refl bit refl (flag_of p.mode low) refl))
    (λ w. packed_row p.size is.size n0 n3 p.upper (p.mode == 1) p.lower w)

exchange_12_shape : (p : Opcode) → p.line ≡ 12 → p.bit ≡ 1 → Shape row p (exchange_12 p)
exchange_12_shape p line bit =
    equals row p p.size 1 p.mode 0 _ _ (λ size mode. given p _ _ refl (op_is p 12 p.upper 1 1 0 p.lower line refl bit size mode refl))
    (equals row p p.size 1 p.mode 1 _ _ (λ size mode. given p _ _ refl (op_is p 12 p.upper 1 1 1 p.lower line refl bit size mode refl))
    (equals row p p.size 2 p.mode 1 _ _ (λ size mode. given p _ _ refl (op_is p 12 p.upper 1 2 1 p.lower line refl bit size mode refl)) (none row p)))

pair_8_shape : (p : Opcode) → IsOpcode p → DecimalRow p.line → (p.line ≢ 8 → p.line ≡ 12) → p.bit ≡ 1 → p.mode < 2 → p.size ≢ 3 → Shape row p (pair_8 p)
pair_8_shape p is decimals lines bit low n3 =
    equal row p p.size 0 _ _ (λ f.
    given p _ _ (decimals p.upper (p.mode == 1) p.lower) (op_is p p.line p.upper 1 0 _ p.lower refl refl bit f (flag_of p.mode low) refl)) (λ n0.
    equal row p p.line 8 _ _ (λ line. packed_8_shape p is line bit low n0 n3) (λ n. exchange_12_shape p (lines n) bit))

-- bit 8 and the mode say two registers
record Registers (p : Opcode) : Type 0 where
  bit : p.bit ≡ 1
  low : p.mode < 2

registers_of : (p : Opcode) → has_registers p ≡ true → Registers p
registers_of p e = let q = and_is (p.bit == 1) (nat_lt p.mode 2) e in record { bit = eq_true p.bit 1 q.0; low = lt_of p.mode 2 q.1 }

-- the rows of lines 8 and 12
pub record LogicRows (n : ℕ) : Type 0 where
  pub binary : BinaryRow n
  pub product : ProductRow n
  pub decimal : DecimalRow n
  pub lines : n ≢ 8 → n ≡ 12

pub line_8_shape : (p : Opcode) → IsOpcode p → LogicRows p.line → Shape row p (line_8 p)
line_8_shape p is rows =
    equal row p p.size 3 _ _ (λ f. product_shape p is rows.product f) (λ n3.
    either row p (has_registers p) _ _
    (λ e. let r = registers_of p e in pair_8_shape p is rows.decimal rows.lines r.bit r.low n3) (λ e. binary_shape p is rows.binary))

-- the rows of lines 9 and 13
pub record SumRows (n : ℕ) : Type 0 where
  pub binary : BinaryRow n
  pub address : AddressRow n
  pub extended : ExtendedRow n

pub line_9_shape : (p : Opcode) → IsOpcode p → SumRows p.line → Shape row p (line_9 p)
line_9_shape p is rows =
    equal row p p.size 3 _ _ (λ f. address_shape p is rows.address f) (λ n.
    either row p (has_registers p) _ _
    (λ e. let r = registers_of p e in extended_shape p is rows.extended r.bit r.low) (λ e. binary_shape p is rows.binary))

cmp_11_shape : (p : Opcode) → IsOpcode p → p.line ≡ 11 → p.bit ≡ 0 → Shape row p (cmp_11 p)
cmp_11_shape p is line bit = made_row _ p _ _ (sized_shape p All 11 p.upper 0 is line refl bit) (λ x. refl)

eor_11_shape : (p : Opcode) → IsOpcode p → p.line ≡ 11 → p.bit ≡ 1 → Shape row p (eor_11 p)
eor_11_shape p is line bit =
    equal row p p.mode 1 _ _ (λ mode.
    by_size_shape row p p.size _ (λ s e. given p _ _ refl (op_is p 11 p.upper 1 _ 1 p.lower line refl bit (sym e) mode refl))) (λ n.
    made_row _ p _ _ (sized_shape p DataAlterable 11 p.upper 1 is line refl bit) (λ x. refl))

pub line_11_shape : (p : Opcode) → IsOpcode p → p.line ≡ 11 → AddressRow p.line → Shape row p (line_11 p)
line_11_shape p is line rows =
    equal row p p.size 3 _ _ (λ f. address_shape p is rows f) (λ n.
    equal row p p.bit 0 _ _ (λ bit. cmp_11_shape p is line bit) (λ n. let below = is.bit in eor_11_shape p is line (omega arith)))
