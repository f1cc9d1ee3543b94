-- Groups of instructions that compute, of which each has a function.
use Rattle.std.specs.Prelude.{Bool, true, false}
use Rattle.mb_instr.specs.declared.instruction.Arith.{Arith}
use Rattle.mb_instr.specs.declared.instruction.Arith.TheVariants as arith

-- two operands are combined
abbrev pub is_pair : Arith → Bool
is_pair (arith.Add d k s ea) = true
is_pair (arith.Sub d k s ea) = true
is_pair (arith.And d k s ea) = true
is_pair (arith.Or d k s ea) = true
is_pair (arith.Eor d s ea) = true
is_pair (arith.Addx x s m y) = true
is_pair (arith.Subx x s m y) = true
is_pair i = false

-- a number in the instruction is combined with an operand, or with the condition codes
abbrev pub is_immediate : Arith → Bool
is_immediate (arith.Addi s ea v) = true
is_immediate (arith.Subi s ea v) = true
is_immediate (arith.Andi s ea v) = true
is_immediate (arith.Ori s ea v) = true
is_immediate (arith.Eori s ea v) = true
is_immediate (arith.Addq q s ea) = true
is_immediate (arith.Subq q s ea) = true
is_immediate (arith.OriCcr w) = true
is_immediate (arith.AndiCcr w) = true
is_immediate (arith.EoriCcr w) = true
is_immediate i = false

-- operands are compared
abbrev pub is_comparison : Arith → Bool
is_comparison (arith.Cmp d s ea) = true
is_comparison (arith.Cmpi s ea v) = true
is_comparison (arith.Cmpm x s y) = true
is_comparison (arith.Cmp2 s ea w) = true
is_comparison (arith.Cmpa a s ea) = true
is_comparison (arith.Tst s ea) = true
is_comparison i = false

-- an operand is read, and the result goes to a register
abbrev pub is_register_result : Arith → Bool
is_register_result (arith.Adda a s ea) = true
is_register_result (arith.Suba a s ea) = true
is_register_result (arith.MulW d g ea) = true
is_register_result (arith.MulL ea w) = true
is_register_result (arith.DivW d g ea) = true
is_register_result (arith.DivL ea w) = true
is_register_result i = false

-- one operand is changed
abbrev pub is_single : Arith → Bool
is_single (arith.Neg s ea) = true
is_single (arith.Negx s ea) = true
is_single (arith.Not s ea) = true
is_single (arith.Clr s ea) = true
is_single (arith.ShiftMem k l ea) = true
is_single (arith.Nbcd ea) = true
is_single (arith.ExtW d) = true
is_single (arith.ExtL d) = true
is_single (arith.ExtbL d) = true
is_single (arith.ShiftReg n l s i k r) = true
is_single i = false

-- a bit, or a field of bits
abbrev pub is_bits : Arith → Bool
is_bits (arith.BitReg d k ea) = true
is_bits (arith.BitImm k ea w) = true
is_bits (arith.Field k ea w) = true
is_bits i = false

-- two operands of decimal digits
abbrev pub is_decimal : Arith → Bool
is_decimal (arith.Abcd x m y) = true
is_decimal (arith.Sbcd x m y) = true
is_decimal (arith.Pack x m y w) = true
is_decimal (arith.Unpk x m y w) = true
is_decimal i = false

-- operands are read and written in one
abbrev pub is_locked : Arith → Bool
is_locked (arith.Tas ea) = true
is_locked (arith.Cas s ea w) = true
is_locked (arith.Cas2 s w v) = true
is_locked i = false
