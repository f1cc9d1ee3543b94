-- The instructions of a generated program, each with the words that spell it.
use Rattle.std.specs.Prelude.{ℕ, ◌+◌, ◌-◌, ◌*◌, ◌/◌, ◌%◌, ◌^◌, ◌==◌, false, if◌then◌else◌, List, [], ◌∷◌}
use Rattle.mb_instr.specs.declared.size.Size.TheVariants.{Byte, Long}
use Rattle.mb_instr.specs.declared.operand.Ea.TheVariants.{Dn, Disp, AbsW, AbsL, Imm}
use Rattle.mb_instr.specs.declared.kinds.ShiftKind.TheVariants.{Logical}
use Rattle.mb_instr.specs.declared.kinds.Condition.TheVariants.{NotEqual}
use Rattle.mb_instr.specs.declared.kinds.Branch.TheVariants.{Word}
use Rattle.mb_instr.specs.declared.instruction.Instr.{Instr}
use Rattle.mb_instr.specs.declared.instruction.Instr.TheVariants.{Move, Arith, Flow}
use Rattle.mb_instr.specs.declared.instruction.Move.TheVariants as move
use Rattle.mb_instr.specs.declared.instruction.Arith.TheVariants as arith
use Rattle.mb_instr.specs.declared.instruction.Flow.TheVariants as flow
use Rattle.mb_decode.specs.RowReading.{quick_value}

-- An instruction beside its words.
pub record Spelled : Type 0 where
  pub instruction : Instr
  pub words : List ℕ

abbrev pub spelled : Instr → List ℕ → Spelled
spelled instruction words = record { instruction = instruction; words = words }

-- ---- what a draw picks

-- a word with bits 15, 1 and 0 clear
abbrev pub place_of : ℕ → ℕ
place_of h = h % 2 ^ 15 / 4 * 4

-- MOVEQ #n,Dd
abbrev pub moveq : ℕ → ℕ → Spelled
moveq d n = spelled (Move (move.Moveq d n)) ((0x7000 + 512 * d + n) ∷ [])

-- ADD.L De,Dd
abbrev pub add : ℕ → ℕ → Spelled
add d e = spelled (Arith (arith.Add d false Long (Dn e))) ((0xD080 + 512 * d + e) ∷ [])

-- SUB.L De,Dd
abbrev pub sub : ℕ → ℕ → Spelled
sub d e = spelled (Arith (arith.Sub d false Long (Dn e))) ((0x9080 + 512 * d + e) ∷ [])

-- EOR.L Dd,De
abbrev pub eor : ℕ → ℕ → Spelled
eor d e = spelled (Arith (arith.Eor d Long (Dn e))) ((0xB180 + 512 * d + e) ∷ [])

-- MULU.W De,Dd
abbrev pub mulu : ℕ → ℕ → Spelled
mulu d e = spelled (Arith (arith.MulW d false (Dn e))) ((0xC0C0 + 512 * d + e) ∷ [])

-- LSR.L #e,Dd
abbrev pub lsr : ℕ → ℕ → Spelled
lsr d e = spelled (Arith (arith.ShiftReg (quick_value e) false Long false Logical d)) ((0xE088 + 512 * e + d) ∷ [])

-- MOVE.L Dd,(k,A5)
abbrev pub store : ℕ → ℕ → Spelled
store d k = spelled (Move (move.Move Long (Disp 5 k) (Dn d))) ((0x2B40 + d) ∷ k ∷ [])

-- MOVE.L (k,A5),Dd
abbrev pub load : ℕ → ℕ → Spelled
load d k = spelled (Move (move.Move Long (Dn d) (Disp 5 k))) ((0x202D + 512 * d) ∷ k ∷ [])

-- one of eight instructions, with two numbers below 8 and a word
abbrev pub picked_by : (kind d e h : ℕ) → Spelled
picked_by kind d e h =
    if kind == 0 then moveq d (h % 256)
    else if kind == 1 then add d e
    else if kind == 2 then sub d e
    else if kind == 3 then eor d e
    else if kind == 4 then mulu d e
    else if kind == 5 then lsr d e
    else if kind == 6 then store d (place_of h)
    else load d (place_of h)

-- what a draw picks: the kind by its lowest three bits, the numbers by three bits each behind them, the word by the
-- highest sixteen
abbrev pub picked : ℕ → Spelled
picked draw = picked_by (draw % 8) (draw / 8 % 8) (draw / 64 % 8) (draw / 65536)

-- ---- what stands in each program

-- LEA $8000,A5
abbrev pub enter : Spelled
enter = spelled (Move (move.Lea 5 (AbsL 0x8000))) (0x4BF9 ∷ 0x0000 ∷ 0x8000 ∷ [])

-- MOVE.B D0,$FFF00000: a byte to the console
abbrev pub send : Spelled
send = spelled (Move (move.Move Byte (AbsL 0xFFF00000) (Dn 0))) (0x13C0 ∷ 0xFFF0 ∷ 0x0000 ∷ [])

-- SUBQ.L #1,$7F00.W
abbrev pub count_down : Spelled
count_down = spelled (Arith (arith.Subq 1 Long (AbsW 0x7F00))) (0x53B8 ∷ 0x7F00 ∷ [])

-- BNE.W to so many bytes before its displacement
abbrev pub repeat : ℕ → Spelled
repeat bytes = spelled (Flow (flow.Bcc NotEqual (Word (2 ^ 16 - bytes)))) (0x6600 ∷ (2 ^ 16 - bytes) ∷ [])

-- MOVE.L #1,$FFF00020: the power switch
abbrev pub switch_off : Spelled
switch_off =
    spelled (Move (move.Move Long (AbsL 0xFFF00020) (Imm 1))) (0x23FC ∷ 0x0000 ∷ 0x0001 ∷ 0xFFF0 ∷ 0x0020 ∷ [])
