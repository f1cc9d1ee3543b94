-- Lists of words, and how many words a spelling has.
use Rattle.std.proofs.Common.{ℕ, ◌<◌, ◌≤◌, ◌/◌, ◌%◌, ◌^◌, ◌==◌, Bool, true, false, cond, List, [], ◌∷◌, ◌++◌, length, ap, arith, length-append}
use Rattle.std.proofs.lemmas.List.Elements.{All-nil, All-cons, All-head, All-tail, All-append}
use Rattle.mb_instr.specs.declared.size.Size.{Size}
use Rattle.mb_instr.specs.declared.size.Size.TheVariants as size
use Rattle.mb_instr.specs.declared.operand.Ea.{Ea}
use Rattle.mb_instr.specs.declared.operand.Ea.TheVariants.{Dn, An, Ind, Post, Pre, Disp, Index, AbsW, AbsL, PcDisp, PcIndex, Imm}
use Rattle.mb_instr.specs.declared.operand.Ext.{Ext}
use Rattle.mb_instr.specs.declared.operand.Ext.TheVariants.{Brief, Full}
use Rattle.mb_instr.specs.declared.kinds.Branch.{Branch}
use Rattle.mb_instr.specs.declared.kinds.Branch.TheVariants as branch
use Rattle.mb_instr.specs.declared.kinds.TrapOperand.{TrapOperand}
use Rattle.mb_instr.specs.declared.kinds.TrapOperand.TheVariants as trap
use Rattle.mb_instr.specs.declared.instruction.Move.{Move}
use Rattle.mb_instr.specs.declared.instruction.Move.TheVariants as move
use Rattle.mb_instr.specs.declared.instruction.Arith.{Arith}
use Rattle.mb_instr.specs.declared.instruction.Arith.TheVariants as arith_of
use Rattle.mb_instr.specs.declared.instruction.Flow.{Flow}
use Rattle.mb_instr.specs.declared.instruction.Flow.TheVariants as flow
use Rattle.mb_instr.specs.declared.instruction.System.{System}
use Rattle.mb_instr.specs.declared.instruction.System.TheVariants as system
use Rattle.mb_instr.specs.declared.instruction.Instr.{Instr}
use Rattle.mb_instr.specs.declared.instruction.Instr.TheVariants as instr
use Rattle.mb_instr.specs.Operands.{more, long_words, wide, ext, immediate}
use Rattle.mb_instr.specs.Shapes.{further, branch_words}
use Rattle.mb_instr.specs.Rows.{row, move_row, arith_row, flow_row, system_row, trap_words}
use Rattle.mb_instr.specs.Codes.{Codes, AreWords}

abbrev pub IsWord : ℕ → Type 0
IsWord w = w < 2 ^ 16

pub AreWords-nil : AreWords []
AreWords-nil = All-nil IsWord

pub AreWords-cons : (w : ℕ) (ws : List ℕ) → w < 2 ^ 16 → AreWords ws → AreWords (w ∷ ws)
AreWords-cons w ws h hs = All-cons IsWord w ws h hs

pub AreWords-head : (w : ℕ) (ws : List ℕ) → AreWords (w ∷ ws) → w < 2 ^ 16
AreWords-head w ws h = All-head IsWord w ws h

pub AreWords-tail : (w : ℕ) (ws : List ℕ) → AreWords (w ∷ ws) → AreWords ws
AreWords-tail w ws h = All-tail IsWord w ws h

pub AreWords-append : (a b : List ℕ) → AreWords a → AreWords b → AreWords (a ++ b)
AreWords-append a b ha hb = All-append IsWord a b ha hb

pub AreWords-left : (a b : List ℕ) → AreWords (a ++ b) → AreWords a
AreWords-left [] b h = AreWords-nil
AreWords-left (w ∷ a) b h = AreWords-cons w a (AreWords-head w (a ++ b) h) (AreWords-left a b (AreWords-tail w (a ++ b) h))

pub AreWords-right : (a b : List ℕ) → AreWords (a ++ b) → AreWords b
AreWords-right [] b h = h
AreWords-right (w ∷ a) b h = AreWords-right a b (AreWords-tail w (a ++ b) h)

-- ---- how many words

length_cond : (b : Bool) (x y : List ℕ) (n : ℕ) → length x ≤ n → length y ≤ n → length (cond b x y) ≤ n
length_cond true x y n hx hy = hx
length_cond false x y n hx hy = hy

pub wide_length : (width v : ℕ) → length (wide width v) ≤ 2
wide_length width v = length_cond (width == 2) _ _ 2 (omega arith) (length_cond (width == 3) _ _ 2 (omega arith) (omega arith))

pub ext_length : (e : Ext) → length (ext e) ≤ 5
ext_length (Brief w) = omega arith
ext_length (Full w bd od) = omega (arith, wide_length (w / 2 ^ 4 % 4) bd, wide_length (w % 4) od, length-append (wide (w / 2 ^ 4 % 4) bd) (wide (w % 4) od))

pub immediate_length : (s : Size) (v : ℕ) → length (immediate s v) ≤ 2
immediate_length size.Byte v = omega arith
immediate_length size.Word v = omega arith
immediate_length size.Long v = omega arith

-- an operand has at most five words behind the first
pub more_length : (s : Size) (ea : Ea) → length (more s ea) ≤ 5
more_length s (Dn n) = omega arith
more_length s (An n) = omega arith
more_length s (Ind n) = omega arith
more_length s (Post n) = omega arith
more_length s (Pre n) = omega arith
more_length s (Disp n d) = omega arith
more_length s (Index n e) = ext_length e
more_length s (AbsW a) = omega arith
more_length s (AbsL a) = omega arith
more_length s (PcDisp d) = omega arith
more_length s (PcIndex e) = ext_length e
more_length s (Imm v) = omega (arith, immediate_length s v)

abbrev IsShort : List ℕ → Type 0
IsShort ws = length ws ≤ 10

one_ea : (s : Size) (ea : Ea) → IsShort (more s ea)
one_ea s ea = omega (arith, more_length s ea)

word_and_ea : (w : ℕ) (s : Size) (ea : Ea) → IsShort (w ∷ more s ea)
word_and_ea w s ea = omega (arith, more_length s ea)

both : (a b : List ℕ) → length a ≤ 5 → length b ≤ 5 → IsShort (a ++ b)
both a b ha hb = omega (arith, length-append a b)

up_to_five : (ws : List ℕ) → length ws ≤ 2 → length ws ≤ 5
up_to_five ws h = omega arith

immediate_and_ea : (s : Size) (v : ℕ) (ea : Ea) → IsShort (immediate s v ++ more s ea)
immediate_and_ea s v ea = both _ _ (up_to_five _ (immediate_length s v)) (more_length s ea)

branch_length : (d : Branch) → IsShort (branch_words d)
branch_length (branch.Byte b) = omega arith
branch_length (branch.Word w) = omega arith
branch_length (branch.Long l) = omega arith

trap_length : (o : TrapOperand) → IsShort (trap_words o)
trap_length (trap.Word w) = omega arith
trap_length (trap.Long l) = omega arith
trap_length trap.Nothing = omega arith

none : IsShort []
none = omega arith

one : (w : ℕ) → IsShort (w ∷ [])
one w = omega arith

two : (w v : ℕ) → IsShort (w ∷ v ∷ [])
two w v = omega arith

long_length : (v : ℕ) → IsShort (long_words v)
long_length v = omega arith

move_length : (i : Move) → IsShort (further (move_row i))
move_length (move.Exg x k y) = none
move_length (move.FromCcr ea) = one_ea size.Word ea
move_length (move.Lea a ea) = one_ea size.Long ea
move_length (move.LinkL a d) = long_length d
move_length (move.LinkW a d) = one d
move_length (move.Move s d e) = both _ _ (more_length s e) (more_length s d)
move_length (move.Move16Abs k a l) = long_length l
move_length (move.Move16Post x w) = one w
move_length (move.Movea s a ea) = one_ea s ea
move_length (move.MovemLoad s ea w) = word_and_ea w s ea
move_length (move.MovemStore s ea w) = word_and_ea w s ea
move_length (move.Movep d k s a w) = one w
move_length (move.Moveq d n) = none
move_length (move.Pea ea) = one_ea size.Long ea
move_length (move.Scc c ea) = one_ea size.Byte ea
move_length (move.Swap d) = none
move_length (move.ToCcr ea) = one_ea size.Word ea
move_length (move.Unlk a) = none

arith_length : (i : Arith) → IsShort (further (arith_row i))
arith_length (arith_of.Abcd x m y) = none
arith_length (arith_of.Add d k s ea) = one_ea s ea
arith_length (arith_of.Adda a s ea) = one_ea s ea
arith_length (arith_of.Addi s ea v) = immediate_and_ea s v ea
arith_length (arith_of.Addq q s ea) = one_ea s ea
arith_length (arith_of.Addx x s m y) = none
arith_length (arith_of.And d k s ea) = one_ea s ea
arith_length (arith_of.Andi s ea v) = immediate_and_ea s v ea
arith_length (arith_of.AndiCcr w) = one w
arith_length (arith_of.BitImm k ea w) = word_and_ea w size.Byte ea
arith_length (arith_of.BitReg d k ea) = one_ea size.Byte ea
arith_length (arith_of.Cas s ea w) = word_and_ea w s ea
arith_length (arith_of.Cas2 s w v) = two w v
arith_length (arith_of.Clr s ea) = one_ea s ea
arith_length (arith_of.Cmp d s ea) = one_ea s ea
arith_length (arith_of.Cmp2 s ea w) = word_and_ea w s ea
arith_length (arith_of.Cmpa a s ea) = one_ea s ea
arith_length (arith_of.Cmpi s ea v) = immediate_and_ea s v ea
arith_length (arith_of.Cmpm x s y) = none
arith_length (arith_of.DivL ea w) = word_and_ea w size.Long ea
arith_length (arith_of.DivW d g ea) = one_ea size.Word ea
arith_length (arith_of.Eor d s ea) = one_ea s ea
arith_length (arith_of.Eori s ea v) = immediate_and_ea s v ea
arith_length (arith_of.EoriCcr w) = one w
arith_length (arith_of.ExtL d) = none
arith_length (arith_of.ExtW d) = none
arith_length (arith_of.ExtbL d) = none
arith_length (arith_of.Field k ea w) = word_and_ea w size.Long ea
arith_length (arith_of.MulL ea w) = word_and_ea w size.Long ea
arith_length (arith_of.MulW d g ea) = one_ea size.Word ea
arith_length (arith_of.Nbcd ea) = one_ea size.Byte ea
arith_length (arith_of.Neg s ea) = one_ea s ea
arith_length (arith_of.Negx s ea) = one_ea s ea
arith_length (arith_of.Not s ea) = one_ea s ea
arith_length (arith_of.Or d k s ea) = one_ea s ea
arith_length (arith_of.Ori s ea v) = immediate_and_ea s v ea
arith_length (arith_of.OriCcr w) = one w
arith_length (arith_of.Pack x m y w) = one w
arith_length (arith_of.Sbcd x m y) = none
arith_length (arith_of.ShiftMem k l ea) = one_ea size.Word ea
arith_length (arith_of.ShiftReg n l s i k r) = none
arith_length (arith_of.Sub d k s ea) = one_ea s ea
arith_length (arith_of.Suba a s ea) = one_ea s ea
arith_length (arith_of.Subi s ea v) = immediate_and_ea s v ea
arith_length (arith_of.Subq q s ea) = one_ea s ea
arith_length (arith_of.Subx x s m y) = none
arith_length (arith_of.Tas ea) = one_ea size.Byte ea
arith_length (arith_of.Tst s ea) = one_ea s ea
arith_length (arith_of.Unpk x m y w) = one w

flow_length : (i : Flow) → IsShort (further (flow_row i))
flow_length (flow.Bcc c d) = branch_length d
flow_length (flow.Chk d s ea) = one_ea s ea
flow_length (flow.Chk2 s ea w) = word_and_ea w s ea
flow_length (flow.Dbcc c d w) = one w
flow_length (flow.Jmp ea) = one_ea size.Long ea
flow_length (flow.Jsr ea) = one_ea size.Long ea
flow_length flow.Nop = none
flow_length (flow.Rtd d) = one d
flow_length flow.Rtr = none
flow_length flow.Rts = none
flow_length (flow.Trap n) = none
flow_length (flow.Trapcc c o) = trap_length o
flow_length flow.Trapv = none

system_length : (i : System) → IsShort (further (system_row i))
system_length (system.AndiSr w) = one w
system_length (system.Cinv c s a) = none
system_length (system.Cpush c s a) = none
system_length (system.EoriSr w) = one w
system_length (system.FromSr ea) = one_ea size.Word ea
system_length (system.MoveUsp k a) = none
system_length (system.Movec k w) = one w
system_length (system.Moves s ea w) = word_and_ea w s ea
system_length (system.OriSr w) = one w
system_length (system.Pflush k a) = none
system_length (system.Ptest k a) = none
system_length system.Reset = none
system_length system.Rte = none
system_length (system.Stop w) = one w
system_length (system.ToSr ea) = one_ea size.Word ea

-- a row has at most ten words behind the first
pub further_length : (i : Instr) → length (further (row i)) ≤ 10
further_length (instr.Move i) = move_length i
further_length (instr.Arith i) = arith_length i
further_length (instr.Flow i) = flow_length i
further_length (instr.System i) = system_length i

-- a spelling has 1 to 11 words
pub Codes-length : (i : Instr) (w : List ℕ) → Codes i w → (1 ≤ length w) × (length w ≤ 11)
Codes-length i w c =
    let words = c.words in
    (omega (arith, ap length words), omega (arith, ap length words, further_length i))
