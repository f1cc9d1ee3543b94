-- Each row, the fetch of an instruction, and the attempt.
use Rattle.std.specs.Prelude.{◌≡◌, refl, true, false, ℕ, zero, suc, ◌+◌, ◌%◌, ◌^◌, ◌<◌, ◌==◌, List, [], ◌∷◌, ◌++◌}
use Rattle.std.proofs.Common.{arith, sym, subst, inl, inr}
use Rattle.std.proofs.lemmas.Bool.Decides.{nat_tests}
use Rattle.mb_port.specs.Routine.{Routine}
use Rattle.mb_port.specs.declared.types.Space.{Space}
use Rattle.law_routines.specs.Twin.{Twin, returned, Results}
use Rattle.law_routines.specs.Between.{Setting, SameWord, SameFault, between}
use Rattle.law_routines.proofs.Twinned.{twins_bind, twins_caught, twins_failing, twins_choose}
use Rattle.law_routines.proofs.Between.{twin_fetch}
use Rattle.mb_instr.specs.declared.size.Size.TheVariants.{Byte, Word, Long}
use Rattle.mb_instr.specs.declared.instruction.Instr.{Instr}
use Rattle.mb_instr.specs.declared.instruction.Instr.TheVariants as instr
use Rattle.mb_instr.specs.declared.instruction.Move.{Move}
use Rattle.mb_instr.specs.declared.instruction.Move.TheVariants as move
use Rattle.mb_instr.specs.declared.instruction.Arith.{Arith}
use Rattle.mb_instr.specs.declared.instruction.Arith.TheVariants as arith
use Rattle.mb_instr.specs.declared.instruction.Flow.{Flow}
use Rattle.mb_instr.specs.declared.instruction.Flow.TheVariants as flow
use Rattle.mb_instr.specs.declared.registers.Plain.{Plain}
use Rattle.mb_instr.specs.Sizes.{sign_extended}
use Rattle.mb_decode.specs.declared.front.Decoded.{Decoded}
use Rattle.mb_decode.specs.declared.front.Decoded.TheVariants.{Whole, More, Illegal, LineA, LineF}
use Rattle.mb_decode.specs.Decodes.{decode_of, IfWhole}
use Rattle.mb_decode.proofs.Table as table
use Rattle.mb_instr.specs.Rows.{row}
use Rattle.mb_instr.specs.Codes.{IsInstr, AreWords}
use Rattle.mb_instr.proofs.Words.{AreWords-nil, AreWords-cons, AreWords-append}
use Rattle.mb_instr.specs.declared.operand.Ea.TheVariants.{Dn, Post, Imm}
use Rattle.mb_alu.specs.declared.bitwise.LogicKind.TheVariants as logic
use Rattle.mb_alu.specs.Logic.{logic_of}
use Rattle.mb_ea.specs.Addresses.{sum, difference}
use Rattle.mb_instr.specs.Shapes.{operands_at}
use Rattle.mb_instr.specs.Rows.{move_row, arith_row, flow_row}
use Rattle.def_instructions.specs.Arithmetic.{added, subtracted, added_extended, subtracted_extended, address_moved, address_compared}
use Rattle.def_instructions.specs.Unary.{negated, negated_extended, complemented, tst_effect}
use Rattle.def_instructions.specs.Shifts.{shifted_by_one}
use Rattle.def_instructions.specs.Products.{multiply_word_of, divide_word_of, multiply_long_of, divide_long_of}
use Rattle.mb_instr.specs.Registers.{data_register}
use Rattle.mb_fields.specs.Decimals.{abcd_of, sbcd_of}
use Rattle.mb_fields.specs.Packing.{pack_of, unpk_of}
use Rattle.def_instructions.specs.Decimals.{negate_decimal_of}
use Rattle.def_instructions.specs.Rows.{perform_move_of, perform_arith_of, perform_flow_of, row_of, perform_of}
use Rattle.def_instructions.specs.Ends.{Performed}
use Rattle.def_instructions.specs.Attempt.{Unfound, end_without, FoundInstr, by_decoded, found_of, fetched_of, past, attempt_of}
use Rattle.mb_instr.specs.declared.counts.TheConstants.{MOST_WORDS}
use Rattle.law_twins.specs.Twins.{SameEnd, SameStop, SamePerformed, MayRefuse}
use Rattle.law_twins.proofs.Parts.{SameCut, Rows, restored_same, failing_twins}
use Rattle.law_twins.proofs.Moves.{move_twins, movea_twins, lea_twins, to_ccr_twins, from_ccr_twins, scc_twins}
use Rattle.law_twins.proofs.Stack.{pea_twins, link_twins, unlk_twins}
use Rattle.law_twins.proofs.Peripheral.{movep_twins}
use Rattle.law_twins.proofs.Lines.{move16_absolute_twins, move16_twins}
use Rattle.law_twins.proofs.Transfers.{movem_twins}
use Rattle.law_twins.proofs.Modifying.{modifying_twins}
use Rattle.law_twins.proofs.Arithmetic.{combining_twins, comparing_twins, either_way_twins, chaining_twins, quick_twins, taking_twins, clr_twins}
use Rattle.law_twins.proofs.Products.{word_divided_same, long_divided_same}
use Rattle.law_twins.proofs.Bits.{bit_row_twins}
use Rattle.law_twins.proofs.Decimals.{decimal_twins, digits_twins}
use Rattle.law_twins.proofs.BitFields.{field_row_twins}
use Rattle.law_twins.proofs.Locked.{tas_twins, cas_twins, cas2_twins}
use Rattle.law_twins.proofs.Flow.{branch_twins, dbcc_same, jmp_twins, jsr_twins}
use Rattle.law_twins.proofs.Returns.{rts_twins, rtd_twins, rtr_twins}
use Rattle.law_twins.proofs.Traps.{trap_same, trapcc_same, trapv_same}
use Rattle.law_twins.proofs.Bounds.{chk_twins, cmp2_twins, chk2_twins}

-- a line a row
perform_move_twins : (x : Setting) (i : Move) (word_at : ℕ) (p : Plain) → Rows x (perform_move_of i word_at x.here p) (perform_move_of i word_at x.there p)
perform_move_twins x (move.Move size destination source) word_at p = move_twins x size destination source word_at p
perform_move_twins x (move.Moveq register immediate) word_at p = returned refl
perform_move_twins x (move.MovemLoad size ea mask) word_at p = movem_twins x true size ea mask word_at p
perform_move_twins x (move.MovemStore size ea mask) word_at p = movem_twins x false size ea mask word_at p
perform_move_twins x (move.Movea size register source) word_at p = movea_twins x size register source word_at p
perform_move_twins x (move.Lea register ea) word_at p = lea_twins x register ea word_at p
perform_move_twins x (move.Exg m kind n) word_at p = returned refl
perform_move_twins x (move.Swap register) word_at p = returned refl
perform_move_twins x (move.ToCcr ea) word_at p = to_ccr_twins x ea word_at p
perform_move_twins x (move.FromCcr ea) word_at p = from_ccr_twins x ea word_at p
perform_move_twins x (move.Scc condition ea) word_at p = scc_twins x condition ea word_at p
perform_move_twins x (move.Pea ea) word_at p = pea_twins x ea word_at p
perform_move_twins x (move.LinkW register displacement) word_at p = link_twins x register (sign_extended Word displacement) p
perform_move_twins x (move.LinkL register displacement) word_at p = link_twins x register displacement p
perform_move_twins x (move.Unlk register) word_at p = unlk_twins x register p
perform_move_twins x (move.Movep register is_store size address displacement) word_at p = movep_twins x register is_store size address displacement p
perform_move_twins x (move.Move16Abs kind register address) word_at p = move16_absolute_twins x kind register address p
perform_move_twins x (move.Move16Post m word) word_at p = move16_twins x m word p

perform_arith_twins : (x : Setting) (i : Arith) (word_at : ℕ) (p : Plain) → Rows x (perform_arith_of i word_at x.here p) (perform_arith_of i word_at x.there p)
perform_arith_twins x (arith.Add register to_memory size ea) word_at p = either_way_twins x (added size) register to_memory size ea word_at p
perform_arith_twins x (arith.Sub register to_memory size ea) word_at p = either_way_twins x (subtracted size) register to_memory size ea word_at p
perform_arith_twins x (arith.And register to_memory size ea) word_at p = either_way_twins x (logic_of logic.And size) register to_memory size ea word_at p
perform_arith_twins x (arith.Or register to_memory size ea) word_at p = either_way_twins x (logic_of logic.Or size) register to_memory size ea word_at p
perform_arith_twins x (arith.Eor register size ea) word_at p = either_way_twins x (logic_of logic.Eor size) register true size ea word_at p
perform_arith_twins x (arith.Addi size ea immediate) word_at p = combining_twins x (added size) size (Imm immediate) ea word_at p
perform_arith_twins x (arith.Subi size ea immediate) word_at p = combining_twins x (subtracted size) size (Imm immediate) ea word_at p
perform_arith_twins x (arith.Andi size ea immediate) word_at p = combining_twins x (logic_of logic.And size) size (Imm immediate) ea word_at p
perform_arith_twins x (arith.Ori size ea immediate) word_at p = combining_twins x (logic_of logic.Or size) size (Imm immediate) ea word_at p
perform_arith_twins x (arith.Eori size ea immediate) word_at p = combining_twins x (logic_of logic.Eor size) size (Imm immediate) ea word_at p
perform_arith_twins x (arith.Addx destination size in_memory source) word_at p =
    chaining_twins x (added_extended size) size in_memory source destination word_at p
perform_arith_twins x (arith.Subx destination size in_memory source) word_at p =
    chaining_twins x (subtracted_extended size) size in_memory source destination word_at p
perform_arith_twins x (arith.Cmp register size ea) word_at p = comparing_twins x size ea (Dn register) word_at p
perform_arith_twins x (arith.Cmpi size ea immediate) word_at p = comparing_twins x size (Imm immediate) ea word_at p
perform_arith_twins x (arith.Cmpm destination size source) word_at p = comparing_twins x size (Post source) (Post destination) word_at p
perform_arith_twins x (arith.Addq quick size ea) word_at p = quick_twins x (added size quick) (λ address. sum address quick) size ea word_at p
perform_arith_twins x (arith.Subq quick size ea) word_at p = quick_twins x (subtracted size quick) (λ address. difference address quick) size ea word_at p
perform_arith_twins x (arith.Adda register size ea) word_at p = taking_twins x (address_moved sum register size) size ea word_at p (λ value q. refl)
perform_arith_twins x (arith.Suba register size ea) word_at p = taking_twins x (address_moved difference register size) size ea word_at p (λ value q. refl)
perform_arith_twins x (arith.Cmpa register size ea) word_at p = taking_twins x (address_compared register size) size ea word_at p (λ value q. refl)
perform_arith_twins x (arith.Neg size ea) word_at p = modifying_twins x (negated size) size ea word_at p
perform_arith_twins x (arith.Negx size ea) word_at p = modifying_twins x (negated_extended size) size ea word_at p
perform_arith_twins x (arith.Not size ea) word_at p = modifying_twins x (complemented size) size ea word_at p
perform_arith_twins x (arith.Clr size ea) word_at p = clr_twins x size ea word_at p
perform_arith_twins x (arith.Tst size ea) word_at p = taking_twins x (tst_effect size) size ea word_at p (λ value q. refl)
perform_arith_twins x (arith.ExtW register) word_at p = returned refl
perform_arith_twins x (arith.ExtL register) word_at p = returned refl
perform_arith_twins x (arith.ExtbL register) word_at p = returned refl
perform_arith_twins x (arith.OriCcr word) word_at p = returned refl
perform_arith_twins x (arith.AndiCcr word) word_at p = returned refl
perform_arith_twins x (arith.EoriCcr word) word_at p = returned refl
perform_arith_twins x (arith.ShiftReg count is_left size by_register kind register) word_at p = returned refl
perform_arith_twins x (arith.ShiftMem kind is_left ea) word_at p = modifying_twins x (shifted_by_one kind is_left) Word ea word_at p
perform_arith_twins x (arith.MulW register signed ea) word_at p = taking_twins x (multiply_word_of signed register) Word ea word_at p (λ value q. refl)
perform_arith_twins x (arith.MulL ea word) word_at p = taking_twins x (multiply_long_of word) Long ea word_at p (λ value q. refl)
perform_arith_twins x (arith.DivW register signed ea) word_at p =
    taking_twins x (divide_word_of signed register) Word ea word_at p (word_divided_same x signed register)
perform_arith_twins x (arith.DivL ea word) word_at p = taking_twins x (divide_long_of word) Long ea word_at p (long_divided_same x word)
perform_arith_twins x (arith.BitReg register kind ea) word_at p = bit_row_twins x kind (data_register p register) ea word_at p
perform_arith_twins x (arith.BitImm kind ea word) word_at p = bit_row_twins x kind word ea word_at p
perform_arith_twins x (arith.Nbcd ea) word_at p = modifying_twins x negate_decimal_of Byte ea word_at p
perform_arith_twins x (arith.Abcd to in_memory from) word_at p = decimal_twins x abcd_of to in_memory from word_at p
perform_arith_twins x (arith.Sbcd to in_memory from) word_at p = decimal_twins x sbcd_of to in_memory from word_at p
perform_arith_twins x (arith.Pack to in_memory from word) word_at p = digits_twins x pack_of Word Byte to in_memory from word word_at p
perform_arith_twins x (arith.Unpk to in_memory from word) word_at p = digits_twins x unpk_of Byte Word to in_memory from word word_at p
perform_arith_twins x (arith.Field kind ea word) word_at p = field_row_twins x kind ea word word_at p
perform_arith_twins x (arith.Tas ea) word_at p = tas_twins x ea word_at p
perform_arith_twins x (arith.Cas size ea word) word_at p = cas_twins x size ea word word_at p
perform_arith_twins x (arith.Cas2 size first second) word_at p = cas2_twins x size first second p
perform_arith_twins x (arith.Cmp2 size ea word) word_at p = cmp2_twins x size ea word word_at p

-- the number of a TRAP of the table
trap_number : (number : ℕ) → (row (instr.Flow (flow.Trap number))).legal ≡ true → number < 16
trap_number number legal = grind (arith, nat_tests)

perform_flow_twins : (x : Setting) (i : Flow) (word_at : ℕ) (p : Plain) → IsInstr (instr.Flow i)
    → Rows x (perform_flow_of i word_at x.here p) (perform_flow_of i word_at x.there p)
perform_flow_twins x flow.Nop word_at p is = returned refl
perform_flow_twins x (flow.Bcc condition displacement) word_at p is = branch_twins x condition displacement word_at p
perform_flow_twins x (flow.Dbcc condition register displacement) word_at p is = returned (dbcc_same x condition register displacement word_at p)
perform_flow_twins x (flow.Jmp ea) word_at p is = jmp_twins x ea word_at p
perform_flow_twins x (flow.Jsr ea) word_at p is = jsr_twins x ea word_at p
perform_flow_twins x flow.Rts word_at p is = rts_twins x p
perform_flow_twins x (flow.Rtd displacement) word_at p is = rtd_twins x displacement p
perform_flow_twins x flow.Rtr word_at p is = rtr_twins x p
perform_flow_twins x (flow.Trap number) word_at p is = returned (trap_same x number p (trap_number number is.legal))
perform_flow_twins x (flow.Trapcc condition operand) word_at p is = returned (trapcc_same x condition p)
perform_flow_twins x flow.Trapv word_at p is = returned (trapv_same x p)
perform_flow_twins x (flow.Chk register size ea) word_at p is = chk_twins x register size ea word_at p
perform_flow_twins x (flow.Chk2 size ea word) word_at p is = chk2_twins x size ea word word_at p

row_twins : (x : Setting) (i : Instr) (at : ℕ) (p : Plain) → IsInstr i → MayRefuse x i → Rows x (row_of i at x.here p) (row_of i at x.there p)
row_twins x (instr.Move i) at p is may = perform_move_twins x i (operands_at (move_row i) at) p
row_twins x (instr.Arith i) at p is may = perform_arith_twins x i (operands_at (arith_row i) at) p
row_twins x (instr.Flow i) at p is may = perform_flow_twins x i (operands_at (flow_row i) at) p is
row_twins x (instr.System i) at p is may = returned ((may, refl, inr (inr (inl refl))), refl)

-- ---- instructions

-- an instruction here and there
abbrev pub Instrs : Setting → Routine Performed → Routine Performed → Type 1
Instrs x m n = Twin (between x) Performed Performed (SamePerformed x) m n

pub perform_twins : (x : Setting) (i : Instr) (at : ℕ) (p : Plain) → IsInstr i → MayRefuse x i
    → Instrs x (perform_of i at x.here p) (perform_of i at x.there p)
perform_twins x i at p is may = failing_twins x (SameCut x) (SameStop x) (restored_same x p) (row_twins x i at p is may)

-- any instruction, where instructions may be refused
pub may_refuse : (x : Setting) (i : Instr) → x.refuses ≡ true → MayRefuse x i
may_refuse x (instr.Move i) h = tt
may_refuse x (instr.Arith i) h = tt
may_refuse x (instr.Flow i) h = tt
may_refuse x (instr.System i) h = h

-- ends without an instruction that say the same
abbrev pub SameUnfound : Setting → Unfound → Unfound → Type 0
SameUnfound x e f = SameEnd x (end_without e) (end_without f)

-- the same instruction, and the table has it
abbrev pub SameFound : Instr × ℕ → Instr × ℕ → Type 0
SameFound found other = (found ≡ other) × IsInstr other.0

abbrev pub Founds : Setting → Routine FoundInstr → Routine FoundInstr → Type 1
Founds x m n = Twin (between x) FoundInstr FoundInstr (Results SameFound (SameUnfound x)) m n

judged_twins : (x : Setting) (d : Decoded) (m n : Routine FoundInstr) → x.refuses ≡ true → IfWhole d (λ i k. IsInstr i) → Founds x m n
    → Founds x (by_decoded d m) (by_decoded d n)
judged_twins x More m n h is w = w
judged_twins x (Whole i k) m n h is w = returned (refl, is)
judged_twins x Illegal m n h is w = returned (h, refl, inr (inl refl))
judged_twins x LineA m n h is w = returned (h, refl, inr (inr (inr (inl refl))))
judged_twins x LineF m n h is w = returned (h, refl, inr (inr (inr (inr refl))))

pub found_twins : (x : Setting) (n at : ℕ) (words : List ℕ) → x.refuses ≡ true → AreWords words
    → Founds x (found_of n x.here at words) (found_of n x.there at words)
unfolding found_of
found_twins x zero at words h are = returned (h, refl, inr (inl refl))
found_twins x (suc n) at words h are =
    let next : ℕ = (at + 2) % 2 ^ 32 in
    let behind : Space → ℕ → Routine FoundInstr =
    λ space word. by_decoded (decode_of (words ++ word ∷ [])) (found_of n space next (words ++ word ∷ [])) in
    twins_bind (between x) SameWord (SameUnfound x) SameFound _ _ (behind x.here) (behind x.there)
    (twins_failing (between x) SameWord (SameFault x) (SameUnfound x) _ _ _ _ (λ e f same. record { fault = same; first = refl }) (twin_fetch x at))
    (λ word other same.
    let more = AreWords-append words (other ∷ []) are (AreWords-cons other [] same.1 AreWords-nil) in
    subst (λ (w : ℕ). Founds x (behind x.here w) (behind x.there other)) (sym same.0)
    (judged_twins x (decode_of (words ++ other ∷ [])) _ _ h (table.valid_of _ _ (table.decoded (words ++ other ∷ []) _ refl more))
    (found_twins x n next (words ++ other ∷ []) h more)))

pub fetched_twins : (x : Setting) (pc : ℕ) → x.refuses ≡ true → Founds x (fetched_of x.here pc) (fetched_of x.there pc)
fetched_twins x pc h = twins_choose (between x) _ (pc % 2 == 1) _ _ _ _ (returned (h, refl, inl refl)) (found_twins x MOST_WORDS pc [] h AreWords-nil)

pub attempt_twins : (x : Setting) (p : Plain) → x.refuses ≡ true → Instrs x (attempt_of x.here p) (attempt_of x.there p)
attempt_twins x p h =
    let carry : Space → Instr × ℕ → Routine Performed = λ space found. perform_of found.0 p.pc space (past found.1 p) in
    twins_caught (between x) SameFound (SameUnfound x) (SamePerformed x) _ _ _ _ (carry x.here) (carry x.there) (fetched_twins x p.pc h)
    (λ e f same. returned (same, refl))
    (λ found other same.
    subst (λ (i : Instr × ℕ). Instrs x (carry x.here i) (carry x.there other)) (sym same.0)
    (perform_twins x other.0 p.pc (past other.1 p) same.1 (may_refuse x other.0 h)))
