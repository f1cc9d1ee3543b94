-- The table of rows: what each instruction that is not privileged does.
use Rattle.std.specs.Prelude.{ℕ, true, false}
use Rattle.mb_port.specs.Routine.{Routine, Return}
use Rattle.mb_port.specs.declared.types.Space.{Space}
use Rattle.mb_instr.specs.declared.size.Size.TheVariants.{Byte, Word, Long}
use Rattle.mb_instr.specs.declared.instruction.Instr.{Instr}
use Rattle.mb_instr.specs.declared.instruction.Instr.TheVariants as instr
use Rattle.mb_instr.specs.declared.instruction.Move.{Move}
use Rattle.mb_instr.specs.declared.instruction.Move.TheVariants as move
use Rattle.mb_instr.specs.declared.instruction.Arith.{Arith}
use Rattle.mb_instr.specs.declared.instruction.Arith.TheVariants as arith
use Rattle.mb_instr.specs.declared.instruction.Flow.{Flow}
use Rattle.mb_instr.specs.declared.instruction.Flow.TheVariants as flow
use Rattle.mb_instr.specs.declared.registers.Plain.{Plain}
use Rattle.mb_instr.specs.Registers.{data_register}
use Rattle.mb_instr.specs.declared.operand.Ea.TheVariants.{Dn, Post, Imm}
use Rattle.mb_instr.specs.declared.vectors.TheConstants.{PRIVILEGED}
use Rattle.mb_alu.specs.declared.bitwise.LogicKind.TheVariants as logic
use Rattle.mb_alu.specs.Logic.{logic_of}
use Rattle.mb_ea.specs.Addresses.{sum, difference}
use Rattle.mb_fields.specs.Decimals.{abcd_of, sbcd_of}
use Rattle.mb_fields.specs.Packing.{pack_of, unpk_of}
use Rattle.mb_writes.specs.declared.ends.Ended.{Ended}
use Rattle.mb_writes.specs.declared.ends.Ended.TheVariants as ended
use Rattle.def_instructions.specs.Ends.{Performed, Rowed, carried, ended_otherwise, restoring}
use Rattle.mb_instr.specs.Sizes.{sign_extended}
use Rattle.def_instructions.specs.Moves.{moveq_of, move_operand_of, movea_of, lea_of, exg_of, swap_of, movem_of, move_to_ccr_of}
use Rattle.def_instructions.specs.Moves.{move_from_ccr_of, scc_of}
use Rattle.def_instructions.specs.Stack.{pea_of, link_of, unlk_of}
use Rattle.def_instructions.specs.Peripheral.{movep_of}
use Rattle.def_instructions.specs.Lines.{move16_absolute_of, move16_post_of}
use Rattle.mb_instr.specs.Shapes.{operands_at}
use Rattle.mb_instr.specs.Rows.{move_row, arith_row, flow_row}
use Rattle.def_instructions.specs.Modifying.{modify_of}
use Rattle.def_instructions.specs.Arithmetic.{added, subtracted, added_extended, subtracted_extended, combine_of, compare_pair_of}
use Rattle.def_instructions.specs.Arithmetic.{combine_either_way_of, chain_of, combine_quick_of, take_of, address_moved, address_compared}
use Rattle.def_instructions.specs.Unary.{negated, negated_extended, complemented, clr_of, tst_effect, ext_of, combine_with_ccr_of}
use Rattle.def_instructions.specs.Shifts.{shift_count_of, shift_register_of, shifted_by_one}
use Rattle.def_instructions.specs.Products.{multiply_word_of, divide_word_of, multiply_long_of, divide_long_of}
use Rattle.def_instructions.specs.Bits.{bit_row_of}
use Rattle.def_instructions.specs.Decimals.{negate_decimal_of, decimal_of, repack_of}
use Rattle.def_instructions.specs.BitFields.{bit_field_of}
use Rattle.def_instructions.specs.Locked.{tas_of, cas_of, cas2_of}
use Rattle.def_instructions.specs.Flow.{branch_of, dbcc_of, jmp_of, jsr_of}
use Rattle.def_instructions.specs.Returns.{rts_of, rtd_of, rtr_of}
use Rattle.def_instructions.specs.Traps.{trap_of, trapcc_of, trapv_of}
use Rattle.def_instructions.specs.Bounds.{chk_of, chk2_of, cmp2_of}

-- the vector of a privilege violation
abbrev pub privileged : Ended
privileged = ended.Refused PRIVILEGED

-- What moves.
abbrev pub perform_move_of : Move → ℕ → Space → Plain → Routine Rowed
perform_move_of (move.Move size destination source) word_at space p =
    move_operand_of size destination source word_at space p
perform_move_of (move.Moveq register immediate) word_at space p = Return (carried (moveq_of register immediate p))
perform_move_of (move.MovemLoad size ea mask) word_at space p = movem_of true size ea mask word_at space p
perform_move_of (move.MovemStore size ea mask) word_at space p = movem_of false size ea mask word_at space p
perform_move_of (move.Movea size register source) word_at space p = movea_of size register source word_at space p
perform_move_of (move.Lea register ea) word_at space p = lea_of register ea word_at space p
perform_move_of (move.Exg x kind y) word_at space p = Return (carried (exg_of kind x y p))
perform_move_of (move.Swap register) word_at space p = Return (carried (swap_of register p))
perform_move_of (move.ToCcr ea) word_at space p = move_to_ccr_of ea word_at space p
perform_move_of (move.FromCcr ea) word_at space p = move_from_ccr_of ea word_at space p
perform_move_of (move.Scc condition ea) word_at space p = scc_of condition ea word_at space p
perform_move_of (move.Pea ea) word_at space p = pea_of ea word_at space p
perform_move_of (move.LinkW register displacement) word_at space p =
    link_of register (sign_extended Word displacement) space p
perform_move_of (move.LinkL register displacement) word_at space p = link_of register displacement space p
perform_move_of (move.Unlk register) word_at space p = unlk_of register space p
perform_move_of (move.Movep register is_store size address displacement) word_at space p =
    movep_of register is_store size address displacement space p
perform_move_of (move.Move16Abs kind register address) word_at space p =
    move16_absolute_of kind register address space p
perform_move_of (move.Move16Post x word) word_at space p = move16_post_of x word space p

-- What computes.
abbrev pub perform_arith_of : Arith → ℕ → Space → Plain → Routine Rowed
perform_arith_of (arith.Add register to_memory size ea) word_at space p =
    combine_either_way_of (added size) register to_memory size ea word_at space p
perform_arith_of (arith.Sub register to_memory size ea) word_at space p =
    combine_either_way_of (subtracted size) register to_memory size ea word_at space p
perform_arith_of (arith.And register to_memory size ea) word_at space p =
    combine_either_way_of (logic_of logic.And size) register to_memory size ea word_at space p
perform_arith_of (arith.Or register to_memory size ea) word_at space p =
    combine_either_way_of (logic_of logic.Or size) register to_memory size ea word_at space p
perform_arith_of (arith.Eor register size ea) word_at space p =
    combine_either_way_of (logic_of logic.Eor size) register true size ea word_at space p
perform_arith_of (arith.Addi size ea immediate) word_at space p =
    combine_of (added size) size (Imm immediate) ea word_at space p
perform_arith_of (arith.Subi size ea immediate) word_at space p =
    combine_of (subtracted size) size (Imm immediate) ea word_at space p
perform_arith_of (arith.Andi size ea immediate) word_at space p =
    combine_of (logic_of logic.And size) size (Imm immediate) ea word_at space p
perform_arith_of (arith.Ori size ea immediate) word_at space p =
    combine_of (logic_of logic.Or size) size (Imm immediate) ea word_at space p
perform_arith_of (arith.Eori size ea immediate) word_at space p =
    combine_of (logic_of logic.Eor size) size (Imm immediate) ea word_at space p
perform_arith_of (arith.Addx destination size in_memory source) word_at space p =
    chain_of (added_extended size) size in_memory source destination word_at space p
perform_arith_of (arith.Subx destination size in_memory source) word_at space p =
    chain_of (subtracted_extended size) size in_memory source destination word_at space p
perform_arith_of (arith.Cmp register size ea) word_at space p = compare_pair_of size ea (Dn register) word_at space p
perform_arith_of (arith.Cmpi size ea immediate) word_at space p =
    compare_pair_of size (Imm immediate) ea word_at space p
perform_arith_of (arith.Cmpm destination size source) word_at space p =
    compare_pair_of size (Post source) (Post destination) word_at space p
perform_arith_of (arith.Addq quick size ea) word_at space p =
    combine_quick_of (added size quick) (λ address. sum address quick) size ea word_at space p
perform_arith_of (arith.Subq quick size ea) word_at space p =
    combine_quick_of (subtracted size quick) (λ address. difference address quick) size ea word_at space p
perform_arith_of (arith.Adda register size ea) word_at space p =
    take_of (address_moved sum register size) size ea word_at space p
perform_arith_of (arith.Suba register size ea) word_at space p =
    take_of (address_moved difference register size) size ea word_at space p
perform_arith_of (arith.Cmpa register size ea) word_at space p =
    take_of (address_compared register size) size ea word_at space p
perform_arith_of (arith.Neg size ea) word_at space p = modify_of (negated size) size ea word_at space p
perform_arith_of (arith.Negx size ea) word_at space p = modify_of (negated_extended size) size ea word_at space p
perform_arith_of (arith.Not size ea) word_at space p = modify_of (complemented size) size ea word_at space p
perform_arith_of (arith.Clr size ea) word_at space p = clr_of size ea word_at space p
perform_arith_of (arith.Tst size ea) word_at space p = take_of (tst_effect size) size ea word_at space p
perform_arith_of (arith.ExtW register) word_at space p = Return (carried (ext_of Byte Word register p))
perform_arith_of (arith.ExtL register) word_at space p = Return (carried (ext_of Word Long register p))
perform_arith_of (arith.ExtbL register) word_at space p = Return (carried (ext_of Byte Long register p))
perform_arith_of (arith.OriCcr word) word_at space p = Return (carried (combine_with_ccr_of logic.Or word p))
perform_arith_of (arith.AndiCcr word) word_at space p = Return (carried (combine_with_ccr_of logic.And word p))
perform_arith_of (arith.EoriCcr word) word_at space p = Return (carried (combine_with_ccr_of logic.Eor word p))
perform_arith_of (arith.ShiftReg count is_left size by_register kind register) word_at space p =
    Return (carried (shift_register_of kind is_left size (shift_count_of by_register count p) register p))
perform_arith_of (arith.ShiftMem kind is_left ea) word_at space p =
    modify_of (shifted_by_one kind is_left) Word ea word_at space p
perform_arith_of (arith.MulW register signed ea) word_at space p =
    take_of (multiply_word_of signed register) Word ea word_at space p
perform_arith_of (arith.MulL ea word) word_at space p =
    take_of (multiply_long_of word) Long ea word_at space p
perform_arith_of (arith.DivW register signed ea) word_at space p =
    take_of (divide_word_of signed register) Word ea word_at space p
perform_arith_of (arith.DivL ea word) word_at space p = take_of (divide_long_of word) Long ea word_at space p
perform_arith_of (arith.BitReg register kind ea) word_at space p =
    bit_row_of kind (data_register p register) ea word_at space p
perform_arith_of (arith.BitImm kind ea word) word_at space p = bit_row_of kind word ea word_at space p
perform_arith_of (arith.Nbcd ea) word_at space p = modify_of negate_decimal_of Byte ea word_at space p
perform_arith_of (arith.Abcd x in_memory y) word_at space p = decimal_of abcd_of x in_memory y word_at space p
perform_arith_of (arith.Sbcd x in_memory y) word_at space p = decimal_of sbcd_of x in_memory y word_at space p
perform_arith_of (arith.Pack x in_memory y word) word_at space p =
    repack_of pack_of Word Byte x in_memory y word word_at space p
perform_arith_of (arith.Unpk x in_memory y word) word_at space p =
    repack_of unpk_of Byte Word x in_memory y word word_at space p
perform_arith_of (arith.Field kind ea word) word_at space p = bit_field_of kind ea word word_at space p
perform_arith_of (arith.Tas ea) word_at space p = tas_of ea word_at space p
perform_arith_of (arith.Cas size ea word) word_at space p = cas_of size ea word word_at space p
perform_arith_of (arith.Cas2 size first second) word_at space p = cas2_of size first second space p
perform_arith_of (arith.Cmp2 size ea word) word_at space p = cmp2_of size ea word word_at space p

-- What goes elsewhere.
abbrev pub perform_flow_of : Flow → ℕ → Space → Plain → Routine Rowed
perform_flow_of flow.Nop word_at space p = Return (carried p)
perform_flow_of (flow.Bcc condition displacement) word_at space p = branch_of condition displacement word_at space p
perform_flow_of (flow.Dbcc condition register displacement) word_at space p =
    Return (dbcc_of condition register displacement word_at p)
perform_flow_of (flow.Jmp ea) word_at space p = jmp_of ea word_at space p
perform_flow_of (flow.Jsr ea) word_at space p = jsr_of ea word_at space p
perform_flow_of flow.Rts word_at space p = rts_of space p
perform_flow_of (flow.Rtd displacement) word_at space p = rtd_of displacement space p
perform_flow_of flow.Rtr word_at space p = rtr_of space p
perform_flow_of (flow.Trap number) word_at space p = Return (trap_of number p)
perform_flow_of (flow.Trapcc condition operand) word_at space p = Return (trapcc_of condition p)
perform_flow_of flow.Trapv word_at space p = Return (trapv_of p)
perform_flow_of (flow.Chk register size ea) word_at space p = chk_of register size ea word_at space p
perform_flow_of (flow.Chk2 size ea word) word_at space p = chk2_of size ea word word_at space p

-- What an instruction's row does, by its family. A row knows no more of the instruction's address than where the words
-- of its operands begin. A privileged instruction is not carried out here.
abbrev pub row_of : Instr → ℕ → Space → Plain → Routine Rowed
row_of (instr.Move i) at space p = perform_move_of i (operands_at (move_row i) at) space p
row_of (instr.Arith i) at space p = perform_arith_of i (operands_at (arith_row i) at) space p
row_of (instr.Flow i) at space p = perform_flow_of i (operands_at (flow_row i) at) space p
row_of (instr.System i) at space p = Return (ended_otherwise privileged p)

-- What an instruction does, all accesses in this space. `at` is its address; PC is past it. A part which reads and is
-- refused leaves the registers, whatever the row.
abbrev pub perform_of : Instr → ℕ → Space → Plain → Routine Performed
perform_of i at space p = restoring p (row_of i at space p)
