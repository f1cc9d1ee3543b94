-- The table of rows over the held bus, the fetch of an instruction, and the attempt.
use Rattle.std.proofs.Common.{◌≡◌, ℕ, zero, suc, ◌+◌, ◌*◌, ◌%◌, ◌^◌, ◌<◌, ◌==◌, Bool, true, false, List, [], ◌∷◌, ◌++◌, arith, refl, sym, subst, ◌∙◌, inl, inr, Ok, Err}
use Rattle.mb_port.specs.Routine.{Routine, Return, run, either}
use Rattle.mb_port.specs.declared.types.Space.{Space}
use Rattle.mb_instr.specs.declared.instruction.Instr.{Instr}
use Rattle.mb_instr.specs.declared.instruction.Instr.TheVariants as instr
use Rattle.mb_instr.specs.declared.instruction.Move.{Move}
use Rattle.mb_instr.specs.declared.instruction.Move.TheVariants as move
use Rattle.mb_instr.specs.declared.instruction.Arith.{Arith}
use Rattle.mb_instr.specs.declared.instruction.Arith.TheVariants as arithmetic
use Rattle.mb_instr.specs.declared.instruction.Flow.{Flow}
use Rattle.mb_instr.specs.declared.instruction.Flow.TheVariants as flow
use Rattle.mb_instr.specs.declared.registers.Plain.{Plain}
use Rattle.mb_decode.specs.declared.front.Decoded.{Decoded}
use Rattle.mb_decode.specs.declared.front.Decoded.TheVariants as decoded
use Rattle.mb_instr.proofs.Ranges.{long_range}
use Rattle.mb_instr.specs.Operands.{more}
use Rattle.mb_instr.specs.Sizes.{sign_extended}
use Rattle.mb_instr.specs.declared.size.Size.TheVariants.{Byte, Word, Long}
use Rattle.mb_instr.specs.declared.operand.Ea.TheVariants.{Dn, Post, Imm}
use Rattle.mb_alu.specs.declared.bitwise.LogicKind.TheVariants as logic
use Rattle.mb_alu.specs.Logic.{logic_of}
use Rattle.mb_ea.specs.Addresses.{sum, difference}
use Rattle.mb_instr.specs.Shapes.{operands_at}
use Rattle.mb_instr.specs.Rows.{move_row, arith_row, flow_row}
use Rattle.def_instructions.specs.Arithmetic.{added, subtracted, added_extended, subtracted_extended, address_moved, address_compared}
use Rattle.def_instructions.specs.Unary.{negated, negated_extended, complemented, tst_effect}
use Rattle.def_instructions.specs.Shifts.{shifted_by_one}
use Rattle.def_instructions.specs.Products.{multiply_word_of, divide_word_of, multiply_long_of, divide_long_of}
use Rattle.mb_ea.specs.Reading.{refused_in}
use Rattle.mb_instr.specs.Registers.{data_register}
use Rattle.mb_fields.specs.Decimals.{abcd_of, sbcd_of}
use Rattle.mb_fields.specs.Packing.{pack_of, unpk_of}
use Rattle.def_instructions.specs.Decimals.{negate_decimal_of}
use Rattle.mb_instr.specs.Opcodes.{word_of, IsOpcode}
use Rattle.mb_instr.specs.declared.opcode.Opcode.{Opcode}
use Rattle.mb_instr.specs.Shapes.{further}
use Rattle.mb_instr.specs.Rows.{row}
use Rattle.mb_instr.specs.Codes.{IsInstr, AreWords}
use Rattle.mb_instr.proofs.Words.{AreWords-head, AreWords-left, AreWords-right}
use Rattle.mb_decode.specs.Decodes.{decode_of}
use Rattle.mb_alu.specs.declared.width.Width.TheVariants as width
use Rattle.mb_alu.specs.declared.quotients.Divided.{Divided}
use Rattle.mb_alu.specs.declared.quotients.Divided.TheVariants.{Done, Overflow, ZeroDivide}
use Rattle.def_instructions.specs.Products.{divided_by_word, divided_by_long, width_in, dividend_of}
use Rattle.mb_alu.specs.Products.{div_of}
use Rattle.def_instructions.specs.Ends.{OtherEnd, Cut, Unread, Stop, Performed, restored, closed}
use Rattle.mb_writes.specs.declared.transfers.Movem.{Movem}
use Rattle.mb_writes.specs.Transfers.{movem_in}
use Rattle.def_instructions.specs.Moves.{movem_by}
use Rattle.def_processor.specs.Step.{long_of, movem_words}
use Rattle.def_instructions.specs.Rows.{perform_move_of, perform_arith_of, perform_flow_of, row_of, perform_of}
use Rattle.def_instructions.specs.Attempt.{Unfound, NoInstruction, Unfetched, found_none, FoundInstr, by_decoded, found_of, fetched_of, past, attempt_of}
use Rattle.mb_instr.specs.declared.counts.TheConstants.{MOST_WORDS}
use Rattle.mb_instr.specs.FurtherWords.{pair_word}
use Rattle.law_attempts.specs.Attempts.{NoOther}
use Rattle.law_tells.specs.Laws.{AreLongs, HasLongs, is_movem}
use Rattle.law_tells.proofs.Ranges.{formed, formed_behind_word, formed_behind_immediate}
use Rattle.def_guests.specs.Guests.{Guest}
use Rattle.def_guests.specs.Held.{held_bus}
use Rattle.law_held.specs.Sound.{Sound}
use Rattle.law_held.specs.Denied.{IsFound}
use Rattle.law_held.proofs.Rows.{fetches_go_on}
use Rattle.law_held.proofs.Names.{words_name}
use Rattle.law_leave.specs.Exits.{IsEnd}
use Rattle.law_leave.specs.Fits.{IsLong, EndFits, EndsFit}
use Rattle.law_leave.proofs.Fits.{IsAnswer, any, Answers, answers_then, answers_ok, answers_err, in_other_words, answers_failing, answers_choose, fetching_fits}
use Rattle.law_leave.proofs.FitParts.{ReadFits, StopFits, CutFits, IsFit, Row, row_done}
use Rattle.law_leave.proofs.FitRows.{move_fits, movea_fits, lea_fits, to_ccr_fits, from_ccr_fits, scc_fits, movem_fits, pea_fits, link_fits, unlk_fits}
use Rattle.law_leave.proofs.FitRows.{movep_fits, taking_fits, modifying_fits, combining_fits, comparing_fits, either_way_fits, chaining_fits, quick_fits}
use Rattle.law_leave.proofs.FitRows.{clr_fits, bit_row_fits, decimal_fits, digits_fits, field_row_fits, tas_fits, cas_fits, cas2_fits, branch_fits}
use Rattle.law_leave.proofs.FitRows.{dbcc_fits, jmp_fits, jsr_fits, rts_fits}
use Rattle.law_leave.proofs.FitRows.{rtd_fits, rtr_fits, trap_fits, trapcc_fits, trapv_fits, chk_fits, cmp2_fits, chk2_fits, move16_absolute_fits, move16_fits}

-- ---- divisions

module _ (i : Instr) where
  divided_word_fits : (n : ℕ) (d : Divided) (p : Plain) → IsFit p → IsAnswer any (CutFits i) (divided_by_word n d p)
  divided_word_fits n (Done quotient remainder ccr) p fit = tt
  divided_word_fits n (Overflow ccr) p fit = tt
  divided_word_fits n (ZeroDivide ccr) p fit = (tt, fit.1)

  divided_long_fits : (word : ℕ) (d : Divided) (p : Plain) → IsFit p → IsAnswer any (CutFits i) (divided_by_long word d p)
  divided_long_fits word (Done quotient remainder ccr) p fit = tt
  divided_long_fits word (Overflow ccr) p fit = tt
  divided_long_fits word (ZeroDivide ccr) p fit = (tt, fit.1)

  word_divided_fits : (signed : Bool) (n value : ℕ) (p : Plain) → IsFit p → IsAnswer any (CutFits i) (divide_word_of signed n value p)
  word_divided_fits signed n value p fit = divided_word_fits n (div_of signed width.Word value (data_register p n) p.ccr) p fit

  long_divided_fits : (word value : ℕ) (p : Plain) → IsFit p → IsAnswer any (CutFits i) (divide_long_of word value p)
  long_divided_fits word value p fit = divided_long_fits word (div_of (pair_word word).is_signed (width_in word) value (dividend_of word p) p.ccr) p fit

-- ---- a line a row

module _ (i : Instr) (space : Space) where
  perform_move_fits : (bytes : ℕ) (row : Move) (word_at : ℕ) (p : Plain) (g : Guest) → Sound bytes g → IsLong (movem_words i)
      → ((m : Movem) → is_movem row m → movem_in (movem_words i) ≡ m) → IsInstr (instr.Move row)
      → IsFit p → IsAnswer any (CutFits i) (run held_bus (perform_move_of row word_at space p) g).0
  perform_move_fits bytes (move.Move size destination source) word_at p g s words named is fit =
      (move_fits i space size destination source word_at p (formed size destination (AreWords-right (more size source) (more size destination) is.are_words))
      (formed size source (AreWords-left (more size source) (more size destination) is.are_words)) fit).are g
  perform_move_fits bytes (move.Moveq register immediate) word_at p g s words named is fit = tt
  perform_move_fits bytes (move.MovemLoad size ea mask) word_at p g s words named is fit =
      (movem_fits i space true size ea mask word_at p words (named (movem_by true size ea mask) refl) (formed_behind_word size ea mask is.are_words) fit).are g
  perform_move_fits bytes (move.MovemStore size ea mask) word_at p g s words named is fit =
      (movem_fits i space false size ea mask word_at p words (named (movem_by false size ea mask) refl)
      (formed_behind_word size ea mask is.are_words) fit).are g
  perform_move_fits bytes (move.Movea size register source) word_at p g s words named is fit =
      (movea_fits i space size register source word_at p (formed size source is.are_words) fit).are g
  perform_move_fits bytes (move.Lea register ea) word_at p g s words named is fit =
      (lea_fits i space register ea word_at p (formed Long ea is.are_words) fit).are g
  perform_move_fits bytes (move.Exg m kind n) word_at p g s words named is fit = tt
  perform_move_fits bytes (move.Swap register) word_at p g s words named is fit = tt
  perform_move_fits bytes (move.ToCcr ea) word_at p g s words named is fit = (to_ccr_fits i space ea word_at p (formed Word ea is.are_words) fit).are g
  perform_move_fits bytes (move.FromCcr ea) word_at p g s words named is fit = (from_ccr_fits i space ea word_at p (formed Word ea is.are_words) fit).are g
  perform_move_fits bytes (move.Scc condition ea) word_at p g s words named is fit =
      (scc_fits i space condition ea word_at p (formed Byte ea is.are_words) fit).are g
  perform_move_fits bytes (move.Pea ea) word_at p g s words named is fit = (pea_fits i space ea word_at p (formed Long ea is.are_words) fit).are g
  perform_move_fits bytes (move.LinkW register displacement) word_at p g s words named is fit =
      (link_fits i space register (sign_extended Word displacement) p fit).are g
  perform_move_fits bytes (move.LinkL register displacement) word_at p g s words named is fit = (link_fits i space register displacement p fit).are g
  perform_move_fits bytes (move.Unlk register) word_at p g s words named is fit = (unlk_fits i space register p fit).are g
  perform_move_fits bytes (move.Movep register is_store size address displacement) word_at p g s words named is fit =
      (movep_fits i space register is_store size address displacement p fit).are g
  perform_move_fits bytes (move.Move16Abs kind register address) word_at p g s words named is fit =
      move16_absolute_fits i space bytes kind register address p g s (long_range address is.are_words) fit
  perform_move_fits bytes (move.Move16Post m word) word_at p g s words named is fit = move16_fits i space bytes m word p g s fit

  perform_arith_fits : (row : Arith) (word_at : ℕ) (p : Plain) → IsInstr (instr.Arith row) → AreLongs p.d → IsFit p
      → Row i (perform_arith_of row word_at space p)
  perform_arith_fits (arithmetic.Add register to_memory size ea) word_at p is words fit =
      either_way_fits i space (added size) register to_memory size ea word_at p (formed size ea is.are_words) fit
  perform_arith_fits (arithmetic.Sub register to_memory size ea) word_at p is words fit =
      either_way_fits i space (subtracted size) register to_memory size ea word_at p (formed size ea is.are_words) fit
  perform_arith_fits (arithmetic.And register to_memory size ea) word_at p is words fit =
      either_way_fits i space (logic_of logic.And size) register to_memory size ea word_at p (formed size ea is.are_words) fit
  perform_arith_fits (arithmetic.Or register to_memory size ea) word_at p is words fit =
      either_way_fits i space (logic_of logic.Or size) register to_memory size ea word_at p (formed size ea is.are_words) fit
  perform_arith_fits (arithmetic.Eor register size ea) word_at p is words fit =
      either_way_fits i space (logic_of logic.Eor size) register true size ea word_at p (formed size ea is.are_words) fit
  perform_arith_fits (arithmetic.Addi size ea immediate) word_at p is words fit =
      combining_fits i space (added size) size (Imm immediate) ea word_at p tt (formed_behind_immediate size ea immediate is.are_words) fit
  perform_arith_fits (arithmetic.Subi size ea immediate) word_at p is words fit =
      combining_fits i space (subtracted size) size (Imm immediate) ea word_at p tt (formed_behind_immediate size ea immediate is.are_words) fit
  perform_arith_fits (arithmetic.Andi size ea immediate) word_at p is words fit =
      combining_fits i space (logic_of logic.And size) size (Imm immediate) ea word_at p tt (formed_behind_immediate size ea immediate is.are_words) fit
  perform_arith_fits (arithmetic.Ori size ea immediate) word_at p is words fit =
      combining_fits i space (logic_of logic.Or size) size (Imm immediate) ea word_at p tt (formed_behind_immediate size ea immediate is.are_words) fit
  perform_arith_fits (arithmetic.Eori size ea immediate) word_at p is words fit =
      combining_fits i space (logic_of logic.Eor size) size (Imm immediate) ea word_at p tt (formed_behind_immediate size ea immediate is.are_words) fit
  perform_arith_fits (arithmetic.Addx destination size in_memory source) word_at p is words fit =
      chaining_fits i space (added_extended size) size in_memory source destination word_at p fit
  perform_arith_fits (arithmetic.Subx destination size in_memory source) word_at p is words fit =
      chaining_fits i space (subtracted_extended size) size in_memory source destination word_at p fit
  perform_arith_fits (arithmetic.Cmp register size ea) word_at p is words fit =
      comparing_fits i space size ea (Dn register) word_at p (formed size ea is.are_words) tt fit
  perform_arith_fits (arithmetic.Cmpi size ea immediate) word_at p is words fit =
      comparing_fits i space size (Imm immediate) ea word_at p tt (formed_behind_immediate size ea immediate is.are_words) fit
  perform_arith_fits (arithmetic.Cmpm destination size source) word_at p is words fit =
      comparing_fits i space size (Post source) (Post destination) word_at p tt tt fit
  perform_arith_fits (arithmetic.Addq quick size ea) word_at p is words fit =
      quick_fits i space (added size quick) (λ address. sum address quick) size ea word_at p (formed size ea is.are_words) fit
  perform_arith_fits (arithmetic.Subq quick size ea) word_at p is words fit =
      quick_fits i space (subtracted size quick) (λ address. difference address quick) size ea word_at p (formed size ea is.are_words) fit
  perform_arith_fits (arithmetic.Adda register size ea) word_at p is words fit =
      taking_fits i space (address_moved sum register size) size ea word_at p (formed size ea is.are_words) fit (λ value q f. tt)
  perform_arith_fits (arithmetic.Suba register size ea) word_at p is words fit =
      taking_fits i space (address_moved difference register size) size ea word_at p (formed size ea is.are_words) fit (λ value q f. tt)
  perform_arith_fits (arithmetic.Cmpa register size ea) word_at p is words fit =
      taking_fits i space (address_compared register size) size ea word_at p (formed size ea is.are_words) fit (λ value q f. tt)
  perform_arith_fits (arithmetic.Neg size ea) word_at p is words fit =
      modifying_fits i space (negated size) size ea word_at p (formed size ea is.are_words) fit
  perform_arith_fits (arithmetic.Negx size ea) word_at p is words fit =
      modifying_fits i space (negated_extended size) size ea word_at p (formed size ea is.are_words) fit
  perform_arith_fits (arithmetic.Not size ea) word_at p is words fit =
      modifying_fits i space (complemented size) size ea word_at p (formed size ea is.are_words) fit
  perform_arith_fits (arithmetic.Clr size ea) word_at p is words fit = clr_fits i space size ea word_at p (formed size ea is.are_words) fit
  perform_arith_fits (arithmetic.Tst size ea) word_at p is words fit =
      taking_fits i space (tst_effect size) size ea word_at p (formed size ea is.are_words) fit (λ value q f. tt)
  perform_arith_fits (arithmetic.ExtW register) word_at p is words fit = row_done i _
  perform_arith_fits (arithmetic.ExtL register) word_at p is words fit = row_done i _
  perform_arith_fits (arithmetic.ExtbL register) word_at p is words fit = row_done i _
  perform_arith_fits (arithmetic.OriCcr word) word_at p is words fit = row_done i _
  perform_arith_fits (arithmetic.AndiCcr word) word_at p is words fit = row_done i _
  perform_arith_fits (arithmetic.EoriCcr word) word_at p is words fit = row_done i _
  perform_arith_fits (arithmetic.ShiftReg count is_left size by_register kind register) word_at p is words fit = row_done i _
  perform_arith_fits (arithmetic.ShiftMem kind is_left ea) word_at p is words fit =
      modifying_fits i space (shifted_by_one kind is_left) Word ea word_at p (formed Word ea is.are_words) fit
  perform_arith_fits (arithmetic.MulW register signed ea) word_at p is words fit =
      taking_fits i space (multiply_word_of signed register) Word ea word_at p (formed Word ea is.are_words) fit (λ value q f. tt)
  perform_arith_fits (arithmetic.MulL ea word) word_at p is words fit =
      taking_fits i space (multiply_long_of word) Long ea word_at p (formed_behind_word Long ea word is.are_words) fit (λ value q f. tt)
  perform_arith_fits (arithmetic.DivW register signed ea) word_at p is words fit =
      taking_fits i space (divide_word_of signed register) Word ea word_at p (formed Word ea is.are_words) fit
      (λ value q f. word_divided_fits i signed register value q f)
  perform_arith_fits (arithmetic.DivL ea word) word_at p is words fit =
      taking_fits i space (divide_long_of word) Long ea word_at p (formed_behind_word Long ea word is.are_words) fit
      (λ value q f. long_divided_fits i word value q f)
  perform_arith_fits (arithmetic.BitReg register kind ea) word_at p is words fit =
      bit_row_fits i space kind (data_register p register) ea word_at p (formed Byte ea is.are_words) fit
  perform_arith_fits (arithmetic.BitImm kind ea word) word_at p is words fit =
      bit_row_fits i space kind word ea word_at p (formed_behind_word Byte ea word is.are_words) fit
  perform_arith_fits (arithmetic.Nbcd ea) word_at p is words fit = modifying_fits i space negate_decimal_of Byte ea word_at p (formed Byte ea is.are_words) fit
  perform_arith_fits (arithmetic.Abcd to in_memory from) word_at p is words fit = decimal_fits i space abcd_of to in_memory from word_at p fit
  perform_arith_fits (arithmetic.Sbcd to in_memory from) word_at p is words fit = decimal_fits i space sbcd_of to in_memory from word_at p fit
  perform_arith_fits (arithmetic.Pack to in_memory from word) word_at p is words fit =
      digits_fits i space pack_of Word Byte to in_memory from word word_at p fit
  perform_arith_fits (arithmetic.Unpk to in_memory from word) word_at p is words fit =
      digits_fits i space unpk_of Byte Word to in_memory from word word_at p fit
  perform_arith_fits (arithmetic.Field kind ea word) word_at p is words fit =
      field_row_fits i space kind ea word word_at p (formed_behind_word Long ea word is.are_words) fit
  perform_arith_fits (arithmetic.Tas ea) word_at p is words fit = tas_fits i space ea word_at p (formed Byte ea is.are_words) fit
  perform_arith_fits (arithmetic.Cas size ea word) word_at p is words fit =
      cas_fits i space size ea word word_at p (formed_behind_word size ea word is.are_words) fit
  perform_arith_fits (arithmetic.Cas2 size first second) word_at p is words fit = cas2_fits i space size first second p words fit.0
  perform_arith_fits (arithmetic.Cmp2 size ea word) word_at p is words fit =
      cmp2_fits i space size ea word word_at p (formed_behind_word size ea word is.are_words) fit

  perform_flow_fits : (row : Flow) (word_at : ℕ) (p : Plain) → IsInstr (instr.Flow row) → IsFit p → Row i (perform_flow_of row word_at space p)
  perform_flow_fits flow.Nop word_at p is fit = row_done i _
  perform_flow_fits (flow.Bcc condition displacement) word_at p is fit = branch_fits i space condition displacement word_at p fit
  perform_flow_fits (flow.Dbcc condition register displacement) word_at p is fit = dbcc_fits i space condition register displacement word_at p
  perform_flow_fits (flow.Jmp ea) word_at p is fit = jmp_fits i space ea word_at p (formed Long ea is.are_words) fit
  perform_flow_fits (flow.Jsr ea) word_at p is fit = jsr_fits i space ea word_at p (formed Long ea is.are_words) fit
  perform_flow_fits flow.Rts word_at p is fit = rts_fits i space p fit
  perform_flow_fits (flow.Rtd displacement) word_at p is fit = rtd_fits i space displacement p fit
  perform_flow_fits flow.Rtr word_at p is fit = rtr_fits i space p fit
  perform_flow_fits (flow.Trap number) word_at p is fit = trap_fits i space number p fit
  perform_flow_fits (flow.Trapcc condition operand) word_at p is fit = trapcc_fits i space condition p fit
  perform_flow_fits flow.Trapv word_at p is fit = trapv_fits i space p fit
  perform_flow_fits (flow.Chk register size ea) word_at p is fit = chk_fits i space register size ea word_at p (formed size ea is.are_words) fit
  perform_flow_fits (flow.Chk2 size ea word) word_at p is fit = chk2_fits i space size ea word word_at p (formed_behind_word size ea word is.are_words) fit

-- ---- an instruction

words_long : (first : ℕ) (others : List ℕ) → first < 2 ^ 16 → AreWords others → IsLong (long_of (first ∷ others))
words_long first [] lt are = omega arith
words_long first (second ∷ others) lt are = let h = AreWords-head second others are in omega arith

opcode_word : (o : Opcode) → IsOpcode o → word_of o < 2 ^ 16
opcode_word o is =
    let a = is.line in let b = is.upper in let c = is.bit in let d = is.size in let e = is.mode in let f = is.lower in omega arith

movem_long : (i : Instr) → IsInstr i → IsLong (movem_words i)
movem_long i is = words_long (word_of (row i).opcode) (further (row i)) (opcode_word (row i).opcode is.fields) is.are_words

row_fits : (i : Instr) (space : Space) (size at : ℕ) (p : Plain) (g : Guest) → Sound size g → IsInstr i → AreLongs p.d → IsFit p
    → IsAnswer any (CutFits i) (run held_bus (row_of i at space p) g).0
row_fits (instr.Move i) space size at p g s is words fit =
    perform_move_fits (instr.Move i) space size i (operands_at (move_row i) at) p g s (movem_long (instr.Move i) is)
    (λ m moved. words_name (instr.Move i) m is moved) is fit
row_fits (instr.Arith i) space size at p g s is words fit = (perform_arith_fits (instr.Arith i) space i (operands_at (arith_row i) at) p is words fit).are g
row_fits (instr.Flow i) space size at p g s is words fit = (perform_flow_fits (instr.Flow i) space i (operands_at (flow_row i) at) p is fit).are g
row_fits (instr.System i) space size at p g s is words fit = (tt, fit.1)

perform_fits : (i : Instr) (space : Space) (size at : ℕ) (p : Plain) (g : Guest) → Sound size g → IsInstr i → AreLongs p.d → IsFit p
    → IsAnswer any (StopFits i) (run held_bus (perform_of i at space p) g).0
perform_fits i space size at p g s is words fit =
    in_other_words any (CutFits i) (StopFits i) (restored p) (run held_bus (row_of i at space p) g).0 (row_fits i space size at p g s is words fit) by_cut
  where
    by_cut : (c : Cut OtherEnd) → CutFits i c → StopFits i (restored p c)
    by_cut (Unread refused) h = (h, fit.1)
    by_cut (Stop stop) h = h

-- ---- a fetch

UnfoundFits : Unfound → Type 0
UnfoundFits (NoInstruction vector) = Unit {0}
UnfoundFits (Unfetched refused) = ReadFits refused

judged_fits : (d : Decoded) (m : Routine FoundInstr) → Answers any UnfoundFits m → Answers any UnfoundFits (by_decoded d m)
unfolding UnfoundFits
judged_fits decoded.More m h = h
judged_fits (decoded.Whole i n) m h = answers_ok _ tt
judged_fits _ m h = answers_err _ tt

found_fits : (space : Space) (n at : ℕ) (words : List ℕ) → IsLong at → Answers any UnfoundFits (found_of n space at words)
unfolding found_of UnfoundFits
found_fits space zero at words h = answers_err _ tt
found_fits space (suc n) at words h =
    answers_then (answers_failing (λ fault. Unfetched (refused_in at fault)) (fetching_fits space at h) (λ e k. (k, h))) (λ word u.
    judged_fits (decode_of (words ++ word ∷ [])) _ (found_fits space n ((at + 2) % 2 ^ 32) (words ++ word ∷ []) (omega arith)))

fetched_fits : (space : Space) (pc : ℕ) → IsLong pc → Answers any UnfoundFits (fetched_of space pc)
unfolding UnfoundFits
fetched_fits space pc h = answers_choose (pc % 2 == 1) (answers_err _ tt) (found_fits space MOST_WORDS pc [] h)

-- ---- an attempt

module _ (space : Space) (size : ℕ) (p : Plain) (g : Guest) (i : Instr) (longs : HasLongs p) (counter : IsLong p.pc) (sound : Sound size g) where
  -- by what was fetched, from the guest as it is
  by_found : (r : FoundInstr) (h : Guest) → h ≡ g → IsAnswer any UnfoundFits r → ((n : ℕ) (k : Instr) → r ≡ Ok (k, n) → IsInstr k) → NoOther i r
      → IsAnswer any (StopFits i)
      (run held_bus (either r (λ unfound. Return (found_none unfound p)) (λ found. perform_of found.0 p.pc space (past found.1 p))) h).0
  unfolding UnfoundFits
  by_found (Ok (k, n)) h same fits is other =
      subst (λ (j : Instr). IsAnswer any (StopFits j) (run held_bus (perform_of k p.pc space (past n p)) h).0) other
      (subst (λ (q : Guest). IsAnswer any (StopFits k) (run held_bus (perform_of k p.pc space (past n p)) q).0) (sym same)
      (perform_fits k space size p.pc (past n p) g sound (is n k refl) longs.0 (longs.1, (let e : (p.pc + 2 * n) % 2 ^ 32 < 2 ^ 32 = omega arith in e))))
  by_found (Err (NoInstruction vector)) h same fits is other = (tt, counter)
  by_found (Err (Unfetched refused)) h same fits is other = (fits, counter)

  found_instr : (r : FoundInstr) → IsFound r → (n : ℕ) (k : Instr) → r ≡ Ok (k, n) → IsInstr k
  found_instr r is n k e = subst IsFound e is

  attempt_fits : NoOther i (run held_bus (fetched_of space p.pc) g).0 → IsAnswer any (StopFits i) (run held_bus (attempt_of space p) g).0
  attempt_fits other =
      let found = run held_bus (fetched_of space p.pc) g in
      let goes = fetches_go_on space size p.pc g counter sound in
      by_found found.0 found.1 goes.0 ((fetched_fits space p.pc counter).are g)
      (elim goes.1 [
        | inl both ↦ found_instr found.0 both.1
        | inr (refused, is) ↦ λ n k e. absurd (let a : FoundInstr = Err (Unfetched refused) in let b : FoundInstr = Ok (k, n) in let c : a ≡ b = sym is ∙ e in
            let z : ⊥ = cc in z)
      ]) other

by_closed : (i : Instr) (r : Performed) → IsAnswer any (StopFits i) r → IsEnd (closed r).0 → EndFits i (closed r).0 × IsLong (closed r).1.pc
by_closed i (Ok done) h end = absurd end
by_closed i (Err stop) h end = h

pub ends_fit : EndsFit
ends_fit space size p g i longs counter sound other end =
    by_closed i (run held_bus (attempt_of space p) g).0 (attempt_fits space size p g i longs counter sound other) end
