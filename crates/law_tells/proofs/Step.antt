-- Each row, the fetch of an instruction, and the attempt.
use Rattle.std.specs.Prelude.{◌≡◌, refl, true, false, ℕ, zero, suc, ◌+◌, ◌%◌, ◌^◌, ◌<◌, ◌==◌, Ok, List, [], ◌∷◌, ◌++◌}
use Rattle.std.proofs.Common.{ap, arith}
use Rattle.std.proofs.lemmas.Bool.Decides.{nat_tests}
use Rattle.mb_port.specs.Routine.{Routine, Fetch, fetch, failing, either, run, Then}
use Rattle.mb_port.specs.declared.types.Space.{Space}
use Rattle.law_routines.specs.Refusal.{Fact}
use Rattle.law_routines.proofs.Told.{tells_ok, tells_err, tells_bind, tells_failing, tells_caught, tells_choose, tells_weaker, tells_from, tells_fetch}
use Rattle.mb_instr.specs.declared.instruction.Instr.{Instr}
use Rattle.mb_instr.specs.declared.instruction.Instr.TheVariants as instr
use Rattle.mb_instr.specs.declared.instruction.Move.{Move}
use Rattle.mb_instr.specs.declared.instruction.Move.TheVariants as move
use Rattle.mb_instr.specs.declared.instruction.Arith.{Arith}
use Rattle.mb_instr.specs.declared.instruction.Arith.TheVariants as arithmetic
use Rattle.mb_instr.specs.declared.instruction.Flow.{Flow}
use Rattle.mb_instr.specs.declared.instruction.Flow.TheVariants as flow
use Rattle.mb_instr.specs.declared.registers.Plain.{Plain}
use Rattle.mb_decode.specs.declared.front.Decoded.{Decoded}
use Rattle.mb_decode.specs.declared.front.Decoded.TheVariants as decoded
use Rattle.mb_decode.specs.Decodes.{decode_of, IfWhole}
use Rattle.mb_decode.proofs.Table as table
use Rattle.mb_instr.specs.Codes.{IsInstr, AreWords}
use Rattle.mb_instr.proofs.Words.{AreWords-nil, AreWords-cons, AreWords-append, AreWords-left, AreWords-right}
use Rattle.mb_instr.proofs.Ranges.{long_range}
use Rattle.mb_instr.specs.Operands.{more}
use Rattle.mb_instr.specs.Sizes.{sign_extended}
use Rattle.mb_instr.specs.declared.size.Size.TheVariants.{Byte, Word, Long}
use Rattle.mb_instr.specs.declared.operand.Ea.TheVariants.{Dn, Post, Imm}
use Rattle.mb_alu.specs.declared.bitwise.LogicKind.TheVariants as logic
use Rattle.mb_alu.specs.Logic.{logic_of}
use Rattle.mb_ea.specs.Addresses.{sum, difference}
use Rattle.mb_instr.specs.Shapes.{operands_at}
use Rattle.mb_instr.specs.Rows.{move_row, arith_row, flow_row}
use Rattle.def_instructions.specs.Arithmetic.{added, subtracted, added_extended, subtracted_extended, address_moved, address_compared}
use Rattle.def_instructions.specs.Unary.{negated, negated_extended, complemented, tst_effect}
use Rattle.def_instructions.specs.Shifts.{shifted_by_one}
use Rattle.def_instructions.specs.Products.{multiply_word_of, divide_word_of, multiply_long_of, divide_long_of}
use Rattle.mb_ea.specs.Reading.{refused_in}
use Rattle.mb_writes.specs.declared.ends.Ended.{Ended}
use Rattle.mb_writes.specs.declared.ends.Ended.TheVariants as ended
use Rattle.mb_writes.specs.declared.transfers.Movem.{Movem}
use Rattle.def_instructions.specs.Ends.{Performed, restored}
use Rattle.def_instructions.specs.Rows.{perform_move_of, perform_arith_of, perform_flow_of, row_of, perform_of}
use Rattle.def_instructions.specs.Attempt.{Unfound, NoInstruction, Unfetched, end_without, FoundInstr, by_decoded, found_of, fetched_of, past, attempt_of}
use Rattle.mb_instr.specs.declared.counts.TheConstants.{MOST_WORDS}
use Rattle.law_tells.specs.Guarded.{Guarded, Guards, Goes, quiet}
use Rattle.law_tells.specs.Left.{Answered, LeftBy, Telling, Row, Attempt}
use Rattle.law_tells.specs.Laws.{AreLongs, HasLongs, is_movem, moves, moves_fetched}
use Rattle.law_tells.proofs.Ranges.{formed, formed_behind_word, formed_behind_immediate}
use Rattle.law_tells.proofs.Parts.{RowTells, knowing, row_done, row_ends}
use Rattle.law_tells.proofs.Moves.{move_tells, movea_tells, lea_tells, to_ccr_tells, from_ccr_tells, scc_tells}
use Rattle.law_tells.proofs.Stack.{pea_tells, link_tells, unlk_tells}
use Rattle.law_tells.proofs.Peripheral.{movep_tells}
use Rattle.law_tells.proofs.Lines.{move16_absolute_tells, move16_tells}
use Rattle.law_tells.proofs.Modifying.{modifying_tells}
use Rattle.law_tells.proofs.Transfers.{movem_tells}
use Rattle.law_tells.proofs.Arithmetic.{combining_tells, comparing_tells, either_way_tells, chaining_tells, quick_tells, taking_tells, clr_tells}
use Rattle.law_tells.proofs.Bits.{bit_row_tells}
use Rattle.law_tells.proofs.Decimals.{decimal_tells, digits_tells}
use Rattle.law_tells.proofs.BitFields.{field_row_tells}
use Rattle.law_tells.proofs.Locked.{tas_tells, cas_tells, cas2_tells}
use Rattle.law_tells.proofs.Flow.{branch_tells, jmp_tells, jsr_tells}
use Rattle.law_tells.proofs.Returns.{rts_tells, rtd_tells, rtr_tells}
use Rattle.law_tells.proofs.Bounds.{chk_tells, cmp2_tells, chk2_tells}
use Rattle.mb_instr.specs.Registers.{data_register}
use Rattle.mb_fields.specs.Decimals.{abcd_of, sbcd_of}
use Rattle.mb_fields.specs.Packing.{pack_of, unpk_of}
use Rattle.def_instructions.specs.Decimals.{negate_decimal_of}

-- an end of a part that fetches, at a refused call
abbrev pub FoundLeft : {S A : Type 0} → Guarded S → Fact S A Unfound
FoundLeft x rest t (Unfetched refused) = Answered x rest t refused.fault × x.unwritten t
FoundLeft x rest t (NoInstruction vector) = ⊥

-- what is said of one MOVEM, is said of any
looser : {S : Type 0} (x : Guarded S) (space : Space) (before : Plain) (these others : Movem → Type 0) (rest : Routine Performed) (t : S) (e : Ended)
    (after : Plain) → ((m : Movem) → these m → others m)
    → LeftBy x space before these rest t e after → LeftBy x space before others rest t e after
looser x space before these others rest t (ended.Movem refused) after any told = (told.0, (told.1.0, any _ told.1.1, told.1.2))
looser x space before these others rest t _ after any told = told

module _ {S : Type 0} (x : Guarded S) (space : Space) (g : Guards x space) where
  -- a line a row
  perform_move_tells : (i : Move) (word_at : ℕ) (p : Plain) → IsInstr (instr.Move i) → AreLongs p.a
      → RowTells x space p (is_movem i) (perform_move_of i word_at space p)
  perform_move_tells (move.Move size destination source) word_at p is longs =
      move_tells x space g size destination source word_at p (formed size destination (AreWords-right (more size source) (more size destination) is.are_words))
      (formed size source (AreWords-left (more size source) (more size destination) is.are_words)) longs
  perform_move_tells (move.Moveq register immediate) word_at p is longs = row_done x space _
  perform_move_tells (move.MovemLoad size ea mask) word_at p is longs =
      movem_tells x space g true size ea mask word_at p refl (formed_behind_word size ea mask is.are_words) longs
  perform_move_tells (move.MovemStore size ea mask) word_at p is longs =
      movem_tells x space g false size ea mask word_at p refl (formed_behind_word size ea mask is.are_words) longs
  perform_move_tells (move.Movea size register source) word_at p is longs =
      movea_tells x space g size register source word_at p (formed size source is.are_words) longs
  perform_move_tells (move.Lea register ea) word_at p is longs = lea_tells x space g register ea word_at p (formed Long ea is.are_words) longs
  perform_move_tells (move.Exg m kind n) word_at p is longs = row_done x space _
  perform_move_tells (move.Swap register) word_at p is longs = row_done x space _
  perform_move_tells (move.ToCcr ea) word_at p is longs = to_ccr_tells x space g ea word_at p (formed Word ea is.are_words) longs
  perform_move_tells (move.FromCcr ea) word_at p is longs = from_ccr_tells x space g ea word_at p (formed Word ea is.are_words) longs
  perform_move_tells (move.Scc condition ea) word_at p is longs = scc_tells x space g condition ea word_at p (formed Byte ea is.are_words) longs
  perform_move_tells (move.Pea ea) word_at p is longs = pea_tells x space g ea word_at p (formed Long ea is.are_words) longs
  perform_move_tells (move.LinkW register displacement) word_at p is longs = link_tells x space g register (sign_extended Word displacement) p longs
  perform_move_tells (move.LinkL register displacement) word_at p is longs = link_tells x space g register displacement p longs
  perform_move_tells (move.Unlk register) word_at p is longs = unlk_tells x space g register p longs
  perform_move_tells (move.Movep register is_store size address displacement) word_at p is longs =
      movep_tells x space g register is_store size address displacement p
  perform_move_tells (move.Move16Abs kind register address) word_at p is longs =
      move16_absolute_tells x space g kind register address p (long_range address is.are_words) longs
  perform_move_tells (move.Move16Post m word) word_at p is longs = move16_tells x space g m word p longs

  perform_arith_tells : (i : Arith) (word_at : ℕ) (p : Plain) → IsInstr (instr.Arith i) → AreLongs p.d → AreLongs p.a
      → RowTells x space p (λ m. ⊥) (perform_arith_of i word_at space p)
  perform_arith_tells (arithmetic.Add register to_memory size ea) word_at p is words longs =
      either_way_tells x space g (added size) register to_memory size ea word_at p (formed size ea is.are_words) longs
  perform_arith_tells (arithmetic.Sub register to_memory size ea) word_at p is words longs =
      either_way_tells x space g (subtracted size) register to_memory size ea word_at p (formed size ea is.are_words) longs
  perform_arith_tells (arithmetic.And register to_memory size ea) word_at p is words longs =
      either_way_tells x space g (logic_of logic.And size) register to_memory size ea word_at p (formed size ea is.are_words) longs
  perform_arith_tells (arithmetic.Or register to_memory size ea) word_at p is words longs =
      either_way_tells x space g (logic_of logic.Or size) register to_memory size ea word_at p (formed size ea is.are_words) longs
  perform_arith_tells (arithmetic.Eor register size ea) word_at p is words longs =
      either_way_tells x space g (logic_of logic.Eor size) register true size ea word_at p (formed size ea is.are_words) longs
  perform_arith_tells (arithmetic.Addi size ea immediate) word_at p is words longs =
      combining_tells x space g (added size) size (Imm immediate) ea word_at p tt (formed_behind_immediate size ea immediate is.are_words) longs
  perform_arith_tells (arithmetic.Subi size ea immediate) word_at p is words longs =
      combining_tells x space g (subtracted size) size (Imm immediate) ea word_at p tt (formed_behind_immediate size ea immediate is.are_words) longs
  perform_arith_tells (arithmetic.Andi size ea immediate) word_at p is words longs =
      combining_tells x space g (logic_of logic.And size) size (Imm immediate) ea word_at p tt (formed_behind_immediate size ea immediate is.are_words) longs
  perform_arith_tells (arithmetic.Ori size ea immediate) word_at p is words longs =
      combining_tells x space g (logic_of logic.Or size) size (Imm immediate) ea word_at p tt (formed_behind_immediate size ea immediate is.are_words) longs
  perform_arith_tells (arithmetic.Eori size ea immediate) word_at p is words longs =
      combining_tells x space g (logic_of logic.Eor size) size (Imm immediate) ea word_at p tt (formed_behind_immediate size ea immediate is.are_words) longs
  perform_arith_tells (arithmetic.Addx destination size in_memory source) word_at p is words longs =
      chaining_tells x space g (added_extended size) size in_memory source destination word_at p longs
  perform_arith_tells (arithmetic.Subx destination size in_memory source) word_at p is words longs =
      chaining_tells x space g (subtracted_extended size) size in_memory source destination word_at p longs
  perform_arith_tells (arithmetic.Cmp register size ea) word_at p is words longs =
      comparing_tells x space g size ea (Dn register) word_at p (formed size ea is.are_words) tt longs
  perform_arith_tells (arithmetic.Cmpi size ea immediate) word_at p is words longs =
      comparing_tells x space g size (Imm immediate) ea word_at p tt (formed_behind_immediate size ea immediate is.are_words) longs
  perform_arith_tells (arithmetic.Cmpm destination size source) word_at p is words longs =
      comparing_tells x space g size (Post source) (Post destination) word_at p tt tt longs
  perform_arith_tells (arithmetic.Addq quick size ea) word_at p is words longs =
      quick_tells x space g (added size quick) (λ address. sum address quick) size ea word_at p (formed size ea is.are_words) longs
  perform_arith_tells (arithmetic.Subq quick size ea) word_at p is words longs =
      quick_tells x space g (subtracted size quick) (λ address. difference address quick) size ea word_at p (formed size ea is.are_words) longs
  perform_arith_tells (arithmetic.Adda register size ea) word_at p is words longs =
      taking_tells x space g (address_moved sum register size) size ea word_at p (formed size ea is.are_words) longs
  perform_arith_tells (arithmetic.Suba register size ea) word_at p is words longs =
      taking_tells x space g (address_moved difference register size) size ea word_at p (formed size ea is.are_words) longs
  perform_arith_tells (arithmetic.Cmpa register size ea) word_at p is words longs =
      taking_tells x space g (address_compared register size) size ea word_at p (formed size ea is.are_words) longs
  perform_arith_tells (arithmetic.Neg size ea) word_at p is words longs =
      modifying_tells x space g (negated size) size ea word_at p (formed size ea is.are_words) longs
  perform_arith_tells (arithmetic.Negx size ea) word_at p is words longs =
      modifying_tells x space g (negated_extended size) size ea word_at p (formed size ea is.are_words) longs
  perform_arith_tells (arithmetic.Not size ea) word_at p is words longs =
      modifying_tells x space g (complemented size) size ea word_at p (formed size ea is.are_words) longs
  perform_arith_tells (arithmetic.Clr size ea) word_at p is words longs = clr_tells x space g size ea word_at p (formed size ea is.are_words) longs
  perform_arith_tells (arithmetic.Tst size ea) word_at p is words longs =
      taking_tells x space g (tst_effect size) size ea word_at p (formed size ea is.are_words) longs
  perform_arith_tells (arithmetic.ExtW register) word_at p is words longs = row_done x space _
  perform_arith_tells (arithmetic.ExtL register) word_at p is words longs = row_done x space _
  perform_arith_tells (arithmetic.ExtbL register) word_at p is words longs = row_done x space _
  perform_arith_tells (arithmetic.OriCcr word) word_at p is words longs = row_done x space _
  perform_arith_tells (arithmetic.AndiCcr word) word_at p is words longs = row_done x space _
  perform_arith_tells (arithmetic.EoriCcr word) word_at p is words longs = row_done x space _
  perform_arith_tells (arithmetic.ShiftReg count is_left size by_register kind register) word_at p is words longs = row_done x space _
  perform_arith_tells (arithmetic.ShiftMem kind is_left ea) word_at p is words longs =
      modifying_tells x space g (shifted_by_one kind is_left) Word ea word_at p (formed Word ea is.are_words) longs
  perform_arith_tells (arithmetic.MulW register signed ea) word_at p is words longs =
      taking_tells x space g (multiply_word_of signed register) Word ea word_at p (formed Word ea is.are_words) longs
  perform_arith_tells (arithmetic.MulL ea word) word_at p is words longs =
      taking_tells x space g (multiply_long_of word) Long ea word_at p (formed_behind_word Long ea word is.are_words) longs
  perform_arith_tells (arithmetic.DivW register signed ea) word_at p is words longs =
      taking_tells x space g (divide_word_of signed register) Word ea word_at p (formed Word ea is.are_words) longs
  perform_arith_tells (arithmetic.DivL ea word) word_at p is words longs =
      taking_tells x space g (divide_long_of word) Long ea word_at p (formed_behind_word Long ea word is.are_words) longs
  perform_arith_tells (arithmetic.BitReg register kind ea) word_at p is words longs =
      bit_row_tells x space g kind (data_register p register) ea word_at p (formed Byte ea is.are_words) longs
  perform_arith_tells (arithmetic.BitImm kind ea word) word_at p is words longs =
      bit_row_tells x space g kind word ea word_at p (formed_behind_word Byte ea word is.are_words) longs
  perform_arith_tells (arithmetic.Nbcd ea) word_at p is words longs =
      modifying_tells x space g negate_decimal_of Byte ea word_at p (formed Byte ea is.are_words) longs
  perform_arith_tells (arithmetic.Abcd to in_memory from) word_at p is words longs = decimal_tells x space g abcd_of to in_memory from word_at p longs
  perform_arith_tells (arithmetic.Sbcd to in_memory from) word_at p is words longs = decimal_tells x space g sbcd_of to in_memory from word_at p longs
  perform_arith_tells (arithmetic.Pack to in_memory from word) word_at p is words longs =
      digits_tells x space g pack_of Word Byte to in_memory from word word_at p longs
  perform_arith_tells (arithmetic.Unpk to in_memory from word) word_at p is words longs =
      digits_tells x space g unpk_of Byte Word to in_memory from word word_at p longs
  perform_arith_tells (arithmetic.Field kind ea word) word_at p is words longs =
      field_row_tells x space g kind ea word word_at p (formed_behind_word Long ea word is.are_words) longs
  perform_arith_tells (arithmetic.Tas ea) word_at p is words longs = tas_tells x space g ea word_at p (formed Byte ea is.are_words) longs
  perform_arith_tells (arithmetic.Cas size ea word) word_at p is words longs =
      cas_tells x space g size ea word word_at p (formed_behind_word size ea word is.are_words) longs
  perform_arith_tells (arithmetic.Cas2 size first second) word_at p is words longs = cas2_tells x space g size first second p words longs
  perform_arith_tells (arithmetic.Cmp2 size ea word) word_at p is words longs =
      cmp2_tells x space g size ea word word_at p (formed_behind_word size ea word is.are_words) longs

  perform_flow_tells : (i : Flow) (word_at : ℕ) (p : Plain) → IsInstr (instr.Flow i) → AreLongs p.a
      → RowTells x space p (λ m. ⊥) (perform_flow_of i word_at space p)
  perform_flow_tells flow.Nop word_at p is longs = row_done x space _
  perform_flow_tells (flow.Bcc condition displacement) word_at p is longs = branch_tells x space g condition displacement word_at p longs
  perform_flow_tells (flow.Dbcc condition register displacement) word_at p is longs = row_ends x space _
  perform_flow_tells (flow.Jmp ea) word_at p is longs = jmp_tells x space g ea word_at p (formed Long ea is.are_words) longs
  perform_flow_tells (flow.Jsr ea) word_at p is longs = jsr_tells x space g ea word_at p (formed Long ea is.are_words) longs
  perform_flow_tells flow.Rts word_at p is longs = rts_tells x space g p longs
  perform_flow_tells (flow.Rtd displacement) word_at p is longs = rtd_tells x space g displacement p longs
  perform_flow_tells flow.Rtr word_at p is longs = rtr_tells x space g p longs
  perform_flow_tells (flow.Trap number) word_at p is longs = row_ends x space _
  perform_flow_tells (flow.Trapcc condition operand) word_at p is longs = row_ends x space _
  perform_flow_tells flow.Trapv word_at p is longs = row_ends x space _
  perform_flow_tells (flow.Chk register size ea) word_at p is longs = chk_tells x space g register size ea word_at p (formed size ea is.are_words) longs
  perform_flow_tells (flow.Chk2 size ea word) word_at p is longs =
      chk2_tells x space g size ea word word_at p (formed_behind_word size ea word is.are_words) longs

  row_tells : (i : Instr) (at : ℕ) (p : Plain) → IsInstr i → HasLongs p → RowTells x space p (moves i) (row_of i at space p)
  row_tells (instr.Move i) at p is longs = perform_move_tells i (operands_at (move_row i) at) p is longs.1
  row_tells (instr.Arith i) at p is longs = perform_arith_tells i (operands_at (arith_row i) at) p is longs.0 longs.1
  row_tells (instr.Flow i) at p is longs = perform_flow_tells i (operands_at (flow_row i) at) p is longs.1
  row_tells (instr.System i) at p is longs = tells_err _

  pub perform_tells : (i : Instr) (at : ℕ) (p : Plain) → IsInstr i → HasLongs p → Row x space p (moves i) (perform_of i at space p)
  perform_tells i at p is longs = tells_failing (restored p) (row_of i at space p) (row_tells i at p is longs)

  abbrev pub Founds : Routine FoundInstr → Type 0
  Founds m = Telling x (quiet x) m (FoundLeft x) (λ found s. quiet x s × IsInstr found.0)

  judged_tells : (d : Decoded) (m : Routine FoundInstr) → IfWhole d (λ i n. IsInstr i) → Founds m → Founds (by_decoded d m)
  judged_tells decoded.More m is h = h
  judged_tells (decoded.Whole i n) m is h = tells_ok _ (λ s q. (q, is))
  judged_tells _ m is h = tells_err _

  found_tells : (n at : ℕ) (words : List ℕ) → AreWords words → at % 2 ≡ 0 → at < 2 ^ 32 → Founds (found_of n space at words)
  unfolding found_of
  found_tells zero at words are even lt = tells_err _
  found_tells (suc n) at words are even lt =
      tells_bind {mid = λ word s. quiet x s × (word < 2 ^ 16)} (failing (λ fault. Unfetched (refused_in at fault)) (fetch space at))
      (λ word. by_decoded (decode_of (words ++ word ∷ [])) (found_of n space ((at + 2) % 2 ^ 32) (words ++ word ∷ [])))
      (tells_failing (λ fault. Unfetched (refused_in at fault)) (fetch space at) (tells_fetch g.refuses space at (record {
        lawfully = λ s q. g.fetches at s q.0 even lt;
        well = λ s word q yes e.
            let go : Goes x (Fetch space at) s = (q.0, g.fetches at s q.0 even lt, yes) in
            ((g.opens.call (Fetch space at) s q.0 go.1, g.still (Fetch space at) s tt go q.1), g.words at word s go e);
        refused = λ s u fault q no e same. ((Fetch space at, refl, ap (λ r. r.0) e), q.1);
      })))
      (λ word. knowing x (quiet x) (word < 2 ^ 16) _ _ _ (λ is.
      let more = AreWords-append words (word ∷ []) are (AreWords-cons word [] is AreWords-nil) in
      judged_tells (decode_of (words ++ word ∷ [])) _ (table.valid_of _ _ (table.decoded (words ++ word ∷ []) _ refl more))
      (found_tells n ((at + 2) % 2 ^ 32) (words ++ word ∷ []) more (omega arith) (omega arith))))

  -- no instruction was found, and none of the registers changed
  none_found : (p : Plain) (n : Movem → Type 0) (rest : Routine FoundInstr) (f : Instr × ℕ → Routine Performed) (g : Unfound → Routine Performed)
      (t : S) (e : Unfound) → FoundLeft x rest t e → LeftBy x space p n (Then rest (λ r. either r g f)) t (end_without e) p
  none_found p n rest f g t (Unfetched refused) told = (told.0, (told.1, refl))
  none_found p n rest f g t (NoInstruction vector) told = absurd told

  is_even : (n : ℕ) → (n % 2 == 1) ≡ false → n % 2 ≡ 0
  is_even n h = grind (arith, nat_tests)

  pub fetched_tells : (pc : ℕ) → pc < 2 ^ 32 → Founds (fetched_of space pc)
  fetched_tells pc lt =
      tells_choose (pc % 2 == 1) _ _ (λ odd. tells_err _) (λ even. found_tells MOST_WORDS pc [] AreWords-nil (is_even pc even) lt)

  pub attempt_tells : (p : Plain) (s : S) → HasLongs p → p.pc < 2 ^ 32
      → Attempt x space p s (moves_fetched x.bus space p.pc s) (attempt_of space p)
  attempt_tells p s longs lt =
      let these : Movem → Type 0 = moves_fetched x.bus space p.pc s in
      tells_caught (fetched_of space p.pc) (λ unfound. record { ended = end_without unfound; plain = p })
      (λ found. perform_of found.0 p.pc space (past found.1 p))
      (tells_weaker (fetched_of space p.pc) (tells_from (fetched_of space p.pc) s (fetched_tells p.pc lt)) (λ t q. q)
      (λ rest t e told. (p, refl, none_found p these rest _ _ t e told)) (λ found t q. (q.0.0, (q.0.1, q.1))))
      (λ found. knowing x (quiet x) (IsInstr found.0 × ((run x.bus (fetched_of space p.pc) s).0 ≡ Ok found)) _ _ _ (λ is.
      tells_weaker _ (perform_tells found.0 p.pc (past found.1 p) is.0 longs) (λ t q. q)
      (λ rest t e told. (
        past found.1 p,
        refl,
        looser x space (past found.1 p) (moves found.0) these rest t e.ended e.plain (λ m this. (found.0, found.1, is.1, this)) told,
      ))
      (λ a t q. q)))
