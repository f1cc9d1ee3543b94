-- Each row, the fetch of an instruction, and the attempt: the calls before a refused read, and the condition codes left.
use Rattle.std.specs.Prelude.{refl, ℕ, zero, suc, ◌+◌, ◌-◌, ◌*◌, ◌/◌, ◌%◌, ◌^◌, ◌==◌, ◌<◌, ◌≤◌, Bool, true, false, ◌||◌, if◌then◌else◌}
use Rattle.std.specs.Prelude.{Option, Some, None, List, [], ◌∷◌, ◌++◌, drop, length, Ok, Err}
use Rattle.std.proofs.Common.{arith}
use Rattle.mb_port.specs.Routine.{Fetch, Read, ReadLine, Routine, Return, Bus, run, either, failing, other_fault, read_line, write_line}
use Rattle.mb_port.specs.declared.types.Space.{Space}
use Rattle.mb_instr.specs.declared.counts.TheConstants.{MOST_WORDS}
use Rattle.mb_instr.specs.declared.size.Size.{Size}
use Rattle.mb_instr.specs.declared.size.Size.TheVariants.{Byte, Word, Long}
use Rattle.mb_instr.specs.declared.instruction.Instr.{Instr}
use Rattle.mb_instr.specs.declared.instruction.Instr.TheVariants as instr
use Rattle.mb_instr.specs.declared.instruction.Move.{Move}
use Rattle.mb_instr.specs.declared.instruction.Move.TheVariants as move
use Rattle.mb_instr.specs.declared.instruction.Arith.{Arith}
use Rattle.mb_instr.specs.declared.instruction.Arith.TheVariants as arithmetic
use Rattle.mb_instr.specs.declared.instruction.Flow.{Flow}
use Rattle.mb_instr.specs.declared.instruction.Flow.TheVariants as flow
use Rattle.mb_instr.specs.declared.registers.Plain.{Plain}
use Rattle.mb_instr.specs.declared.operand.Ea.{Ea}
use Rattle.mb_instr.specs.declared.operand.Ea.TheVariants.{Dn, Pre, Post, Imm}
use Rattle.mb_instr.specs.declared.kinds.BitKind.{BitKind}
use Rattle.mb_instr.specs.declared.kinds.BitKind.TheVariants as bit
use Rattle.mb_instr.specs.declared.kinds.Condition.{Condition}
use Rattle.mb_instr.specs.declared.kinds.Condition.TheVariants as condition
use Rattle.mb_instr.specs.declared.kinds.Exchange.{Exchange}
use Rattle.mb_instr.specs.declared.kinds.Exchange.TheVariants as exchange
use Rattle.mb_instr.specs.declared.kinds.FieldKind.{FieldKind}
use Rattle.mb_instr.specs.declared.kinds.LineMove.{LineMove}
use Rattle.mb_instr.specs.declared.kinds.LineMove.TheVariants as line
use Rattle.mb_instr.specs.Shapes.{operands_at}
use Rattle.mb_instr.specs.Rows.{move_row, arith_row, flow_row}
use Rattle.mb_instr.specs.Sizes.{bytes_of, low_of, sign_extended}
use Rattle.mb_instr.specs.Registers.{register_of, with_register, data_register, address_register}
use Rattle.mb_instr.specs.Operands.{address_number}
use Rattle.mb_instr.specs.FurtherWords.{line_word, swap_word, pair_word, field_word, register_word}
use Rattle.mb_alu.specs.declared.conditions.Flagged.{Flagged}
use Rattle.mb_alu.specs.declared.bitwise.LogicKind.TheVariants as logic
use Rattle.mb_alu.specs.declared.width.Width.TheVariants as width
use Rattle.mb_alu.specs.declared.quotients.Divided.{Divided}
use Rattle.mb_alu.specs.declared.quotients.Divided.TheVariants as divided
use Rattle.mb_alu.specs.Conditions.{conditions_of}
use Rattle.mb_alu.specs.Logic.{logic_of}
use Rattle.mb_ea.specs.declared.addresses.Target.TheVariants.{Reg}
use Rattle.mb_ea.specs.Addresses.{sum, difference}
use Rattle.mb_ea.specs.Reading.{refused_in, read_pieces_of, read_operand_of}
use Rattle.mb_fields.specs.Decimals.{abcd_of, sbcd_of}
use Rattle.mb_fields.specs.Packing.{pack_of, unpk_of}
use Rattle.mb_writes.specs.declared.ends.Ended.TheVariants as ended
use Rattle.mb_writes.specs.declared.transfers.Movem.{Movem}
use Rattle.mb_writes.specs.declared.transfers.MovemMode.{MovemMode}
use Rattle.mb_writes.specs.declared.transfers.MovemMode.TheVariants as mode
use Rattle.mb_writes.specs.declared.transfers.Transfer.{Transfer}
use Rattle.mb_writes.specs.Transfers.{transfers_of}
use Rattle.mb_writes.specs.Moving.{Halfway, store_all_of, loaded_of, load_all_of, stepped_of, storing, transfer_of}
use Rattle.mb_writes.specs.Checked.{probe_operand_of, get_operand_of, put_operand_of}
use Rattle.mb_writes.specs.Writing.{apart, write_operand_of, write_apart_of}
use Rattle.mb_decode.specs.declared.front.Decoded.{Decoded}
use Rattle.mb_decode.specs.declared.front.Decoded.TheVariants as decoded
use Rattle.mb_decode.specs.Decodes.{decode_of}
use Rattle.def_instructions.specs.Ends.{Performed, Rowed, Unread, Stop, restored}
use Rattle.def_instructions.specs.Conditions.{is_met}
use Rattle.def_instructions.specs.Operands.{behind_of, find_address_of, place_of, stack_lowered}
use Rattle.def_instructions.specs.Moves.{move_operand_of, movea_of, lea_of, exg_of, movem_by, movem_of, move_to_ccr_of, move_from_ccr_of, scc_of}
use Rattle.def_instructions.specs.Stack.{pea_of, linked, link_of, unlk_of}
use Rattle.def_instructions.specs.Peripheral.{read_apart_of, load_peripheral_of, store_peripheral_of, movep_of}
use Rattle.def_instructions.specs.Lines.{line_address, move_line_of, past_line, past_lines, move16_absolute_of}
use Rattle.def_instructions.specs.Modifying.{modify_of}
use Rattle.def_instructions.specs.Arithmetic.{added, subtracted, added_extended, subtracted_extended, fetch_pair_of, combine_of, compare_pair_of}
use Rattle.def_instructions.specs.Arithmetic.{combine_either_way_of, chain_of, quick_to, combine_quick_of, take_of, address_moved, address_compared}
use Rattle.def_instructions.specs.Unary.{negated, negated_extended, complemented, clr_of, tst_effect}
use Rattle.def_instructions.specs.Shifts.{shift_count_of, shifted_by_one}
use Rattle.def_instructions.specs.Products.{multiply_word_of, divided_by_word, divide_word_of, multiply_to_long_of, multiply_to_wide_of}
use Rattle.def_instructions.specs.Products.{multiply_long_of, dividend_of, width_in, divided_by_long, divide_long_of}
use Rattle.def_instructions.specs.Bits.{bit_size, change_bit_of, bit_row_of}
use Rattle.def_instructions.specs.Decimals.{negate_decimal_of, paired, decimal_of, repack_of}
use Rattle.def_instructions.specs.BitFields.{field_width_of, is_change, field_seen, field_done, field_in_memory_of, bit_field_of}
use Rattle.def_instructions.specs.Locked.{test_and_set_of, tas_in_memory, tas_of, cas_codes, cas_equal, cas_at, cas_of, cas2_equal, cas2_codes, cas2_of}
use Rattle.def_instructions.specs.Flow.{target_of, is_call, call_of, count_down_of}
use Rattle.def_instructions.specs.Bounds.{is_below, is_above, check_bound_of, compare_bounds_of, cmp2_of}
use Rattle.def_instructions.specs.Rows.{perform_move_of, perform_arith_of, perform_flow_of, row_of, perform_of}
use Rattle.def_instructions.specs.Attempt.{Unfetched, FoundInstr, found_none, by_decoded, found_of, fetched_of, past, attempt_of}
use Rattle.law_calls.specs.Calls.{calls, IsUnread, most_reads}
use Rattle.law_calls.specs.Codes.{HasFiveCodes, LeavesFiveCodes}
use Rattle.law_calls.proofs.Few.{PartUnread, Few, Early, few_done, few_none, few_more, few_ask, few_then, few_failing, few_choose}
use Rattle.law_calls.proofs.Few.{never_early, early_none, early_choose, reading_then, never_carried, never_then, never_stopping, never_sure, never_choose}
use Rattle.law_calls.proofs.Operands.{operand_few, probe_few, resolve_few, fetched_few, address_few, finish_never, push_never}
use Rattle.law_calls.proofs.FiveBits.{five_bits, moved_five, logic_five, sum_five, difference_five, compare_five, shift_five, product_five}
use Rattle.law_calls.proofs.FiveBits.{DividesSo, division_five, bit_five, decimal_five, field_five, bounds_codes_five}
use Rattle.law_calls.proofs.Keeping.{Is, Whatever, CodesLeft, CutLeft, CodesRow, Answers, either_plain, either_row, register_five}
use Rattle.law_calls.proofs.Keeping.{answers_any, answers_done, answers_sure, answers_choose, answers_then, answers_failing, reading_codes, ending_codes}
use Rattle.law_calls.proofs.Keeping.{resolve_codes, fetched_codes, finish_codes, push_codes}

module _ {S : Type 0} (bus : Bus S) (space : Space) where
  -- a row
  abbrev pub Row : Routine Rowed → Type 0
  Row m = Early bus most_reads m

  -- ---- what moves

  move_early : (size : Size) (destination source : Ea) (word_at : ℕ) (p : Plain) → Row (move_operand_of size destination source word_at space p)
  move_early size destination source word_at p =
      reading_then bus (fetched_few bus space size source word_at p) refl (λ from.
      reading_then bus (resolve_few bus space destination size (behind_of size source word_at) from.plain) refl (λ to.
      never_early bus 3 (finish_never bus space _ _ _ _)))

  movea_early : (size : Size) (n : ℕ) (source : Ea) (word_at : ℕ) (p : Plain) → Row (movea_of size n source word_at space p)
  movea_early size n source word_at p = reading_then bus (fetched_few bus space size source word_at p) refl (λ from. early_none bus 6 _)

  lea_early : (n : ℕ) (ea : Ea) (word_at : ℕ) (p : Plain) → Row (lea_of n ea word_at space p)
  lea_early n ea word_at p = reading_then bus (address_few bus space Long ea word_at p) refl (λ place. early_none bus 9 _)

  to_ccr_early : (ea : Ea) (word_at : ℕ) (p : Plain) → Row (move_to_ccr_of ea word_at space p)
  to_ccr_early ea word_at p = reading_then bus (fetched_few bus space Word ea word_at p) refl (λ operand. early_none bus 6 _)

  from_ccr_early : (ea : Ea) (word_at : ℕ) (p : Plain) → Row (move_from_ccr_of ea word_at space p)
  from_ccr_early ea word_at p =
      reading_then bus (resolve_few bus space ea Word word_at p) refl (λ to. never_early bus 9 (finish_never bus space _ _ _ _))

  scc_early : (c : Condition) (ea : Ea) (word_at : ℕ) (p : Plain) → Row (scc_of c ea word_at space p)
  scc_early c ea word_at p =
      reading_then bus (resolve_few bus space ea Byte word_at p) refl (λ to. never_early bus 9 (finish_never bus space _ _ _ _))

  -- a refused transfer ends the instruction otherwise
  movem_early : (is_load : Bool) (size : Size) (ea : Ea) (mask word_at : ℕ) (p : Plain) → Row (movem_of is_load size ea mask word_at space p)
  movem_early is_load size ea mask word_at p =
      reading_then bus (address_few bus space size ea word_at p) refl (λ place.
      never_early bus 9 (never_then bus
      (never_stopping bus (λ (halfway : Halfway). record { ended = ended.Movem halfway.fault; plain = halfway.plain })
      (transfer_of (movem_by is_load size ea mask) place 0 space p) (λ e u. u))
      (λ moved. never_carried bus _)))

  pea_early : (ea : Ea) (word_at : ℕ) (p : Plain) → Row (pea_of ea word_at space p)
  pea_early ea word_at p =
      reading_then bus (address_few bus space Long ea word_at p) refl (λ place.
      never_early bus 9 (never_then bus (push_never bus space _ _ _) (λ done. never_carried bus _)))

  link_early : (n displacement : ℕ) (p : Plain) → Row (link_of n displacement space p)
  link_early n displacement p = never_early bus 12 (never_then bus (push_never bus space _ _ _) (λ done. never_carried bus _))

  unlk_early : (n : ℕ) (p : Plain) → Row (unlk_of n space p)
  unlk_early n p = reading_then bus (operand_few bus space (address_register p n) 4) refl (λ frame. early_none bus 9 _)

  apart_few : (n at value : ℕ) → Few bus n (read_pieces_of space (apart at n) value)
  apart_few zero at value = few_none bus 0 _
  apart_few (suc n) at value =
      few_more bus (omega arith) (few_then bus (few_ask bus (Read space (record { at = at; len = 1 })))
      (λ x. apart_few n ((at + 2) % 2 ^ 32) (value * 256 ^ 1 + x)))

  read_apart_few : (at : ℕ) (size : Size) → Few bus 4 (read_apart_of space at size)
  read_apart_few at Byte = few_failing bus (refused_in at) (few_more bus (omega arith) (apart_few 1 at 0))
  read_apart_few at Word = few_failing bus (refused_in at) (few_more bus (omega arith) (apart_few 2 at 0))
  read_apart_few at Long = few_failing bus (refused_in at) (apart_few 4 at 0)

  load_apart_early : (n : ℕ) (size : Size) (place : ℕ) (p : Plain) → Row (load_peripheral_of n size place space p)
  load_apart_early n size place p = reading_then bus (read_apart_few place size) refl (λ value.
      never_early bus 8 (finish_never bus space (Reg n) size value p))

  store_apart_early : (n : ℕ) (size : Size) (place : ℕ) (p : Plain) → Row (store_peripheral_of n size place space p)
  store_apart_early n size place p =
      never_early bus 12 (never_then bus
      (never_stopping bus (λ refused. record { ended = ended.WriteFault refused; plain = p }) (write_apart_of space place size (data_register p n)) (λ e u. u))
      (λ done. never_carried bus _))

  movep_early : (n : ℕ) (is_store : Bool) (size : Size) (address displacement : ℕ) (p : Plain)
      → Row (movep_of n is_store size address displacement space p)
  movep_early n is_store size address displacement p =
      let place = sum (address_register p address) (sign_extended Word displacement) in
      early_choose bus is_store (store_apart_early n size place p) (load_apart_early n size place p)

  line_early : (from to : ℕ) (after : Plain) → Row (move_line_of from to space after)
  line_early from to after =
      reading_then bus (few_failing bus (refused_in (line_address from)) (few_ask bus (ReadLine space (line_address from)))) refl (λ moved.
      never_early bus 11 (never_then bus
      (never_stopping bus (λ fault. record { ended = ended.LineFault fault moved; plain = after }) (write_line space (line_address to) moved) (λ e u. u))
      (λ done. never_carried bus _)))

  move16_early : (kind : LineMove) (n place : ℕ) (p : Plain) → Row (move16_absolute_of kind n place space p)
  move16_early line.PostToAbsolute n place p = line_early (address_register p n) place (past_line n p)
  move16_early line.AbsoluteToPost n place p = line_early place (address_register p n) (past_line n p)
  move16_early line.IndirectToAbsolute n place p = line_early (address_register p n) place p
  move16_early line.AbsoluteToIndirect n place p = line_early place (address_register p n) p

  perform_move_early : (i : Move) (word_at : ℕ) (p : Plain) → Row (perform_move_of i word_at space p)
  perform_move_early (move.Move size destination source) word_at p = move_early size destination source word_at p
  perform_move_early (move.Moveq register immediate) word_at p = early_none bus 12 _
  perform_move_early (move.MovemLoad size ea mask) word_at p = movem_early true size ea mask word_at p
  perform_move_early (move.MovemStore size ea mask) word_at p = movem_early false size ea mask word_at p
  perform_move_early (move.Movea size register source) word_at p = movea_early size register source word_at p
  perform_move_early (move.Lea register ea) word_at p = lea_early register ea word_at p
  perform_move_early (move.Exg m kind n) word_at p = early_none bus 12 _
  perform_move_early (move.Swap register) word_at p = early_none bus 12 _
  perform_move_early (move.ToCcr ea) word_at p = to_ccr_early ea word_at p
  perform_move_early (move.FromCcr ea) word_at p = from_ccr_early ea word_at p
  perform_move_early (move.Scc condition ea) word_at p = scc_early condition ea word_at p
  perform_move_early (move.Pea ea) word_at p = pea_early ea word_at p
  perform_move_early (move.LinkW register displacement) word_at p = link_early register (sign_extended Word displacement) p
  perform_move_early (move.LinkL register displacement) word_at p = link_early register displacement p
  perform_move_early (move.Unlk register) word_at p = unlk_early register p
  perform_move_early (move.Movep register is_store size address displacement) word_at p = movep_early register is_store size address displacement p
  perform_move_early (move.Move16Abs kind register address) word_at p = move16_early kind register address p
  perform_move_early (move.Move16Post m word) word_at p =
      let n = (line_word word).destination in line_early (address_register p m) (address_register p n) (past_lines m n p)

  -- ---- what computes

  modify_early : (change : ℕ → ℕ → Flagged) (size : Size) (ea : Ea) (word_at : ℕ) (p : Plain) → Row (modify_of change size ea word_at space p)
  modify_early change size ea word_at p =
      reading_then bus (fetched_few bus space size ea word_at p) refl (λ operand. never_early bus 6 (finish_never bus space _ _ _ _))

  clr_early : (size : Size) (ea : Ea) (word_at : ℕ) (p : Plain) → Row (clr_of size ea word_at space p)
  clr_early size ea word_at p =
      reading_then bus (resolve_few bus space ea size word_at p) refl (λ to. never_early bus 9 (finish_never bus space _ _ _ _))

  take_early : (effect : ℕ → Plain → Rowed) (size : Size) (ea : Ea) (word_at : ℕ) (p : Plain) → Row (take_of effect size ea word_at space p)
  take_early effect size ea word_at p = reading_then bus (fetched_few bus space size ea word_at p) refl (λ operand. early_none bus 6 _)

  pair_few : (size : Size) (source destination : Ea) (word_at : ℕ) (p : Plain) → Few bus 12 (fetch_pair_of size source destination word_at space p)
  pair_few size source destination word_at p = few_then bus (fetched_few bus space size source word_at p) (λ from.
      few_then bus (fetched_few bus space size destination (behind_of size source word_at) from.plain) (λ to. few_done bus _))

  combine_early : (operation : ℕ → ℕ → ℕ → Flagged) (size : Size) (source destination : Ea) (word_at : ℕ) (p : Plain)
      → Row (combine_of operation size source destination word_at space p)
  combine_early operation size source destination word_at p =
      reading_then bus (pair_few size source destination word_at p) refl (λ pair. never_early bus 0 (finish_never bus space _ _ _ _))

  compare_early : (size : Size) (source destination : Ea) (word_at : ℕ) (p : Plain) → Row (compare_pair_of size source destination word_at space p)
  compare_early size source destination word_at p = reading_then bus (pair_few size source destination word_at p) refl (λ pair. early_none bus 0 _)

  either_way_early : (operation : ℕ → ℕ → ℕ → Flagged) (register : ℕ) (to_memory : Bool) (size : Size) (ea : Ea) (word_at : ℕ) (p : Plain)
      → Row (combine_either_way_of operation register to_memory size ea word_at space p)
  unfolding combine_either_way_of
  either_way_early operation register to_memory size ea word_at p =
      early_choose bus to_memory (combine_early operation size (Dn register) ea word_at p) (combine_early operation size ea (Dn register) word_at p)

  chain_early : (operation : ℕ → ℕ → ℕ → Flagged) (size : Size) (in_memory : Bool) (source destination word_at : ℕ) (p : Plain)
      → Row (chain_of operation size in_memory source destination word_at space p)
  unfolding chain_of
  chain_early operation size in_memory source destination word_at p =
      early_choose bus in_memory (combine_early operation size (Pre source) (Pre destination) word_at p)
      (combine_early operation size (Dn source) (Dn destination) word_at p)

  quick_to_early : (o : Option ℕ) (change : ℕ → ℕ → Flagged) (moved : ℕ → ℕ) (size : Size) (ea : Ea) (word_at : ℕ) (p : Plain)
      → Row (quick_to o change moved size ea word_at space p)
  quick_to_early (Some n) change moved size ea word_at p = early_none bus 12 _
  quick_to_early None change moved size ea word_at p = modify_early change size ea word_at p

  quick_early : (change : ℕ → ℕ → Flagged) (moved : ℕ → ℕ) (size : Size) (ea : Ea) (word_at : ℕ) (p : Plain)
      → Row (combine_quick_of change moved size ea word_at space p)
  unfolding combine_quick_of
  quick_early change moved size ea word_at p = quick_to_early (address_number ea) change moved size ea word_at p

  bit_row_early : (kind : BitKind) (number : ℕ) (ea : Ea) (word_at : ℕ) (p : Plain) → Row (bit_row_of kind number ea word_at space p)
  bit_row_early bit.Test number ea word_at p =
      reading_then bus (fetched_few bus space (bit_size ea) ea word_at p) refl (λ operand. early_none bus 6 _)
  bit_row_early kind number ea word_at p = modify_early (change_bit_of kind number (bit_size ea)) (bit_size ea) ea word_at p

  decimal_early : (operation : ℕ → ℕ → ℕ → Flagged) (to : ℕ) (in_memory : Bool) (from word_at : ℕ) (p : Plain)
      → Row (decimal_of operation to in_memory from word_at space p)
  decimal_early operation to in_memory from word_at p =
      reading_then bus (fetched_few bus space Byte (paired in_memory from) word_at p) refl (λ source.
      reading_then bus (fetched_few bus space Byte (paired in_memory to) word_at source.plain) refl (λ destination.
      never_early bus 0 (finish_never bus space _ _ _ _)))

  digits_early : (operation : ℕ → ℕ → ℕ) (read written : Size) (to : ℕ) (in_memory : Bool) (from adjust word_at : ℕ) (p : Plain)
      → Row (repack_of operation read written to in_memory from adjust word_at space p)
  digits_early operation read written to in_memory from adjust word_at p =
      reading_then bus (fetched_few bus space read (paired in_memory from) word_at p) refl (λ source.
      reading_then bus (resolve_few bus space (paired in_memory to) written word_at source.plain) refl (λ destination.
      never_early bus 3 (finish_never bus space _ _ _ _)))

  field_in_memory_early : (kind : FieldKind) (word address : ℕ) (p : Plain) → Early bus 9 (field_in_memory_of kind word address space p)
  field_in_memory_early kind word address p =
      reading_then bus (operand_few bus space _ _) refl (λ bytes.
      early_choose bus (is_change kind)
      (never_early bus 6 (never_then bus
      (never_stopping bus (λ refused. record { ended = ended.WriteFault refused; plain = _ }) (write_operand_of space _ _ _) (λ e u. u))
      (λ done. never_carried bus _)))
      (early_none bus 6 _))

  field_early : (kind : FieldKind) (ea : Ea) (word word_at : ℕ) (p : Plain) → Row (bit_field_of kind ea word word_at space p)
  field_early kind (Dn n) word word_at p = early_none bus 12 _
  field_early kind ea word word_at p =
      reading_then bus (address_few bus space Long ea word_at p) refl (λ address. field_in_memory_early kind word address p)

  -- what follows the check of a locked operand is refused none
  tas_in_memory_early : (address : ℕ) (p : Plain) → Early bus 9 (tas_in_memory address space p)
  tas_in_memory_early address p =
      reading_then bus (probe_few bus space address 1) refl (λ places.
      never_early bus 6 (never_then bus (never_sure bus (get_operand_of places)) (λ value.
      never_then bus (never_sure bus (put_operand_of places 1 (test_and_set_of value p.ccr).value)) (λ done. never_carried bus _))))

  tas_early : (ea : Ea) (word_at : ℕ) (p : Plain) → Row (tas_of ea word_at space p)
  tas_early (Dn n) word_at p = modify_early test_and_set_of Byte (Dn n) word_at p
  tas_early ea word_at p =
      reading_then bus (resolve_few bus space ea Byte word_at p) refl (λ to. tas_in_memory_early (place_of to.target) to.plain)

  cas_at_early : (size : Size) (word address : ℕ) (p : Plain) → Early bus 9 (cas_at size word address space p)
  cas_at_early size word address p =
      reading_then bus (probe_few bus space address (bytes_of size)) refl (λ places.
      never_early bus 6 (never_then bus (never_sure bus (get_operand_of places)) (λ value.
      never_choose bus (cas_equal size word value p)
      (never_then bus (never_sure bus (put_operand_of places (bytes_of size) (data_register p (swap_word word).update))) (λ done. never_carried bus _))
      (never_carried bus _))))

  cas_early : (size : Size) (ea : Ea) (word word_at : ℕ) (p : Plain) → Row (cas_of size ea word word_at space p)
  cas_early size ea word word_at p =
      reading_then bus (resolve_few bus space ea size word_at p) refl (λ to. cas_at_early size word (place_of to.target) to.plain)

  cas2_early : (size : Size) (first second : ℕ) (p : Plain) → Row (cas2_of size first second space p)
  cas2_early size first second p =
      let len = bytes_of size in
      reading_then bus (probe_few bus space (register_of p (swap_word first).pointer) len) refl (λ ps.
      reading_then bus (probe_few bus space (register_of p (swap_word second).pointer) len) refl (λ qs.
      never_early bus 6 (never_then bus (never_sure bus (get_operand_of ps)) (λ one.
      never_then bus (never_sure bus (get_operand_of qs)) (λ two.
      never_choose bus (cas2_equal size first second one two p)
      (never_then bus (never_then bus (never_sure bus (put_operand_of ps len (data_register p (swap_word first).update)))
      (λ done. never_sure bus (put_operand_of qs len (data_register p (swap_word second).update)))) (λ done. never_carried bus _))
      (never_carried bus _))))))

  bounds_few : (size : Size) (ea : Ea) (word word_at : ℕ) (p : Plain) → Few bus 9 (compare_bounds_of size ea word word_at space p)
  bounds_few size ea word word_at p = few_then bus (address_few bus space size ea word_at p) (λ place.
      few_then bus (operand_few bus space place (bytes_of size)) (λ lower.
      few_then bus (operand_few bus space (sum place (bytes_of size)) (bytes_of size)) (λ upper. few_done bus _)))

  cmp2_early : (size : Size) (ea : Ea) (word word_at : ℕ) (p : Plain) → Row (cmp2_of size ea word word_at space p)
  cmp2_early size ea word word_at p = reading_then bus (bounds_few size ea word word_at p) refl (λ ccr. early_none bus 3 _)

  perform_arith_early : (i : Arith) (word_at : ℕ) (p : Plain) → Row (perform_arith_of i word_at space p)
  perform_arith_early (arithmetic.Add register to_memory size ea) word_at p = either_way_early (added size) register to_memory size ea word_at p
  perform_arith_early (arithmetic.Sub register to_memory size ea) word_at p = either_way_early (subtracted size) register to_memory size ea word_at p
  perform_arith_early (arithmetic.And register to_memory size ea) word_at p =
      either_way_early (logic_of logic.And size) register to_memory size ea word_at p
  perform_arith_early (arithmetic.Or register to_memory size ea) word_at p =
      either_way_early (logic_of logic.Or size) register to_memory size ea word_at p
  perform_arith_early (arithmetic.Eor register size ea) word_at p = either_way_early (logic_of logic.Eor size) register true size ea word_at p
  perform_arith_early (arithmetic.Addi size ea immediate) word_at p = combine_early (added size) size (Imm immediate) ea word_at p
  perform_arith_early (arithmetic.Subi size ea immediate) word_at p = combine_early (subtracted size) size (Imm immediate) ea word_at p
  perform_arith_early (arithmetic.Andi size ea immediate) word_at p = combine_early (logic_of logic.And size) size (Imm immediate) ea word_at p
  perform_arith_early (arithmetic.Ori size ea immediate) word_at p = combine_early (logic_of logic.Or size) size (Imm immediate) ea word_at p
  perform_arith_early (arithmetic.Eori size ea immediate) word_at p = combine_early (logic_of logic.Eor size) size (Imm immediate) ea word_at p
  perform_arith_early (arithmetic.Addx destination size in_memory source) word_at p =
      chain_early (added_extended size) size in_memory source destination word_at p
  perform_arith_early (arithmetic.Subx destination size in_memory source) word_at p =
      chain_early (subtracted_extended size) size in_memory source destination word_at p
  perform_arith_early (arithmetic.Cmp register size ea) word_at p = compare_early size ea (Dn register) word_at p
  perform_arith_early (arithmetic.Cmpi size ea immediate) word_at p = compare_early size (Imm immediate) ea word_at p
  perform_arith_early (arithmetic.Cmpm destination size source) word_at p = compare_early size (Post source) (Post destination) word_at p
  perform_arith_early (arithmetic.Addq quick size ea) word_at p = quick_early (added size quick) (λ address. sum address quick) size ea word_at p
  perform_arith_early (arithmetic.Subq quick size ea) word_at p =
      quick_early (subtracted size quick) (λ address. difference address quick) size ea word_at p
  perform_arith_early (arithmetic.Adda register size ea) word_at p = take_early (address_moved sum register size) size ea word_at p
  perform_arith_early (arithmetic.Suba register size ea) word_at p = take_early (address_moved difference register size) size ea word_at p
  perform_arith_early (arithmetic.Cmpa register size ea) word_at p = take_early (address_compared register size) size ea word_at p
  perform_arith_early (arithmetic.Neg size ea) word_at p = modify_early (negated size) size ea word_at p
  perform_arith_early (arithmetic.Negx size ea) word_at p = modify_early (negated_extended size) size ea word_at p
  perform_arith_early (arithmetic.Not size ea) word_at p = modify_early (complemented size) size ea word_at p
  perform_arith_early (arithmetic.Clr size ea) word_at p = clr_early size ea word_at p
  perform_arith_early (arithmetic.Tst size ea) word_at p = take_early (tst_effect size) size ea word_at p
  perform_arith_early (arithmetic.ExtW register) word_at p = early_none bus 12 _
  perform_arith_early (arithmetic.ExtL register) word_at p = early_none bus 12 _
  perform_arith_early (arithmetic.ExtbL register) word_at p = early_none bus 12 _
  perform_arith_early (arithmetic.OriCcr word) word_at p = early_none bus 12 _
  perform_arith_early (arithmetic.AndiCcr word) word_at p = early_none bus 12 _
  perform_arith_early (arithmetic.EoriCcr word) word_at p = early_none bus 12 _
  perform_arith_early (arithmetic.ShiftReg count is_left size by_register kind register) word_at p = early_none bus 12 _
  perform_arith_early (arithmetic.ShiftMem kind is_left ea) word_at p = modify_early (shifted_by_one kind is_left) Word ea word_at p
  perform_arith_early (arithmetic.MulW register signed ea) word_at p = take_early (multiply_word_of signed register) Word ea word_at p
  perform_arith_early (arithmetic.MulL ea word) word_at p = take_early (multiply_long_of word) Long ea word_at p
  perform_arith_early (arithmetic.DivW register signed ea) word_at p = take_early (divide_word_of signed register) Word ea word_at p
  perform_arith_early (arithmetic.DivL ea word) word_at p = take_early (divide_long_of word) Long ea word_at p
  perform_arith_early (arithmetic.BitReg register kind ea) word_at p = bit_row_early kind (data_register p register) ea word_at p
  perform_arith_early (arithmetic.BitImm kind ea word) word_at p = bit_row_early kind word ea word_at p
  perform_arith_early (arithmetic.Nbcd ea) word_at p = modify_early negate_decimal_of Byte ea word_at p
  perform_arith_early (arithmetic.Abcd to in_memory from) word_at p = decimal_early abcd_of to in_memory from word_at p
  perform_arith_early (arithmetic.Sbcd to in_memory from) word_at p = decimal_early sbcd_of to in_memory from word_at p
  perform_arith_early (arithmetic.Pack to in_memory from word) word_at p = digits_early pack_of Word Byte to in_memory from word word_at p
  perform_arith_early (arithmetic.Unpk to in_memory from word) word_at p = digits_early unpk_of Byte Word to in_memory from word word_at p
  perform_arith_early (arithmetic.Field kind ea word) word_at p = field_early kind ea word word_at p
  perform_arith_early (arithmetic.Tas ea) word_at p = tas_early ea word_at p
  perform_arith_early (arithmetic.Cas size ea word) word_at p = cas_early size ea word word_at p
  perform_arith_early (arithmetic.Cas2 size first second) word_at p = cas2_early size first second p
  perform_arith_early (arithmetic.Cmp2 size ea word) word_at p = cmp2_early size ea word word_at p

  -- ---- what goes elsewhere

  call_early : (n target : ℕ) (p : Plain) → Early bus n (call_of target space p)
  call_early n target p = never_early bus n (never_then bus (push_never bus space _ _ _) (λ done. never_carried bus _))

  perform_flow_early : (i : Flow) (word_at : ℕ) (p : Plain) → Row (perform_flow_of i word_at space p)
  perform_flow_early flow.Nop word_at p = early_none bus 12 _
  perform_flow_early (flow.Bcc condition displacement) word_at p =
      early_choose bus (is_call condition) (call_early 12 (target_of word_at displacement) p) (early_none bus 12 _)
  perform_flow_early (flow.Dbcc condition register displacement) word_at p = early_none bus 12 _
  perform_flow_early (flow.Jmp ea) word_at p = reading_then bus (address_few bus space Long ea word_at p) refl (λ target. early_none bus 9 _)
  perform_flow_early (flow.Jsr ea) word_at p = reading_then bus (address_few bus space Long ea word_at p) refl (λ target. call_early 9 target p)
  perform_flow_early flow.Rts word_at p = reading_then bus (operand_few bus space (address_register p 7) 4) refl (λ target. early_none bus 9 _)
  perform_flow_early (flow.Rtd displacement) word_at p =
      reading_then bus (operand_few bus space (address_register p 7) 4) refl (λ target. early_none bus 9 _)
  perform_flow_early flow.Rtr word_at p =
      reading_then bus (operand_few bus space (address_register p 7) 2) refl (λ codes.
      reading_then bus (operand_few bus space _ 4) refl (λ target. early_none bus 6 _))
  perform_flow_early (flow.Trap number) word_at p = early_none bus 12 _
  perform_flow_early (flow.Trapcc condition operand) word_at p = early_none bus 12 _
  perform_flow_early flow.Trapv word_at p = early_none bus 12 _
  perform_flow_early (flow.Chk register size ea) word_at p = reading_then bus (fetched_few bus space size ea word_at p) refl (λ bound. early_none bus 6 _)
  perform_flow_early (flow.Chk2 size ea word) word_at p = reading_then bus (bounds_few size ea word word_at p) refl (λ ccr. early_none bus 3 _)

  row_early : (i : Instr) (at : ℕ) (p : Plain) → Row (row_of i at space p)
  row_early (instr.Move i) at p = perform_move_early i (operands_at (move_row i) at) p
  row_early (instr.Arith i) at p = perform_arith_early i (operands_at (arith_row i) at) p
  row_early (instr.Flow i) at p = perform_flow_early i (operands_at (flow_row i) at) p
  row_early (instr.System i) at p = early_none bus 12 _

  -- ---- an instruction

  unread_row : (p : Plain) (r : Rowed) → IsUnread (other_fault (restored p) r) → PartUnread r
  unread_row p (Ok done) u = u
  unread_row p (Err (Unread refused)) u = tt
  unread_row p (Err (Stop stop)) u = u

  pub perform_early : (i : Instr) (at : ℕ) (p : Plain) (s : S) → let m = perform_of i at space p in IsUnread ((run bus m s).0) → calls bus m s ≤ most_reads
  perform_early i at p s u =
      let row = row_early i at p in
      let few = row.early s (unread_row p ((run bus (row_of i at space p) s).0) u) in omega arith

  -- ---- an attempt

  judged_few : (n : ℕ) (d : Decoded) (m : Routine FoundInstr) → Few bus n m → Few bus n (by_decoded d m)
  judged_few n decoded.More m h = h
  judged_few n (decoded.Whole i k) m h = few_none bus n _
  judged_few n decoded.Illegal m h = few_none bus n _
  judged_few n decoded.LineA m h = few_none bus n _
  judged_few n decoded.LineF m h = few_none bus n _

  found_few : (n at : ℕ) (words : List ℕ) → Few bus n (found_of n space at words)
  unfolding found_of
  found_few zero at words = few_none bus 0 _
  found_few (suc n) at words =
      few_more bus (omega arith) (few_then bus (few_failing bus (λ fault. Unfetched (refused_in at fault)) (few_ask bus (Fetch space at))) (λ word.
      judged_few n (decode_of (words ++ word ∷ [])) _ (found_few n ((at + 2) % 2 ^ 32) (words ++ word ∷ []))))

  fetched_few_words : (pc : ℕ) → Few bus MOST_WORDS (fetched_of space pc)
  fetched_few_words pc = few_choose bus (pc % 2 == 1) (few_none bus MOST_WORDS _) (found_few MOST_WORDS pc [])

  abbrev Behind : Plain → FoundInstr → Routine Performed
  Behind p found = either found (λ unfound. Return (found_none unfound p)) (λ (i, n). perform_of i p.pc space (past n p))

  behind_early : (p : Plain) (found : FoundInstr) (t : S) → IsUnread ((run bus (Behind p found) t).0) → calls bus (Behind p found) t ≤ most_reads
  behind_early p (Ok (i, n)) t u = perform_early i p.pc (past n p) t u
  behind_early p (Err unfound) t u = omega arith

  pub attempt_early : (p : Plain) (s : S) → let m = attempt_of space p in IsUnread ((run bus m s).0) → calls bus m s ≤ MOST_WORDS + most_reads
  attempt_early p s u =
      let words = fetched_few_words p.pc in
      let fetched = words.few s in
      let (found, t) = run bus (fetched_of space p.pc) s in
      let behind = behind_early p found t u in omega arith

  -- ---- the condition codes: what moves

  move_codes : (size : Size) (destination source : Ea) (word_at : ℕ) (p : Plain) → HasFiveCodes p
      → CodesRow bus (move_operand_of size destination source word_at space p)
  move_codes size destination source word_at p h =
      reading_codes bus (fetched_codes bus space size source word_at p h) (λ from five.
      reading_codes bus (resolve_codes bus space destination size (behind_of size source word_at) from.plain five) (λ to same.
      finish_codes bus space to.target size from.value _ (moved_five size from.value to.plain.ccr)))

  movea_codes : (size : Size) (n : ℕ) (source : Ea) (word_at : ℕ) (p : Plain) → HasFiveCodes p → CodesRow bus (movea_of size n source word_at space p)
  movea_codes size n source word_at p h =
      reading_codes bus (fetched_codes bus space size source word_at p h) (λ from five. answers_done bus _ five)

  exg_five : (kind : Exchange) (m n : ℕ) (p : Plain) → HasFiveCodes p → HasFiveCodes (exg_of kind m n p)
  exg_five exchange.Data m n p h = register_five (with_register p m _) n _ (register_five p m _ h)
  exg_five exchange.Address m n p h = register_five (with_register p (8 + m) _) (8 + n) _ (register_five p (8 + m) _ h)
  exg_five exchange.DataAddress m n p h = register_five (with_register p m _) (8 + n) _ (register_five p m _ h)

  to_ccr_codes : (ea : Ea) (word_at : ℕ) (p : Plain) → HasFiveCodes p → CodesRow bus (move_to_ccr_of ea word_at space p)
  to_ccr_codes ea word_at p h =
      reading_codes bus (fetched_codes bus space Word ea word_at p h) (λ operand five. answers_done bus _ (omega arith))

  from_ccr_codes : (ea : Ea) (word_at : ℕ) (p : Plain) → HasFiveCodes p → CodesRow bus (move_from_ccr_of ea word_at space p)
  from_ccr_codes ea word_at p h =
      reading_codes bus (resolve_codes bus space ea Word word_at p h) (λ to five. finish_codes bus space to.target Word _ to.plain five)

  scc_codes : (c : Condition) (ea : Ea) (word_at : ℕ) (p : Plain) → HasFiveCodes p → CodesRow bus (scc_of c ea word_at space p)
  scc_codes c ea word_at p h =
      reading_codes bus (resolve_codes bus space ea Byte word_at p h) (λ to five. finish_codes bus space to.target Byte _ to.plain five)

  -- what was loaded before a refused transfer stays
  abbrev HalfwayLeft : Halfway → Type 0
  HalfwayLeft halfway = HasFiveCodes halfway.plain

  loaded_five : (mode : MovemMode) (size : Size) (p : Plain) (r value : ℕ) → HasFiveCodes p → HasFiveCodes (loaded_of mode size p r value)
  loaded_five mode.Control size p r value h = register_five p r _ h
  loaded_five (mode.Post n) size p r value h = either_plain (r == 8 + n) _ _ h (register_five p r _ h)
  loaded_five (mode.Pre n) size p r value h = register_five p r _ h

  stepped_five : (mode : MovemMode) (size : Size) (ea count : ℕ) (p : Plain) → HasFiveCodes p → HasFiveCodes (stepped_of mode size ea count p)
  stepped_five mode.Control size ea count p h = h
  stepped_five (mode.Post n) size ea count p h = h
  stepped_five (mode.Pre n) size ea count p h = h

  load_all_codes : (m : Movem) (first done : ℕ) (ts : List Transfer) (p : Plain) → HasFiveCodes p
      → Answers bus HasFiveCodes HalfwayLeft (load_all_of m space first done ts p)
  load_all_codes m first done [] p h = answers_done bus _ h
  load_all_codes m first done (t ∷ ts) p h =
      answers_then bus (answers_failing bus _ (λ refused u. h) (answers_any bus (read_operand_of space t.at (bytes_of m.size)))) (λ value u.
      load_all_codes m first (done + 1) ts (loaded_of m.mode m.size p t.register value) (loaded_five m.mode m.size p t.register value h))

  storing_codes : (m : Movem) (ea : ℕ) (p : Plain) → HasFiveCodes p → Answers bus HasFiveCodes HalfwayLeft (storing m ea 0 space p)
  storing_codes m ea p h =
      answers_then bus (answers_failing bus _ (λ fault u. h) (answers_any bus (store_all_of m space p ea 0 (drop 0 (transfers_of m ea)))))
      (λ stored u. answers_done bus _ h)

  transfer_codes : (m : Movem) (ea : ℕ) (p : Plain) → HasFiveCodes p → Answers bus HasFiveCodes HalfwayLeft (transfer_of m ea 0 space p)
  transfer_codes m ea p h =
      answers_then bus (answers_choose bus m.is_load (load_all_codes m ea 0 (drop 0 (transfers_of m ea)) p h) (storing_codes m ea p h)) (λ moved five.
      answers_done bus _ (stepped_five m.mode m.size ea (length (transfers_of m ea)) moved five))

  movem_codes : (is_load : Bool) (size : Size) (ea : Ea) (mask word_at : ℕ) (p : Plain) → HasFiveCodes p
      → CodesRow bus (movem_of is_load size ea mask word_at space p)
  movem_codes is_load size ea mask word_at p h =
      reading_codes bus (answers_any bus (find_address_of size ea word_at space p)) (λ place u.
      answers_then bus (answers_failing bus _ (λ halfway five. five) (transfer_codes (movem_by is_load size ea mask) place p h)) (λ moved five.
      answers_done bus _ five))

  pea_codes : (ea : Ea) (word_at : ℕ) (p : Plain) → HasFiveCodes p → CodesRow bus (pea_of ea word_at space p)
  pea_codes ea word_at p h =
      reading_codes bus (answers_any bus (find_address_of Long ea word_at space p)) (λ place u.
      answers_then bus (push_codes bus space place _ (stack_lowered p) h) (λ done v. answers_done bus _ h))

  link_codes : (n displacement : ℕ) (p : Plain) → HasFiveCodes p → CodesRow bus (link_of n displacement space p)
  link_codes n displacement p h =
      answers_then bus (push_codes bus space _ _ (linked n displacement (stack_lowered p)) h) (λ done u. answers_done bus _ h)

  load_apart_codes : (n : ℕ) (size : Size) (place : ℕ) (p : Plain) → HasFiveCodes p → CodesRow bus (load_peripheral_of n size place space p)
  load_apart_codes n size place p h =
      reading_codes bus (answers_any bus (read_apart_of space place size)) (λ value u. finish_codes bus space (Reg n) size value p h)

  store_apart_codes : (n : ℕ) (size : Size) (place : ℕ) (p : Plain) → HasFiveCodes p → CodesRow bus (store_peripheral_of n size place space p)
  store_apart_codes n size place p h =
      answers_then bus (ending_codes bus (λ refused. ended.WriteFault refused) p h
      (answers_any bus (write_apart_of space place size (data_register p n)))) (λ done u. answers_done bus _ h)

  movep_codes : (n : ℕ) (is_store : Bool) (size : Size) (address displacement : ℕ) (p : Plain) → HasFiveCodes p
      → CodesRow bus (movep_of n is_store size address displacement space p)
  movep_codes n is_store size address displacement p h =
      let place = sum (address_register p address) (sign_extended Word displacement) in
      answers_choose bus is_store (store_apart_codes n size place p h) (load_apart_codes n size place p h)

  line_codes : (from to : ℕ) (after : Plain) → HasFiveCodes after → CodesRow bus (move_line_of from to space after)
  line_codes from to after h =
      reading_codes bus (answers_any bus (failing (refused_in (line_address from)) (read_line space (line_address from)))) (λ moved u.
      answers_then bus (ending_codes bus (λ fault. ended.LineFault fault moved) after h (answers_any bus (write_line space (line_address to) moved)))
      (λ done v. answers_done bus _ h))

  move16_codes : (kind : LineMove) (n place : ℕ) (p : Plain) → HasFiveCodes p → CodesRow bus (move16_absolute_of kind n place space p)
  move16_codes line.PostToAbsolute n place p h = line_codes (address_register p n) place (past_line n p) h
  move16_codes line.AbsoluteToPost n place p h = line_codes place (address_register p n) (past_line n p) h
  move16_codes line.IndirectToAbsolute n place p h = line_codes (address_register p n) place p h
  move16_codes line.AbsoluteToIndirect n place p h = line_codes place (address_register p n) p h

  perform_move_codes : (i : Move) (word_at : ℕ) (p : Plain) → HasFiveCodes p → CodesRow bus (perform_move_of i word_at space p)
  perform_move_codes (move.Move size destination source) word_at p h = move_codes size destination source word_at p h
  perform_move_codes (move.Moveq register immediate) word_at p h =
      answers_done bus _ (moved_five Long (sign_extended Byte immediate) p.ccr)
  perform_move_codes (move.MovemLoad size ea mask) word_at p h = movem_codes true size ea mask word_at p h
  perform_move_codes (move.MovemStore size ea mask) word_at p h = movem_codes false size ea mask word_at p h
  perform_move_codes (move.Movea size register source) word_at p h = movea_codes size register source word_at p h
  perform_move_codes (move.Lea register ea) word_at p h =
      reading_codes bus (answers_any bus (find_address_of Long ea word_at space p)) (λ place u. answers_done bus _ h)
  perform_move_codes (move.Exg m kind n) word_at p h = answers_done bus _ (exg_five kind m n p h)
  perform_move_codes (move.Swap register) word_at p h =
      answers_done bus _ (moved_five Long (data_register p register % 2 ^ 16 * 2 ^ 16 + data_register p register / 2 ^ 16) p.ccr)
  perform_move_codes (move.ToCcr ea) word_at p h = to_ccr_codes ea word_at p h
  perform_move_codes (move.FromCcr ea) word_at p h = from_ccr_codes ea word_at p h
  perform_move_codes (move.Scc condition ea) word_at p h = scc_codes condition ea word_at p h
  perform_move_codes (move.Pea ea) word_at p h = pea_codes ea word_at p h
  perform_move_codes (move.LinkW register displacement) word_at p h = link_codes register (sign_extended Word displacement) p h
  perform_move_codes (move.LinkL register displacement) word_at p h = link_codes register displacement p h
  perform_move_codes (move.Unlk register) word_at p h =
      reading_codes bus (answers_any bus (read_operand_of space (address_register p register) 4)) (λ frame u. answers_done bus _ h)
  perform_move_codes (move.Movep register is_store size address displacement) word_at p h =
      movep_codes register is_store size address displacement p h
  perform_move_codes (move.Move16Abs kind register address) word_at p h = move16_codes kind register address p h
  perform_move_codes (move.Move16Post m word) word_at p h =
      let n = (line_word word).destination in
      line_codes (address_register p m) (address_register p n) (past_lines m n p) (either_plain (m == n) _ _ h h)

  -- ---- the condition codes: what computes

  -- what changes one operand, and what two come to, leave five codes
  abbrev Changes : (ℕ → ℕ → Flagged) → Type 0
  Changes change = (x ccr : ℕ) → (change x ccr).ccr < 2 ^ 5

  abbrev Combines : (ℕ → ℕ → ℕ → Flagged) → Type 0
  Combines operation = (x y ccr : ℕ) → (operation x y ccr).ccr < 2 ^ 5

  modify_codes : (change : ℕ → ℕ → Flagged) → Changes change → (size : Size) (ea : Ea) (word_at : ℕ) (p : Plain) → HasFiveCodes p
      → CodesRow bus (modify_of change size ea word_at space p)
  modify_codes change five size ea word_at p h =
      reading_codes bus (fetched_codes bus space size ea word_at p h) (λ operand same.
      finish_codes bus space operand.target size _ _ (five operand.value operand.plain.ccr))

  clr_codes : (size : Size) (ea : Ea) (word_at : ℕ) (p : Plain) → HasFiveCodes p → CodesRow bus (clr_of size ea word_at space p)
  clr_codes size ea word_at p h =
      reading_codes bus (resolve_codes bus space ea size word_at p h) (λ to same.
      finish_codes bus space to.target size 0 _ (moved_five size 0 to.plain.ccr))

  take_codes : (effect : ℕ → Plain → Rowed) → ((x : ℕ) (q : Plain) → HasFiveCodes q → Is CodesLeft CutLeft (effect x q))
      → (size : Size) (ea : Ea) (word_at : ℕ) (p : Plain) → HasFiveCodes p → CodesRow bus (take_of effect size ea word_at space p)
  take_codes effect five size ea word_at p h =
      reading_codes bus (fetched_codes bus space size ea word_at p h) (λ operand same. answers_done bus _ (five operand.value operand.plain same))

  pair_codes : (size : Size) (source destination : Ea) (word_at : ℕ) (p : Plain) → HasFiveCodes p
      → Answers bus (λ pair. HasFiveCodes pair.destination.plain) Whatever (fetch_pair_of size source destination word_at space p)
  pair_codes size source destination word_at p h =
      answers_then bus (fetched_codes bus space size source word_at p h) (λ from five.
      answers_then bus (fetched_codes bus space size destination (behind_of size source word_at) from.plain five) (λ to same.
      answers_done bus _ same))

  combine_codes : (operation : ℕ → ℕ → ℕ → Flagged) → Combines operation → (size : Size) (source destination : Ea) (word_at : ℕ) (p : Plain)
      → HasFiveCodes p → CodesRow bus (combine_of operation size source destination word_at space p)
  combine_codes operation five size source destination word_at p h =
      reading_codes bus (pair_codes size source destination word_at p h) (λ pair same.
      finish_codes bus space pair.destination.target size _ _ (five pair.source pair.destination.value pair.destination.plain.ccr))

  compare_codes : (size : Size) (source destination : Ea) (word_at : ℕ) (p : Plain) → HasFiveCodes p
      → CodesRow bus (compare_pair_of size source destination word_at space p)
  compare_codes size source destination word_at p h =
      reading_codes bus (pair_codes size source destination word_at p h) (λ pair same.
      answers_done bus _ (compare_five size pair.source pair.destination.value pair.destination.plain.ccr))

  either_way_codes : (operation : ℕ → ℕ → ℕ → Flagged) → Combines operation → (register : ℕ) (to_memory : Bool) (size : Size) (ea : Ea)
      (word_at : ℕ) (p : Plain) → HasFiveCodes p → CodesRow bus (combine_either_way_of operation register to_memory size ea word_at space p)
  unfolding combine_either_way_of
  either_way_codes operation five register to_memory size ea word_at p h =
      answers_choose bus to_memory (combine_codes operation five size (Dn register) ea word_at p h)
      (combine_codes operation five size ea (Dn register) word_at p h)

  chain_codes : (operation : ℕ → ℕ → ℕ → Flagged) → Combines operation → (size : Size) (in_memory : Bool) (source destination word_at : ℕ)
      (p : Plain) → HasFiveCodes p → CodesRow bus (chain_of operation size in_memory source destination word_at space p)
  unfolding chain_of
  chain_codes operation five size in_memory source destination word_at p h =
      answers_choose bus in_memory (combine_codes operation five size (Pre source) (Pre destination) word_at p h)
      (combine_codes operation five size (Dn source) (Dn destination) word_at p h)

  quick_to_codes : (o : Option ℕ) (change : ℕ → ℕ → Flagged) (moved : ℕ → ℕ) → Changes change → (size : Size) (ea : Ea) (word_at : ℕ) (p : Plain)
      → HasFiveCodes p → CodesRow bus (quick_to o change moved size ea word_at space p)
  quick_to_codes (Some n) change moved five size ea word_at p h = answers_done bus _ h
  quick_to_codes None change moved five size ea word_at p h = modify_codes change five size ea word_at p h

  quick_codes : (change : ℕ → ℕ → Flagged) (moved : ℕ → ℕ) → Changes change → (size : Size) (ea : Ea) (word_at : ℕ) (p : Plain) → HasFiveCodes p
      → CodesRow bus (combine_quick_of change moved size ea word_at space p)
  unfolding combine_quick_of
  quick_codes change moved five size ea word_at p h = quick_to_codes (address_number ea) change moved five size ea word_at p h

  divided_by_word_five : (n : ℕ) (d : Divided) (p : Plain) → DividesSo d → Is CodesLeft CutLeft (divided_by_word n d p)
  divided_by_word_five n (divided.Done quotient remainder ccr) p five = five
  divided_by_word_five n (divided.Overflow ccr) p five = five
  divided_by_word_five n (divided.ZeroDivide ccr) p five = five

  divided_by_long_five : (word : ℕ) (d : Divided) (p : Plain) → DividesSo d → Is CodesLeft CutLeft (divided_by_long word d p)
  divided_by_long_five word (divided.Done quotient remainder ccr) p five = five
  divided_by_long_five word (divided.Overflow ccr) p five = five
  divided_by_long_five word (divided.ZeroDivide ccr) p five = five

  multiply_long_five : (word value : ℕ) (p : Plain) → Is CodesLeft CutLeft (multiply_long_of word value p)
  multiply_long_five word value p =
      let w = pair_word word in
      either_plain w.is_wide (multiply_to_wide_of word value p) (multiply_to_long_of word value p)
      (product_five w.is_signed width.Wide value (data_register p w.low) p.ccr) (product_five w.is_signed width.Long value (data_register p w.low) p.ccr)

  bit_row_codes : (kind : BitKind) (number : ℕ) (ea : Ea) (word_at : ℕ) (p : Plain) → HasFiveCodes p → CodesRow bus (bit_row_of kind number ea word_at space p)
  bit_row_codes bit.Test number ea word_at p h =
      reading_codes bus (fetched_codes bus space (bit_size ea) ea word_at p h) (λ operand same.
      answers_done bus _ (bit_five bit.Test number (bit_size ea) operand.value operand.plain.ccr))
  bit_row_codes kind number ea word_at p h =
      modify_codes (change_bit_of kind number (bit_size ea)) (bit_five kind number (bit_size ea)) (bit_size ea) ea word_at p h

  abcd_five : Combines abcd_of
  abcd_five x y ccr = decimal_five _ _ ccr

  sbcd_five : Combines sbcd_of
  sbcd_five x y ccr = decimal_five _ _ ccr

  decimal_codes : (operation : ℕ → ℕ → ℕ → Flagged) → Combines operation → (to : ℕ) (in_memory : Bool) (from word_at : ℕ) (p : Plain) → HasFiveCodes p
      → CodesRow bus (decimal_of operation to in_memory from word_at space p)
  decimal_codes operation five to in_memory from word_at p h =
      reading_codes bus (fetched_codes bus space Byte (paired in_memory from) word_at p h) (λ source first.
      reading_codes bus (fetched_codes bus space Byte (paired in_memory to) word_at source.plain first) (λ destination same.
      finish_codes bus space destination.target Byte _ _ (five source.value destination.value destination.plain.ccr)))

  digits_codes : (operation : ℕ → ℕ → ℕ) (read written : Size) (to : ℕ) (in_memory : Bool) (from adjust word_at : ℕ) (p : Plain) → HasFiveCodes p
      → CodesRow bus (repack_of operation read written to in_memory from adjust word_at space p)
  digits_codes operation read written to in_memory from adjust word_at p h =
      reading_codes bus (fetched_codes bus space read (paired in_memory from) word_at p h) (λ source first.
      reading_codes bus (resolve_codes bus space (paired in_memory to) written word_at source.plain first) (λ destination five.
      finish_codes bus space destination.target written _ destination.plain five))

  field_done_five : (kind : FieldKind) (word old : ℕ) (p : Plain) → HasFiveCodes (field_done kind word old p)
  field_done_five kind word old p =
      field_five (field_width_of word p) (field_seen kind (field_width_of word p) old (data_register p (field_word word).register)) p.ccr

  field_in_memory_codes : (kind : FieldKind) (word address : ℕ) (p : Plain) → CodesRow bus (field_in_memory_of kind word address space p)
  field_in_memory_codes kind word address p =
      reading_codes bus (answers_any bus (read_operand_of space _ _)) (λ bytes u.
      answers_choose bus (is_change kind)
      (answers_then bus
      (ending_codes bus (λ refused. ended.WriteFault refused) _ (field_done_five kind word _ p) (answers_any bus (write_operand_of space _ _ _)))
      (λ done v. answers_done bus _ (field_done_five kind word _ p)))
      (answers_done bus _ (field_done_five kind word _ p)))

  field_codes : (kind : FieldKind) (ea : Ea) (word word_at : ℕ) (p : Plain) → CodesRow bus (bit_field_of kind ea word word_at space p)
  field_codes kind (Dn n) word word_at p =
      answers_done bus _ (either_plain (is_change kind) _ _ (field_done_five kind word _ p) (field_done_five kind word _ p))
  field_codes kind ea word word_at p =
      reading_codes bus (answers_any bus (find_address_of Long ea word_at space p)) (λ address u. field_in_memory_codes kind word address p)

  tas_in_memory_codes : (address : ℕ) (p : Plain) → CodesRow bus (tas_in_memory address space p)
  tas_in_memory_codes address p =
      reading_codes bus (answers_any bus (probe_operand_of space address 1)) (λ places u.
      answers_then bus (answers_sure bus (get_operand_of places)) (λ value v.
      answers_then bus (answers_sure bus (put_operand_of places 1 (test_and_set_of value p.ccr).value)) (λ done w.
      answers_done bus _ (moved_five Byte value p.ccr))))

  tas_codes : (ea : Ea) (word_at : ℕ) (p : Plain) → HasFiveCodes p → CodesRow bus (tas_of ea word_at space p)
  tas_codes (Dn n) word_at p h = modify_codes test_and_set_of (λ value ccr. moved_five Byte value ccr) Byte (Dn n) word_at p h
  tas_codes ea word_at p h =
      reading_codes bus (resolve_codes bus space ea Byte word_at p h) (λ to five. tas_in_memory_codes (place_of to.target) to.plain)

  cas_five : (size : Size) (word value : ℕ) (p : Plain) → cas_codes size word value p < 2 ^ 5
  cas_five size word value p = compare_five size (data_register p (swap_word word).compared) value p.ccr

  cas_at_codes : (size : Size) (word address : ℕ) (p : Plain) → CodesRow bus (cas_at size word address space p)
  cas_at_codes size word address p =
      reading_codes bus (answers_any bus (probe_operand_of space address (bytes_of size))) (λ places u.
      answers_then bus (answers_sure bus (get_operand_of places)) (λ value v.
      answers_choose bus (cas_equal size word value p)
      (answers_then bus (answers_sure bus (put_operand_of places (bytes_of size) (data_register p (swap_word word).update))) (λ done w.
      answers_done bus _ (cas_five size word value p)))
      (answers_done bus _ (cas_five size word value p))))

  cas_row_codes : (size : Size) (ea : Ea) (word word_at : ℕ) (p : Plain) → HasFiveCodes p → CodesRow bus (cas_of size ea word word_at space p)
  cas_row_codes size ea word word_at p h =
      reading_codes bus (resolve_codes bus space ea size word_at p h) (λ to five. cas_at_codes size word (place_of to.target) to.plain)

  either_code : (b : Bool) {x y : ℕ} → x < 2 ^ 5 → y < 2 ^ 5 → (if b then x else y) < 2 ^ 5
  either_code true h k = h
  either_code false h k = k

  cas2_codes_of : (size : Size) (first second : ℕ) (p : Plain) → CodesRow bus (cas2_of size first second space p)
  cas2_codes_of size first second p =
      let len = bytes_of size in
      reading_codes bus (answers_any bus (probe_operand_of space (register_of p (swap_word first).pointer) len)) (λ ps u.
      reading_codes bus (answers_any bus (probe_operand_of space (register_of p (swap_word second).pointer) len)) (λ qs u.
      answers_then bus (answers_sure bus (get_operand_of ps)) (λ one u.
      answers_then bus (answers_sure bus (get_operand_of qs)) (λ two u.
      let five : cas2_codes size first second one two p < 2 ^ 5 =
      either_code (cas_equal size first one p) (cas_five size second two p) (cas_five size first one p) in
      answers_choose bus (cas2_equal size first second one two p)
      (answers_then bus (answers_then bus (answers_sure bus (put_operand_of ps len (data_register p (swap_word first).update)))
      (λ done u. answers_sure bus (put_operand_of qs len (data_register p (swap_word second).update)))) (λ done u. answers_done bus _ five))
      (answers_done bus _ five)))))

  bounds_five : (size : Size) (ea : Ea) (word word_at : ℕ) (p : Plain)
      → Answers bus (λ ccr. ccr < 2 ^ 5) Whatever (compare_bounds_of size ea word word_at space p)
  bounds_five size ea word word_at p =
      answers_then bus (answers_any bus (find_address_of size ea word_at space p)) (λ place u.
      answers_then bus (answers_any bus (read_operand_of space place (bytes_of size))) (λ lower u.
      answers_then bus (answers_any bus (read_operand_of space (sum place (bytes_of size)) (bytes_of size))) (λ upper u.
      answers_done bus _ (bounds_codes_five size lower upper (register_word word).register p))))

  cmp2_codes : (size : Size) (ea : Ea) (word word_at : ℕ) (p : Plain) → CodesRow bus (cmp2_of size ea word word_at space p)
  cmp2_codes size ea word word_at p = reading_codes bus (bounds_five size ea word word_at p) (λ ccr five. answers_done bus _ five)

  perform_arith_codes : (i : Arith) (word_at : ℕ) (p : Plain) → HasFiveCodes p → CodesRow bus (perform_arith_of i word_at space p)
  perform_arith_codes (arithmetic.Add register to_memory size ea) word_at p h =
      either_way_codes (added size) (sum_five size false) register to_memory size ea word_at p h
  perform_arith_codes (arithmetic.Sub register to_memory size ea) word_at p h =
      either_way_codes (subtracted size) (difference_five size false) register to_memory size ea word_at p h
  perform_arith_codes (arithmetic.And register to_memory size ea) word_at p h =
      either_way_codes (logic_of logic.And size) (logic_five logic.And size) register to_memory size ea word_at p h
  perform_arith_codes (arithmetic.Or register to_memory size ea) word_at p h =
      either_way_codes (logic_of logic.Or size) (logic_five logic.Or size) register to_memory size ea word_at p h
  perform_arith_codes (arithmetic.Eor register size ea) word_at p h =
      either_way_codes (logic_of logic.Eor size) (logic_five logic.Eor size) register true size ea word_at p h
  perform_arith_codes (arithmetic.Addi size ea immediate) word_at p h =
      combine_codes (added size) (sum_five size false) size (Imm immediate) ea word_at p h
  perform_arith_codes (arithmetic.Subi size ea immediate) word_at p h =
      combine_codes (subtracted size) (difference_five size false) size (Imm immediate) ea word_at p h
  perform_arith_codes (arithmetic.Andi size ea immediate) word_at p h =
      combine_codes (logic_of logic.And size) (logic_five logic.And size) size (Imm immediate) ea word_at p h
  perform_arith_codes (arithmetic.Ori size ea immediate) word_at p h =
      combine_codes (logic_of logic.Or size) (logic_five logic.Or size) size (Imm immediate) ea word_at p h
  perform_arith_codes (arithmetic.Eori size ea immediate) word_at p h =
      combine_codes (logic_of logic.Eor size) (logic_five logic.Eor size) size (Imm immediate) ea word_at p h
  perform_arith_codes (arithmetic.Addx destination size in_memory source) word_at p h =
      chain_codes (added_extended size) (sum_five size true) size in_memory source destination word_at p h
  perform_arith_codes (arithmetic.Subx destination size in_memory source) word_at p h =
      chain_codes (subtracted_extended size) (difference_five size true) size in_memory source destination word_at p h
  perform_arith_codes (arithmetic.Cmp register size ea) word_at p h = compare_codes size ea (Dn register) word_at p h
  perform_arith_codes (arithmetic.Cmpi size ea immediate) word_at p h = compare_codes size (Imm immediate) ea word_at p h
  perform_arith_codes (arithmetic.Cmpm destination size source) word_at p h = compare_codes size (Post source) (Post destination) word_at p h
  perform_arith_codes (arithmetic.Addq quick size ea) word_at p h =
      quick_codes (added size quick) (λ address. sum address quick) (sum_five size false quick) size ea word_at p h
  perform_arith_codes (arithmetic.Subq quick size ea) word_at p h =
      quick_codes (subtracted size quick) (λ address. difference address quick) (difference_five size false quick) size ea word_at p h
  perform_arith_codes (arithmetic.Adda register size ea) word_at p h =
      take_codes (address_moved sum register size) (λ x q five. five) size ea word_at p h
  perform_arith_codes (arithmetic.Suba register size ea) word_at p h =
      take_codes (address_moved difference register size) (λ x q five. five) size ea word_at p h
  perform_arith_codes (arithmetic.Cmpa register size ea) word_at p h =
      take_codes (address_compared register size) (λ x q five. compare_five Long (sign_extended size x) (address_register q register) q.ccr)
      size ea word_at p h
  perform_arith_codes (arithmetic.Neg size ea) word_at p h =
      modify_codes (negated size) (λ x ccr. difference_five size false x 0 ccr) size ea word_at p h
  perform_arith_codes (arithmetic.Negx size ea) word_at p h =
      modify_codes (negated_extended size) (λ x ccr. difference_five size true x 0 ccr) size ea word_at p h
  perform_arith_codes (arithmetic.Not size ea) word_at p h =
      modify_codes (complemented size) (λ x ccr. logic_five logic.Not size x 0 ccr) size ea word_at p h
  perform_arith_codes (arithmetic.Clr size ea) word_at p h = clr_codes size ea word_at p h
  perform_arith_codes (arithmetic.Tst size ea) word_at p h =
      take_codes (tst_effect size) (λ x q five. moved_five size x q.ccr) size ea word_at p h
  perform_arith_codes (arithmetic.ExtW register) word_at p h =
      answers_done bus _ (moved_five Word (sign_extended Byte (data_register p register)) p.ccr)
  perform_arith_codes (arithmetic.ExtL register) word_at p h =
      answers_done bus _ (moved_five Long (sign_extended Word (data_register p register)) p.ccr)
  perform_arith_codes (arithmetic.ExtbL register) word_at p h =
      answers_done bus _ (moved_five Long (sign_extended Byte (data_register p register)) p.ccr)
  perform_arith_codes (arithmetic.OriCcr word) word_at p h = answers_done bus _ (omega arith)
  perform_arith_codes (arithmetic.AndiCcr word) word_at p h = answers_done bus _ (omega arith)
  perform_arith_codes (arithmetic.EoriCcr word) word_at p h = answers_done bus _ (omega arith)
  perform_arith_codes (arithmetic.ShiftReg count is_left size by_register kind register) word_at p h =
      answers_done bus _ (shift_five kind is_left size (shift_count_of by_register count p) (data_register p register) p.ccr)
  perform_arith_codes (arithmetic.ShiftMem kind is_left ea) word_at p h =
      modify_codes (shifted_by_one kind is_left) (shift_five kind is_left Word 1) Word ea word_at p h
  perform_arith_codes (arithmetic.MulW register signed ea) word_at p h =
      take_codes (multiply_word_of signed register) (λ x q five. product_five signed width.Word x (data_register q register) q.ccr) Word ea word_at p h
  perform_arith_codes (arithmetic.MulL ea word) word_at p h =
      take_codes (multiply_long_of word) (λ x q five. multiply_long_five word x q) Long ea word_at p h
  perform_arith_codes (arithmetic.DivW register signed ea) word_at p h =
      take_codes (divide_word_of signed register)
      (λ x q five. divided_by_word_five register _ q (division_five signed width.Word x (data_register q register) q.ccr)) Word ea word_at p h
  perform_arith_codes (arithmetic.DivL ea word) word_at p h =
      take_codes (divide_long_of word)
      (λ x q five. divided_by_long_five word _ q (division_five (pair_word word).is_signed (width_in word) x (dividend_of word q) q.ccr)) Long ea word_at p h
  perform_arith_codes (arithmetic.BitReg register kind ea) word_at p h = bit_row_codes kind (data_register p register) ea word_at p h
  perform_arith_codes (arithmetic.BitImm kind ea word) word_at p h = bit_row_codes kind word ea word_at p h
  perform_arith_codes (arithmetic.Nbcd ea) word_at p h =
      modify_codes negate_decimal_of (λ x ccr. sbcd_five (low_of Byte x) 0 ccr) Byte ea word_at p h
  perform_arith_codes (arithmetic.Abcd to in_memory from) word_at p h = decimal_codes abcd_of abcd_five to in_memory from word_at p h
  perform_arith_codes (arithmetic.Sbcd to in_memory from) word_at p h = decimal_codes sbcd_of sbcd_five to in_memory from word_at p h
  perform_arith_codes (arithmetic.Pack to in_memory from word) word_at p h = digits_codes pack_of Word Byte to in_memory from word word_at p h
  perform_arith_codes (arithmetic.Unpk to in_memory from word) word_at p h = digits_codes unpk_of Byte Word to in_memory from word word_at p h
  perform_arith_codes (arithmetic.Field kind ea word) word_at p h = field_codes kind ea word word_at p
  perform_arith_codes (arithmetic.Tas ea) word_at p h = tas_codes ea word_at p h
  perform_arith_codes (arithmetic.Cas size ea word) word_at p h = cas_row_codes size ea word word_at p h
  perform_arith_codes (arithmetic.Cas2 size first second) word_at p h = cas2_codes_of size first second p
  perform_arith_codes (arithmetic.Cmp2 size ea word) word_at p h = cmp2_codes size ea word word_at p

  -- ---- the condition codes: what goes elsewhere

  call_codes : (target : ℕ) (p : Plain) → HasFiveCodes p → CodesRow bus (call_of target space p)
  call_codes target p h =
      answers_then bus (push_codes bus space p.pc _ (record (stack_lowered p) { pc = target }) h) (λ done u. answers_done bus _ h)

  check_five : (size : Size) (bound value : ℕ) (p : Plain) → HasFiveCodes p → Is CodesLeft CutLeft (check_bound_of size bound value p)
  check_five size bound value p h =
      either_row (is_below size value || is_above size bound value) _ _ (five_bits (record (conditions_of p.ccr) { n = is_below size value })) h

  perform_flow_codes : (i : Flow) (word_at : ℕ) (p : Plain) → HasFiveCodes p → CodesRow bus (perform_flow_of i word_at space p)
  perform_flow_codes flow.Nop word_at p h = answers_done bus _ h
  perform_flow_codes (flow.Bcc condition displacement) word_at p h =
      answers_choose bus (is_call condition) (call_codes (target_of word_at displacement) p h)
      (answers_done bus _ (either_row (is_met condition p.ccr) _ _ h h))
  perform_flow_codes (flow.Dbcc condition register displacement) word_at p h =
      let counted = low_of Word (data_register (count_down_of register p) register) == 2 ^ 16 - 1 in
      answers_done bus _ (either_row (is_met condition p.ccr) _ _ h (either_row counted _ _ h h))
  perform_flow_codes (flow.Jmp ea) word_at p h =
      reading_codes bus (answers_any bus (find_address_of Long ea word_at space p)) (λ target u. answers_done bus _ h)
  perform_flow_codes (flow.Jsr ea) word_at p h =
      reading_codes bus (answers_any bus (find_address_of Long ea word_at space p)) (λ target u. call_codes target p h)
  perform_flow_codes flow.Rts word_at p h =
      reading_codes bus (answers_any bus (read_operand_of space (address_register p 7) 4)) (λ target u. answers_done bus _ h)
  perform_flow_codes (flow.Rtd displacement) word_at p h =
      reading_codes bus (answers_any bus (read_operand_of space (address_register p 7) 4)) (λ target u. answers_done bus _ h)
  perform_flow_codes flow.Rtr word_at p h =
      reading_codes bus (answers_any bus (read_operand_of space (address_register p 7) 2)) (λ codes u.
      reading_codes bus (answers_any bus (read_operand_of space _ 4)) (λ target v. answers_done bus _ (omega arith)))
  perform_flow_codes (flow.Trap number) word_at p h = answers_done bus _ h
  perform_flow_codes (flow.Trapcc condition operand) word_at p h = answers_done bus _ (either_row (is_met condition p.ccr) _ _ h h)
  perform_flow_codes flow.Trapv word_at p h = answers_done bus _ (either_row (is_met condition.OverflowSet p.ccr) _ _ h h)
  perform_flow_codes (flow.Chk register size ea) word_at p h =
      reading_codes bus (fetched_codes bus space size ea word_at p h) (λ bound five.
      answers_done bus _ (check_five size bound.value (data_register bound.plain register) bound.plain five))
  perform_flow_codes (flow.Chk2 size ea word) word_at p h =
      reading_codes bus (bounds_five size ea word word_at p) (λ ccr five. answers_done bus _ (either_row (conditions_of ccr).c _ _ five five))

  row_codes : (i : Instr) (at : ℕ) (p : Plain) → HasFiveCodes p → CodesRow bus (row_of i at space p)
  row_codes (instr.Move i) at p h = perform_move_codes i (operands_at (move_row i) at) p h
  row_codes (instr.Arith i) at p h = perform_arith_codes i (operands_at (arith_row i) at) p h
  row_codes (instr.Flow i) at p h = perform_flow_codes i (operands_at (flow_row i) at) p h
  row_codes (instr.System i) at p h = answers_done bus _ h

  restored_five : (p : Plain) (r : Rowed) → HasFiveCodes p → Is CodesLeft CutLeft r → LeavesFiveCodes (other_fault (restored p) r)
  restored_five p (Ok done) h five = five
  restored_five p (Err (Unread refused)) h five = h
  restored_five p (Err (Stop stop)) h five = five

  pub perform_codes : (i : Instr) (at : ℕ) (p : Plain) (s : S) → HasFiveCodes p → LeavesFiveCodes ((run bus (perform_of i at space p) s).0)
  perform_codes i at p s h =
      let row = row_codes i at p h in restored_five p ((run bus (row_of i at space p) s).0) h (row.answers s)
