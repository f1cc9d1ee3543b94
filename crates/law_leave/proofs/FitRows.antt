-- Rows over the held bus: what each kind of instruction says where it is not carried out.
use Rattle.std.proofs.Common.{◌≡◌, ◌∙◌, ap, ℕ, zero, suc, ◌+◌, ◌-◌, ◌%◌, ◌^◌, ◌<◌, ◌≤◌, ◌==◌, nat_lt, ◌||◌, Bool, true, false, cond, List, [], ◌∷◌, ◌++◌, length, drop}
use Rattle.std.proofs.Common.{arith, refl, sym, subst, Option, Some, None}
use Rattle.mb_port.specs.Routine.{Return, ◌>>◌, run, failing, read_line, write_line}
use Rattle.mb_port.specs.declared.types.Space.{Space}
use Rattle.mb_instr.specs.declared.instruction.Instr.{Instr}
use Rattle.mb_instr.specs.declared.size.Size.{Size}
use Rattle.mb_instr.specs.declared.size.Size.TheVariants.{Byte, Word, Long}
use Rattle.mb_instr.specs.declared.operand.Ea.{Ea}
use Rattle.mb_instr.specs.declared.operand.Ea.TheVariants.{Dn, Pre}
use Rattle.mb_instr.specs.declared.kinds.BitKind.{BitKind}
use Rattle.mb_instr.specs.declared.kinds.BitKind.TheVariants as bit
use Rattle.mb_instr.specs.declared.kinds.Branch.{Branch}
use Rattle.mb_instr.specs.declared.kinds.Branch.TheVariants as displacement
use Rattle.mb_instr.specs.declared.kinds.Condition.{Condition}
use Rattle.mb_instr.specs.declared.kinds.Condition.TheVariants as condition
use Rattle.mb_instr.specs.declared.kinds.FieldKind.{FieldKind}
use Rattle.mb_instr.specs.declared.kinds.FieldKind.TheVariants as field
use Rattle.mb_instr.specs.declared.kinds.LineMove.{LineMove}
use Rattle.mb_instr.specs.declared.kinds.LineMove.TheVariants as line_move
use Rattle.mb_instr.specs.declared.registers.Plain.{Plain}
use Rattle.mb_instr.specs.Operands.{address_number}
use Rattle.mb_instr.specs.Sizes.{bytes_of, is_set, low_of, sign_extended}
use Rattle.mb_instr.specs.Registers.{data_register, address_register, register_of, with_register, with_data_register, with_address_register}
use Rattle.mb_instr.specs.FurtherWords.{line_word, swap_word}
use Rattle.mb_alu.specs.declared.conditions.Flagged.{Flagged}
use Rattle.mb_alu.specs.Conditions.{ccr_of, conditions_of}
use Rattle.mb_ea.specs.declared.addresses.Target.TheVariants.{Reg}
use Rattle.mb_ea.specs.Addresses.{sum}
use Rattle.mb_ea.specs.Reading.{refused_in}
use Rattle.mb_writes.specs.declared.ends.MovemFault.{MovemFault}
use Rattle.mb_writes.specs.declared.ends.Ended.TheVariants as ended
use Rattle.mb_writes.specs.declared.transfers.Movem.{Movem}
use Rattle.mb_writes.specs.declared.transfers.MovemMode.{MovemMode}
use Rattle.mb_writes.specs.declared.transfers.MovemMode.TheVariants as mode
use Rattle.mb_writes.specs.declared.transfers.Transfer.{Transfer}
use Rattle.mb_writes.specs.Transfers.{set_bits, count_of, mask_in, movem_in, transfers_of}
use Rattle.mb_writes.specs.Moving.{Halfway, refused_at, stored_of, store_all_of, loaded_of, load_all_of, transfer_of}
use Rattle.mb_writes.proofs.Bits.{length-transfers}
use Rattle.def_instructions.specs.Ends.{Unread, Stop, Rowed, carried, jumped, ended_otherwise, reading, ending}
use Rattle.def_instructions.specs.Operands.{stack_lowered, behind_of, place_of}
use Rattle.def_instructions.specs.Moves.{move_flags, move_operand_of, movea_of, lea_of, move_to_ccr_of, move_from_ccr_of, condition_byte, scc_of, movem_by, movem_of}
use Rattle.def_instructions.specs.Stack.{pea_of, linked, link_of, unlk_of}
use Rattle.def_instructions.specs.Peripheral.{movep_of}
use Rattle.def_instructions.specs.Lines.{line_address, move_line_of, past_line, past_lines, move16_absolute_of, move16_post_of}
use Rattle.def_instructions.specs.Modifying.{modify_of}
use Rattle.def_instructions.specs.Arithmetic.{Pair, fetch_pair_of, combine_of, compare_pair_of, combine_either_way_of, chain_of, quick_to, combine_quick_of, take_of}
use Rattle.def_instructions.specs.Unary.{clr_of}
use Rattle.def_instructions.specs.Bits.{bit_size, change_bit_of, bit_row_of}
use Rattle.def_instructions.specs.Decimals.{paired, decimal_of, repack_of}
use Rattle.def_instructions.specs.BitFields.{field_offset_of, field_width_of, is_change, bytes_before, bytes_held, field_done, field_in_memory_of, bit_field_of}
use Rattle.def_instructions.specs.Locked.{test_and_set_of, tas_in_memory, tas_of, cas_equal, cas_at, cas_of, cas2_equal, cas2_of}
use Rattle.def_instructions.specs.Conditions.{is_met}
use Rattle.def_instructions.specs.Flow.{target_of, is_call, call_of, go_if_met_of, branch_of, count_down_of, go_if_counted_of, dbcc_of, jmp_of, jsr_of}
use Rattle.def_instructions.specs.Returns.{rts_of, rtd_of, stack_raised_by_word, rtr_of}
use Rattle.def_instructions.specs.Traps.{out_of_bounds, trap_of, trapcc_of, trapv_of}
use Rattle.def_instructions.specs.Bounds.{is_below, is_above, check_bound_of, chk_of, compare_bounds_of, check_carry_of, cmp2_of, chk2_of}
use Rattle.def_processor.specs.Step.{movem_words}
use Rattle.law_tells.specs.Guarded.{IsLine}
use Rattle.law_tells.specs.Laws.{AreLongs}
use Rattle.law_tells.proofs.Ranges.{IsFormed}
use Rattle.law_tells.proofs.Longs.{sum_long, address_long, register_long, with_long, lowered_long, HaveAddresses, transfer_addresses}
use Rattle.law_tells.proofs.Operands.{place_long}
use Rattle.def_guests.specs.Guests.{Guest}
use Rattle.def_guests.specs.Held.{held_bus}
use Rattle.law_held.specs.Sound.{Sound}
use Rattle.law_leave.specs.Fits.{IsLong}
use Rattle.law_leave.proofs.Fits.{IsAnswer, any, Answers, goes_on, answers_then, answers_ok, in_other_words, answers_failing, answers_choose, answers_sure}
use Rattle.law_leave.proofs.Fits.{FaultFits, line_writing_fits, line_reading_fits}
use Rattle.law_leave.proofs.FitParts.{ReadFits, CutFits, IsFit, Reads, Row, row_done, row_ends, row_reading, row_writing, row_sure}
use Rattle.law_leave.proofs.FitParts.{read_fits, read_apart_fits, probe_fits, put_fits, put_apart_fits, resolve_fits, IsFetched, operand_fits}
use Rattle.law_leave.proofs.FitParts.{address_fits, storing_fits, pushing_fits}

-- ---- PC stays

pub with_register_pc : (p : Plain) (n value : ℕ) → (with_register p n value).pc ≡ p.pc
with_register_pc p n value = by_kind (nat_lt n 8)
  where
    by_kind : (b : Bool) → (cond b (with_data_register p n value) (with_address_register p (n - 8) value)).pc ≡ p.pc
    by_kind true = refl
    by_kind false = refl

loaded_pc : (m : MovemMode) (size : Size) (p : Plain) (r value : ℕ) → (loaded_of m size p r value).pc ≡ p.pc
loaded_pc mode.Control size p r value = with_register_pc p r (sign_extended size value)
loaded_pc (mode.Post n) size p r value = by_kind (r == 8 + n)
  where
    by_kind : (b : Bool) → (cond b p (with_register p r (sign_extended size value))).pc ≡ p.pc
    by_kind true = refl
    by_kind false = with_register_pc p r (sign_extended size value)
loaded_pc (mode.Pre n) size p r value = with_register_pc p r (sign_extended size value)

field_pc : (kind : FieldKind) (word old : ℕ) (p : Plain) → (field_done kind word old p).pc ≡ p.pc
field_pc field.Test word old p = refl
field_pc field.ExtractUnsigned word old p = refl
field_pc field.ExtractSigned word old p = refl
field_pc field.FindFirst word old p = refl
field_pc field.Change word old p = refl
field_pc field.Clear word old p = refl
field_pc field.Set word old p = refl
field_pc field.Insert word old p = refl

lines_pc : (m n : ℕ) (p : Plain) → (past_lines m n p).pc ≡ p.pc
lines_pc m n p = by_kind (m == n)
  where
    by_kind : (b : Bool) → (cond b (past_line m p) (past_line n (past_line m p))).pc ≡ p.pc
    by_kind true = refl
    by_kind false = refl

-- ---- transfers

bits_few : (mask k n : ℕ) → length (set_bits mask k n) ≤ n
unfolding set_bits
bits_few mask k zero = omega arith
bits_few mask k (suc n) = by_bit (is_set mask k) (bits_few mask (k + 1) n)
  where
    by_bit : (b : Bool) → length (set_bits mask (k + 1) n) ≤ n → length ((cond b (k ∷ []) []) ++ set_bits mask (k + 1) n) ≤ suc n
    by_bit true h = omega arith
    by_bit false h = omega arith

transfers_few : (m : Movem) (ea : ℕ) → length (transfers_of m ea) ≤ 16
transfers_few m ea = let h = bits_few m.mask 0 16 in let e = length-transfers m ea in omega arith

-- of a MOVEM with so many transfers
abbrev MovemFits : ℕ → MovemFault → Type 0
MovemFits all f = IsLong f.fault.at × IsLong f.first × (f.done < all)

abbrev HalfFits : ℕ → Halfway → Type 0
HalfFits all h = MovemFits all h.fault × IsLong h.plain.pc

module _ (space : Space) (all : ℕ) where
  stores_fit : (m : Movem) (p : Plain) (first done : ℕ) (ts : List Transfer) → IsLong first → done + length ts ≤ all → HaveAddresses ts
      → Answers any (MovemFits all) (store_all_of m space p first done ts)
  stores_fit m p first done [] h few have = answers_ok tt tt
  stores_fit m p first done (t ∷ ts) h few have =
      answers_then (answers_failing (λ refused. refused_at first done refused.fault)
      (put_fits space t.at (bytes_of m.size) (stored_of m.mode m.size p t.register) have.0) (λ e k. (k.0, h, omega arith)))
      (λ stored u. stores_fit m p first (done + 1) ts h (omega arith) have.1)

  loads_fit : (m : Movem) (first done : ℕ) (ts : List Transfer) (p : Plain) → IsLong first → done + length ts ≤ all → HaveAddresses ts → IsLong p.pc
      → Answers (λ (q : Plain). IsLong q.pc) (HalfFits all) (load_all_of m space first done ts p)
  loads_fit m first done [] p h few have pc = answers_ok p pc
  loads_fit m first done (t ∷ ts) p h few have pc =
      answers_then (answers_failing (λ refused. record { fault = refused_at first done refused.fault; plain = p })
      (read_fits space t.at (bytes_of m.size) have.0) (λ e k. ((k.0, h, omega arith), pc)))
      (λ value u. loads_fit m first (done + 1) ts (loaded_of m.mode m.size p t.register value) h (omega arith) have.1
      (subst IsLong (sym (loaded_pc m.mode m.size p t.register value)) pc))

  transfer_fits : (m : Movem) (ea : ℕ) (p : Plain) → length (transfers_of m ea) ≡ all → IsLong ea → IsLong p.pc
      → Answers any (HalfFits all) (transfer_of m ea 0 space p)
  transfer_fits m ea p count h pc =
      let ts = transfers_of m ea in
      let few : 0 + length (drop 0 ts) ≤ all = omega arith in
      let have = transfer_addresses m ea 0 h in
      answers_then (answers_choose m.is_load (loads_fit m ea 0 (drop 0 ts) p h few have pc)
      (answers_then (answers_failing (λ fault. record { fault = fault; plain = p }) (stores_fit m p ea 0 (drop 0 ts) h few have) (λ e k. (k, pc)))
      (λ stored u. answers_ok p pc)))
      (λ moved u. answers_ok _ tt)

-- ---- rows

module _ (i : Instr) (space : Space) where
  -- either end
  ends_if : (b : Bool) (x y : Rowed) → IsAnswer any (CutFits i) x → IsAnswer any (CutFits i) y → IsAnswer any (CutFits i) (cond b x y)
  ends_if true x y h k = h
  ends_if false x y h k = k

  -- what moves

  pub move_fits : (size : Size) (destination source : Ea) (word_at : ℕ) (p : Plain) → IsFormed destination → IsFormed source → IsFit p
      → Row i (move_operand_of size destination source word_at space p)
  move_fits size destination source word_at p goes comes fit =
      row_reading i (operand_fits space size source word_at p comes fit) (λ from read.
      row_reading i (resolve_fits space destination size (behind_of size source word_at) from.plain goes read.1) (λ to found.
      storing_fits space i to.target size from.value (move_flags size from.value to.plain) found.0 found.1.1))

  pub movea_fits : (size : Size) (n : ℕ) (source : Ea) (word_at : ℕ) (p : Plain) → IsFormed source → IsFit p → Row i (movea_of size n source word_at space p)
  movea_fits size n source word_at p is fit = row_reading i (operand_fits space size source word_at p is fit) (λ from read. row_done i _)

  pub lea_fits : (n : ℕ) (ea : Ea) (word_at : ℕ) (p : Plain) → IsFormed ea → IsFit p → Row i (lea_of n ea word_at space p)
  lea_fits n ea word_at p is fit = row_reading i (address_fits space Long ea word_at p is fit) (λ place found. row_done i _)

  pub to_ccr_fits : (ea : Ea) (word_at : ℕ) (p : Plain) → IsFormed ea → IsFit p → Row i (move_to_ccr_of ea word_at space p)
  to_ccr_fits ea word_at p is fit = row_reading i (operand_fits space Word ea word_at p is fit) (λ operand read. row_done i _)

  pub from_ccr_fits : (ea : Ea) (word_at : ℕ) (p : Plain) → IsFormed ea → IsFit p → Row i (move_from_ccr_of ea word_at space p)
  from_ccr_fits ea word_at p is fit =
      row_reading i (resolve_fits space ea Word word_at p is fit) (λ to found. storing_fits space i to.target Word (p.ccr % 2 ^ 5) to.plain found.0 found.1.1)

  pub scc_fits : (c : Condition) (ea : Ea) (word_at : ℕ) (p : Plain) → IsFormed ea → IsFit p → Row i (scc_of c ea word_at space p)
  scc_fits c ea word_at p is fit =
      row_reading i (resolve_fits space ea Byte word_at p is fit) (λ to found.
      storing_fits space i to.target Byte (condition_byte (is_met c p.ccr)) to.plain found.0 found.1.1)

  pub movem_fits : (is_load : Bool) (size : Size) (ea : Ea) (mask word_at : ℕ) (p : Plain) → IsLong (movem_words i)
      → movem_in (movem_words i) ≡ movem_by is_load size ea mask → IsFormed ea → IsFit p
      → Row i (movem_of is_load size ea mask word_at space p)
  movem_fits is_load size ea mask word_at p words named is fit =
      let m = movem_by is_load size ea mask in
      let all = count_of (mask_in (movem_words i)) in
      let mask_is : count_of m.mask ≡ all = ap (λ (o : Movem). count_of o.mask) (sym named) in
      row_reading i (address_fits space size ea word_at p is fit) (λ place found.
      let count : length (transfers_of m place) ≡ all = length-transfers m place ∙ mask_is in
      answers_then (answers_failing (λ halfway. Stop (record { ended = ended.Movem halfway.fault; plain = halfway.plain }))
      (transfer_fits space all m place p count found fit.1)
      (λ e k. ((k.0.0, k.0.1, (let few = transfers_few m place in let less = k.0.2 in omega arith), words, k.0.2), k.1)))
      (λ moved u. row_done i _))

  pub pea_fits : (ea : Ea) (word_at : ℕ) (p : Plain) → IsFormed ea → IsFit p → Row i (pea_of ea word_at space p)
  pea_fits ea word_at p is fit =
      row_reading i (address_fits space Long ea word_at p is fit) (λ place found.
      let after = stack_lowered p in
      pushing_fits space i place (address_register after 7) (record { flow = false; plain = after }) (lowered_long p fit.0) fit.1)

  pub link_fits : (n displacement : ℕ) (p : Plain) → IsFit p → Row i (link_of n displacement space p)
  link_fits n displacement p fit =
      let low = stack_lowered p in
      pushing_fits space i (address_register low n) (address_register low 7) (record { flow = false; plain = linked n displacement low })
      (lowered_long p fit.0) fit.1

  pub unlk_fits : (n : ℕ) (p : Plain) → IsFit p → Row i (unlk_of n space p)
  unlk_fits n p fit = row_reading i (read_fits space (address_register p n) 4 (address_long p n fit.0)) (λ frame u. row_done i _)

  pub movep_fits : (n : ℕ) (is_store : Bool) (size : Size) (address displacement : ℕ) (p : Plain) → IsFit p
      → Row i (movep_of n is_store size address displacement space p)
  movep_fits n is_store size address displacement p fit =
      let place = sum (address_register p address) (sign_extended Word displacement) in
      let lt = sum_long (address_register p address) (sign_extended Word displacement) in
      answers_choose is_store (row_writing i p fit.1 (put_apart_fits space place size (data_register p n) lt) (λ done. row_done i _))
      (row_reading i (read_apart_fits space place size lt) (λ value u. storing_fits space i (Reg n) size value p tt fit.1))

  -- what reads an operand

  pub taking_fits : (effect : ℕ → Plain → Rowed) (size : Size) (ea : Ea) (word_at : ℕ) (p : Plain) → IsFormed ea → IsFit p
      → ((value : ℕ) (q : Plain) → IsFit q → IsAnswer any (CutFits i) (effect value q)) → Row i (take_of effect size ea word_at space p)
  taking_fits effect size ea word_at p is fit ends =
      row_reading i (operand_fits space size ea word_at p is fit) (λ operand read.
      row_ends i (effect operand.value operand.plain) (ends operand.value operand.plain read.1))

  pub modifying_fits : (change : ℕ → ℕ → Flagged) (size : Size) (ea : Ea) (word_at : ℕ) (p : Plain) → IsFormed ea → IsFit p
      → Row i (modify_of change size ea word_at space p)
  modifying_fits change size ea word_at p is fit =
      row_reading i (operand_fits space size ea word_at p is fit) (λ operand read.
      let result = change operand.value operand.plain.ccr in
      storing_fits space i operand.target size result.value (record operand.plain { ccr = result.ccr }) read.0 read.1.1)

  pair_fits : (size : Size) (source destination : Ea) (word_at : ℕ) (p : Plain) → IsFormed source → IsFormed destination → IsFit p
      → Reads (λ (pair : Pair). IsFetched space pair.destination) (fetch_pair_of size source destination word_at space p)
  pair_fits size source destination word_at p comes goes fit =
      answers_then (operand_fits space size source word_at p comes fit) (λ from read.
      answers_then (operand_fits space size destination (behind_of size source word_at) from.plain goes read.1) (λ to found. answers_ok _ found))

  pub combining_fits : (operation : ℕ → ℕ → ℕ → Flagged) (size : Size) (source destination : Ea) (word_at : ℕ) (p : Plain)
      → IsFormed source → IsFormed destination → IsFit p → Row i (combine_of operation size source destination word_at space p)
  combining_fits operation size source destination word_at p comes goes fit =
      row_reading i (pair_fits size source destination word_at p comes goes fit) (λ pair found.
      let to = pair.destination in
      let result = operation pair.source to.value to.plain.ccr in
      storing_fits space i to.target size result.value (record to.plain { ccr = result.ccr }) found.0 found.1.1)

  pub comparing_fits : (size : Size) (source destination : Ea) (word_at : ℕ) (p : Plain) → IsFormed source → IsFormed destination → IsFit p
      → Row i (compare_pair_of size source destination word_at space p)
  comparing_fits size source destination word_at p comes goes fit =
      row_reading i (pair_fits size source destination word_at p comes goes fit) (λ pair found. row_done i _)

  pub either_way_fits : (operation : ℕ → ℕ → ℕ → Flagged) (register : ℕ) (to_memory : Bool) (size : Size) (ea : Ea) (word_at : ℕ) (p : Plain)
      → IsFormed ea → IsFit p → Row i (combine_either_way_of operation register to_memory size ea word_at space p)
  unfolding combine_either_way_of
  either_way_fits operation register to_memory size ea word_at p is fit =
      answers_choose to_memory (combining_fits operation size (Dn register) ea word_at p tt is fit)
      (combining_fits operation size ea (Dn register) word_at p is tt fit)

  pub chaining_fits : (operation : ℕ → ℕ → ℕ → Flagged) (size : Size) (in_memory : Bool) (source destination word_at : ℕ) (p : Plain)
      → IsFit p → Row i (chain_of operation size in_memory source destination word_at space p)
  unfolding chain_of
  chaining_fits operation size in_memory source destination word_at p fit =
      answers_choose in_memory (combining_fits operation size (Pre source) (Pre destination) word_at p tt tt fit)
      (combining_fits operation size (Dn source) (Dn destination) word_at p tt tt fit)

  quick_to_fits : (o : Option ℕ) (change : ℕ → ℕ → Flagged) (moved : ℕ → ℕ) (size : Size) (ea : Ea) (word_at : ℕ) (p : Plain)
      → IsFormed ea → IsFit p → Row i (quick_to o change moved size ea word_at space p)
  quick_to_fits (Some n) change moved size ea word_at p is fit = row_done i _
  quick_to_fits None change moved size ea word_at p is fit = modifying_fits change size ea word_at p is fit

  pub quick_fits : (change : ℕ → ℕ → Flagged) (moved : ℕ → ℕ) (size : Size) (ea : Ea) (word_at : ℕ) (p : Plain)
      → IsFormed ea → IsFit p → Row i (combine_quick_of change moved size ea word_at space p)
  unfolding combine_quick_of
  quick_fits change moved size ea word_at p is fit = quick_to_fits (address_number ea) change moved size ea word_at p is fit

  pub clr_fits : (size : Size) (ea : Ea) (word_at : ℕ) (p : Plain) → IsFormed ea → IsFit p → Row i (clr_of size ea word_at space p)
  clr_fits size ea word_at p is fit =
      row_reading i (resolve_fits space ea size word_at p is fit) (λ to found.
      storing_fits space i to.target size 0 (move_flags size 0 to.plain) found.0 found.1.1)

  pub bit_row_fits : (kind : BitKind) (number : ℕ) (ea : Ea) (word_at : ℕ) (p : Plain) → IsFormed ea → IsFit p
      → Row i (bit_row_of kind number ea word_at space p)
  bit_row_fits bit.Test number ea word_at p is fit = row_reading i (operand_fits space (bit_size ea) ea word_at p is fit) (λ operand read. row_done i _)
  bit_row_fits bit.Change number ea word_at p is fit = modifying_fits (change_bit_of bit.Change number (bit_size ea)) (bit_size ea) ea word_at p is fit
  bit_row_fits bit.Clear number ea word_at p is fit = modifying_fits (change_bit_of bit.Clear number (bit_size ea)) (bit_size ea) ea word_at p is fit
  bit_row_fits bit.Set number ea word_at p is fit = modifying_fits (change_bit_of bit.Set number (bit_size ea)) (bit_size ea) ea word_at p is fit

  paired_formed : (in_memory : Bool) (n : ℕ) → IsFormed (paired in_memory n)
  paired_formed true n = tt
  paired_formed false n = tt

  pub decimal_fits : (operation : ℕ → ℕ → ℕ → Flagged) (m : ℕ) (in_memory : Bool) (n word_at : ℕ) (p : Plain) → IsFit p
      → Row i (decimal_of operation m in_memory n word_at space p)
  decimal_fits operation m in_memory n word_at p fit =
      row_reading i (operand_fits space Byte (paired in_memory n) word_at p (paired_formed in_memory n) fit) (λ source read.
      row_reading i (operand_fits space Byte (paired in_memory m) word_at source.plain (paired_formed in_memory m) read.1) (λ destination found.
      let result = operation source.value destination.value destination.plain.ccr in
      storing_fits space i destination.target Byte result.value (record destination.plain { ccr = result.ccr }) found.0 found.1.1))

  pub digits_fits : (operation : ℕ → ℕ → ℕ) (from to : Size) (m : ℕ) (in_memory : Bool) (n adjust word_at : ℕ) (p : Plain) → IsFit p
      → Row i (repack_of operation from to m in_memory n adjust word_at space p)
  digits_fits operation from to m in_memory n adjust word_at p fit =
      row_reading i (operand_fits space from (paired in_memory n) word_at p (paired_formed in_memory n) fit) (λ source read.
      row_reading i (resolve_fits space (paired in_memory m) to word_at source.plain (paired_formed in_memory m) read.1) (λ destination found.
      storing_fits space i destination.target to (operation source.value adjust) destination.plain found.0 found.1.1))

  field_in_memory_fits : (kind : FieldKind) (word address : ℕ) (p : Plain) → IsFit p → Row i (field_in_memory_of kind word address space p)
  field_in_memory_fits kind word address p fit =
      let first = sum address (bytes_before (field_offset_of word p)) in
      let lt = sum_long address (bytes_before (field_offset_of word p)) in
      row_reading i (read_fits space first (bytes_held (field_offset_of word p) (field_width_of word p)) lt) (λ bytes read.
      answers_choose (is_change kind)
      (row_writing i _ (subst IsLong (sym (field_pc kind word _ p)) fit.1) (put_fits space first _ _ lt) (λ written. row_done i _)) (row_done i _))

  pub field_row_fits : (kind : FieldKind) (ea : Ea) (word word_at : ℕ) (p : Plain) → IsFormed ea → IsFit p → Row i (bit_field_of kind ea word word_at space p)
  field_row_fits kind (Dn n) word word_at p is fit = row_done i _
  field_row_fits kind ea word word_at p is fit =
      row_reading i (address_fits space Long ea word_at p is fit) (λ address found. field_in_memory_fits kind word address p fit)

  -- what checks its operands for writing

  tas_in_memory_fits : (address : ℕ) (p : Plain) → IsLong address → Row i (tas_in_memory address space p)
  tas_in_memory_fits address p h =
      row_reading i (probe_fits space address 1 h) (λ places u. row_sure i (λ value. row_sure i (λ done. row_done i _)))

  pub tas_fits : (ea : Ea) (word_at : ℕ) (p : Plain) → IsFormed ea → IsFit p → Row i (tas_of ea word_at space p)
  tas_fits (Dn n) word_at p is fit = modifying_fits test_and_set_of Byte (Dn n) word_at p tt fit
  tas_fits ea word_at p is fit =
      row_reading i (resolve_fits space ea Byte word_at p is fit) (λ to found. tas_in_memory_fits (place_of to.target) to.plain (place_long to.target found.0))

  cas_at_fits : (size : Size) (word address : ℕ) (p : Plain) → IsLong address → Row i (cas_at size word address space p)
  cas_at_fits size word address p h =
      row_reading i (probe_fits space address (bytes_of size) h) (λ places u. row_sure i (λ value.
      answers_choose (cas_equal size word value p) (row_sure i (λ done. row_done i _)) (row_done i _)))

  pub cas_fits : (size : Size) (ea : Ea) (word word_at : ℕ) (p : Plain) → IsFormed ea → IsFit p → Row i (cas_of size ea word word_at space p)
  cas_fits size ea word word_at p is fit =
      row_reading i (resolve_fits space ea size word_at p is fit) (λ to found.
      cas_at_fits size word (place_of to.target) to.plain (place_long to.target found.0))

  pub cas2_fits : (size : Size) (first second : ℕ) (p : Plain) → AreLongs p.d → AreLongs p.a → Row i (cas2_of size first second space p)
  cas2_fits size first second p words longs =
      let len = bytes_of size in
      row_reading i (probe_fits space (register_of p (swap_word first).pointer) len (register_long p (swap_word first).pointer words longs)) (λ places u.
      row_reading i (probe_fits space (register_of p (swap_word second).pointer) len (register_long p (swap_word second).pointer words longs)) (λ others v.
      row_sure i (λ one. row_sure i (λ two.
      answers_choose (cas2_equal size first second one two p)
      (answers_then (answers_then (answers_sure _) (λ done w. answers_sure _)) (λ done w. row_done i _)) (row_done i _)))))

  -- what goes elsewhere

  call_fits : (target : ℕ) (p : Plain) → IsLong target → IsFit p → Row i (call_of target space p)
  call_fits target p h fit =
      let after = record (stack_lowered p) { pc = target } in
      pushing_fits space i p.pc (address_register after 7) (record { flow = true; plain = after }) (lowered_long p fit.0) h

  pub branch_fits : (c : Condition) (d : Branch) (word_at : ℕ) (p : Plain) → IsFit p → Row i (branch_of c d word_at space p)
  branch_fits c d word_at p fit =
      answers_choose (is_call c) (call_fits (target_of word_at d) p (sum_long word_at _) fit)
      (row_ends i (go_if_met_of c (target_of word_at d) p) (ends_if (is_met c p.ccr) (jumped (record p { pc = target_of word_at d })) (carried p) tt tt))

  pub dbcc_fits : (c : Condition) (n d word_at : ℕ) (p : Plain) → Row i (Return (dbcc_of c n d word_at p))
  dbcc_fits c n d word_at p =
      let target = target_of word_at (displacement.Word d) in
      let after = count_down_of n p in
      row_ends i (dbcc_of c n d word_at p) (ends_if (is_met c p.ccr) (carried p) (go_if_counted_of n target p) tt
      (ends_if (low_of Word (data_register after n) == 2 ^ 16 - 1) (carried after) (jumped (record after { pc = target })) tt tt))

  pub jmp_fits : (ea : Ea) (word_at : ℕ) (p : Plain) → IsFormed ea → IsFit p → Row i (jmp_of ea word_at space p)
  jmp_fits ea word_at p is fit = row_reading i (address_fits space Long ea word_at p is fit) (λ target found. row_done i _)

  pub jsr_fits : (ea : Ea) (word_at : ℕ) (p : Plain) → IsFormed ea → IsFit p → Row i (jsr_of ea word_at space p)
  jsr_fits ea word_at p is fit = row_reading i (address_fits space Long ea word_at p is fit) (λ target found. call_fits target p found fit)

  pub rts_fits : (p : Plain) → IsFit p → Row i (rts_of space p)
  rts_fits p fit = row_reading i (read_fits space (address_register p 7) (bytes_of Long) (address_long p 7 fit.0)) (λ target u. row_done i _)

  pub rtd_fits : (d : ℕ) (p : Plain) → IsFit p → Row i (rtd_of d space p)
  rtd_fits d p fit = row_reading i (read_fits space (address_register p 7) (bytes_of Long) (address_long p 7 fit.0)) (λ target u. row_done i _)

  pub rtr_fits : (p : Plain) → IsFit p → Row i (rtr_of space p)
  rtr_fits p fit =
      let up = stack_raised_by_word p in
      row_reading i (read_fits space (address_register p 7) (bytes_of Word) (address_long p 7 fit.0)) (λ codes u.
      row_reading i (read_fits space (address_register up 7) (bytes_of Long) (address_long up 7 (with_long p 7 _ fit.0 (sum_long (address_register p 7) 2))))
      (λ target v. row_done i _))

  pub trap_fits : (number : ℕ) (p : Plain) → IsFit p → Row i (Return (trap_of number p))
  trap_fits number p fit = row_ends i (trap_of number p) (tt, fit.1)

  pub trapcc_fits : (c : Condition) (p : Plain) → IsFit p → Row i (Return (trapcc_of c p))
  trapcc_fits c p fit = row_ends i (trapcc_of c p) (ends_if (is_met c p.ccr) _ _ (tt, fit.1) tt)

  pub trapv_fits : (p : Plain) → IsFit p → Row i (Return (trapv_of p))
  trapv_fits p fit = trapcc_fits condition.OverflowSet p fit

  checked_fits : (size : Size) (bound value : ℕ) (p : Plain) → IsFit p → IsAnswer any (CutFits i) (check_bound_of size bound value p)
  checked_fits size bound value p fit =
      let below = is_below size value in
      let codes = ccr_of (record (conditions_of p.ccr) { n = below }) in
      ends_if (below || is_above size bound value) (ended_otherwise out_of_bounds (record p { ccr = codes })) (carried p) (tt, fit.1) tt

  checked_carry_fits : (p : Plain) → IsFit p → IsAnswer any (CutFits i) (check_carry_of p)
  checked_carry_fits p fit = ends_if (conditions_of p.ccr).c (ended_otherwise out_of_bounds p) (carried p) (tt, fit.1) tt

  pub chk_fits : (n : ℕ) (size : Size) (ea : Ea) (word_at : ℕ) (p : Plain) → IsFormed ea → IsFit p → Row i (chk_of n size ea word_at space p)
  chk_fits n size ea word_at p is fit =
      row_reading i (operand_fits space size ea word_at p is fit) (λ bound read.
      let q = bound.plain in
      row_ends i (check_bound_of size bound.value (data_register q n) q) (checked_fits size bound.value (data_register q n) q read.1))

  bounds_fits : (size : Size) (ea : Ea) (w word_at : ℕ) (p : Plain) → IsFormed ea → IsFit p → Reads any (compare_bounds_of size ea w word_at space p)
  bounds_fits size ea w word_at p is fit =
      answers_then (address_fits space size ea word_at p is fit) (λ place found.
      answers_then (read_fits space place (bytes_of size) found) (λ lower u.
      answers_then (read_fits space (sum place (bytes_of size)) (bytes_of size) (sum_long place (bytes_of size))) (λ upper v. answers_ok _ tt)))

  pub cmp2_fits : (size : Size) (ea : Ea) (w word_at : ℕ) (p : Plain) → IsFormed ea → IsFit p → Row i (cmp2_of size ea w word_at space p)
  cmp2_fits size ea w word_at p is fit = row_reading i (bounds_fits size ea w word_at p is fit) (λ ccr u. row_done i _)

  pub chk2_fits : (size : Size) (ea : Ea) (w word_at : ℕ) (p : Plain) → IsFormed ea → IsFit p → Row i (chk2_of size ea w word_at space p)
  chk2_fits size ea w word_at p is fit =
      row_reading i (bounds_fits size ea w word_at p is fit) (λ ccr u.
      row_ends i (check_carry_of (record p { ccr = ccr })) (checked_carry_fits (record p { ccr = ccr }) fit))

  -- lines, of a sound guest

  line_is : (at : ℕ) → IsLong at → IsLine (line_address at)
  line_is at h = (omega arith, omega arith)

  line_fits : (size from to : ℕ) (after : Plain) (g : Guest) → Sound size g → IsLong from → IsLong to → IsLong after.pc
      → IsAnswer any (CutFits i) (run held_bus (move_line_of from to space after) g).0
  line_fits size from to after g s comes goes pc =
      let first = line_is from comes in
      let m = reading (failing (refused_in (line_address from)) (read_line space (line_address from))) in
      let got : IsAnswer AreLongs FaultFits (run held_bus (read_line space (line_address from)) g).0 = line_reading_fits size space
      (line_address from) g s first in
      let told = in_other_words AreLongs FaultFits ReadFits (refused_in (line_address from)) (run held_bus (read_line space (line_address from)) g).0 got
      (λ e k. (k, first.1)) in
      let cut = in_other_words AreLongs ReadFits (CutFits i) (λ refused. Unread refused)
      (run held_bus (failing (refused_in (line_address from)) (read_line space (line_address from))) g).0 told (λ e k. k) in
      goes_on {P = AreLongs} {Q = any} {F = CutFits i}
      (λ line. ending (λ fault. ended.LineFault fault line) after (write_line space (line_address to) line) >> Return (carried after))
      (run held_bus m g).0 (run held_bus m g).1 cut (λ line longs.
      answers_then (answers_failing (λ fault. Stop (record { ended = ended.LineFault fault line; plain = after }))
      (line_writing_fits space (line_address to) line (line_is to goes)) (λ e k. ((k, longs), pc))) (λ done u. row_done i _))

  pub move16_absolute_fits : (size : ℕ) (kind : LineMove) (n place : ℕ) (p : Plain) (g : Guest) → Sound size g → IsLong place → IsFit p
      → IsAnswer any (CutFits i) (run held_bus (move16_absolute_of kind n place space p) g).0
  move16_absolute_fits size line_move.PostToAbsolute n place p g s lt fit =
      line_fits size (address_register p n) place (past_line n p) g s (address_long p n fit.0) lt fit.1
  move16_absolute_fits size line_move.AbsoluteToPost n place p g s lt fit =
      line_fits size place (address_register p n) (past_line n p) g s lt (address_long p n fit.0) fit.1
  move16_absolute_fits size line_move.IndirectToAbsolute n place p g s lt fit =
      line_fits size (address_register p n) place p g s (address_long p n fit.0) lt fit.1
  move16_absolute_fits size line_move.AbsoluteToIndirect n place p g s lt fit =
      line_fits size place (address_register p n) p g s lt (address_long p n fit.0) fit.1

  pub move16_fits : (size m word : ℕ) (p : Plain) (g : Guest) → Sound size g → IsFit p
      → IsAnswer any (CutFits i) (run held_bus (move16_post_of m word space p) g).0
  move16_fits size m word p g s fit =
      let n = (line_word word).destination in
      line_fits size (address_register p m) (address_register p n) (past_lines m n p) g s (address_long p m fit.0) (address_long p n fit.0)
      (subst IsLong (sym (lines_pc m n p)) fit.1)
