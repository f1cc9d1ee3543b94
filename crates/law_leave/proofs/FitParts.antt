-- Parts of instructions over the held bus: operands, and the ends of rows.
use Rattle.std.proofs.Common.{ℕ, zero, suc, ◌+◌, ◌-◌, ◌*◌, ◌%◌, ◌^◌, ◌==◌, nat_lt, List, [], ◌∷◌, ◌++◌, arith, Result, Ok, Err}
use Rattle.mb_port.specs.Routine.{Routine, Return, ◌>>=◌, ◌>>◌, sure}
use Rattle.mb_port.specs.Pieces.{piece_len, cut, split_of}
use Rattle.mb_port.specs.declared.types.Space.{Space}
use Rattle.mb_port.specs.declared.types.Piece.{Piece}
use Rattle.mb_port.specs.declared.types.Place.{Place}
use Rattle.mb_instr.specs.declared.size.Size.{Size}
use Rattle.mb_instr.specs.declared.size.Size.TheVariants.{Byte, Word, Long}
use Rattle.mb_instr.specs.declared.operand.Ea.{Ea}
use Rattle.mb_instr.specs.declared.operand.Ea.TheVariants.{Dn, An, Ind, Post, Pre, Disp, Index, AbsW, AbsL, PcDisp, PcIndex, Imm}
use Rattle.mb_instr.specs.declared.operand.Ext.{Ext}
use Rattle.mb_instr.specs.declared.operand.Ext.TheVariants.{Brief, Full}
use Rattle.mb_instr.specs.declared.registers.Plain.{Plain}
use Rattle.mb_instr.specs.Sizes.{bytes_of}
use Rattle.mb_instr.specs.Registers.{address_register}
use Rattle.mb_frames.specs.declared.pend.Pend.{Pend}
use Rattle.mb_frames.specs.AccessFields.{piece_of}
use Rattle.mb_ea.specs.declared.addresses.Target.{Target}
use Rattle.mb_ea.specs.declared.addresses.Target.TheVariants.{Reg, Memory, Value}
use Rattle.mb_ea.specs.declared.reading.ReadFault.{ReadFault}
use Rattle.mb_ea.specs.Addresses.{sum, increment_of}
use Rattle.mb_ea.specs.Reading.{read_pieces_of, refused_in, read_operand_of}
use Rattle.mb_ea.specs.Resolve.{parts_of, indirect_of, full_of, indexed_of, Resolved, in_memory, resolve_of}
use Rattle.mb_writes.specs.declared.ends.WriteFault.{WriteFault}
use Rattle.mb_writes.specs.declared.ends.Ended.TheVariants as ended
use Rattle.mb_writes.specs.Writing as writes
use Rattle.mb_writes.specs.Writing.{part_of, pending_of, write_fault_at, write_pieces_of, write_operand_of, apart, write_apart_of}
use Rattle.def_instructions.specs.Ends.{Carried, OtherEnd, Cut, Unread, Stop, Rowed, reading, writing}
use Rattle.def_instructions.specs.Operands.{load_of, store_of, Fetched, fetch_operand_of, find_address_of, finish_with_of, push_of}
use Rattle.mb_writes.specs.Checked.{probe_pieces_of, probe_operand_of}
use Rattle.def_instructions.specs.Peripheral.{read_apart_of}
use Rattle.law_tells.specs.Laws.{AreLongs}
use Rattle.law_tells.proofs.Ranges.{IsFormed}
use Rattle.law_tells.proofs.Longs.{IsReached, sum_long, difference_long, extended_long, address_long, with_long}
use Rattle.law_tells.proofs.Operands.{place_long}
use Rattle.mb_instr.specs.declared.instruction.Instr.{Instr}
use Rattle.law_leave.specs.Fits.{IsLong, HaveAddresses, EndFits}
use Rattle.law_leave.proofs.Fits.{IsAnswer, any, Answers, answers_then, answers_ok, answers_err, answers_failing, answers_choose, answers_sure}
use Rattle.law_leave.proofs.Fits.{FaultFits, reading_fits, probing_fits, writing_fits}

-- ---- what parts answer

abbrev pub ReadFits : ReadFault → Type 0
ReadFits r = IsLong r.fault.at × IsLong r.first

abbrev pub WriteFits : WriteFault → Type 0
WriteFits r = IsLong r.fault.at × IsLong r.first × HaveAddresses r.rest.items

abbrev pub StopFits : Instr → OtherEnd → Type 0
StopFits i s = EndFits i s.ended × IsLong s.plain.pc

abbrev pub CutFits : Instr → Cut OtherEnd → Type 0
CutFits i (Unread r) = ReadFits r
CutFits i (Stop s) = StopFits i s

-- address registers and PC are longs
abbrev pub IsFit : Plain → Type 0
IsFit p = AreLongs p.a × IsLong p.pc

abbrev pub Reads : {A : Type 0} → (A → Type 0) → Routine (Result A ReadFault) → Type 0
Reads P m = Answers P ReadFits m

abbrev pub Writes : {A : Type 0} → Routine (Result A WriteFault) → Type 0
Writes m = Answers any WriteFits m

abbrev pub Row : Instr → Routine Rowed → Type 0
Row i m = Answers any (CutFits i) m

-- ---- rows

module _ (i : Instr) where
  pub row_done : (done : Carried) → Row i (Return (Ok done))
  row_done done = answers_ok done tt

  pub row_ends : (end : Rowed) → IsAnswer any (CutFits i) end → Row i (Return end)
  row_ends (Ok done) h = answers_ok done tt
  row_ends (Err cut) h = answers_err cut h

  pub row_reading : {A : Type 0} {P : A → Type 0} {m : Routine (Result A ReadFault)} {f : A → Routine Rowed}
      → Reads P m → ((a : A) → P a → Row i (f a)) → Row i (reading m >>= f)
  row_reading h more = answers_then (answers_failing (λ refused. Unread refused) h (λ e k. k)) more

  pub row_writing : {A : Type 0} {m : Routine (Result A WriteFault)} {f : A → Routine Rowed} (after : Plain) → IsLong after.pc
      → Writes m → ((a : A) → Row i (f a)) → Row i (writing after m >>= f)
  row_writing after pc h more =
      answers_then (answers_failing (λ refused. Stop (record { ended = ended.WriteFault refused; plain = after })) h (λ e k. (k, pc))) (λ a u. more a)

  pub row_sure : {A : Type 0} {m : Routine A} {f : A → Routine Rowed} → ((a : A) → Row i (f a)) → Row i (sure m >>= f)
  row_sure {m = m} more = answers_then (answers_sure m) (λ a u. more a)

-- ---- pieces

abbrev AreAt : List Piece → Type 0
AreAt [] = Unit {0}
AreAt (p ∷ ps) = IsLong p.at × AreAt ps

cut_at : (n at left : ℕ) → IsLong at → AreAt (cut n at left)
cut_at zero at left h = tt
cut_at (suc n) at zero h = tt
cut_at (suc n) at (suc left) h = (h, cut_at n ((at + piece_len at (suc left)) % 2 ^ 32) (suc left - piece_len at (suc left)) (omega arith))

apart_at : (at n : ℕ) → IsLong at → AreAt (apart at n)
apart_at at zero h = tt
apart_at at (suc n) h = (h, apart_at ((at + 2) % 2 ^ 32) n (omega arith))

pending_at : (ps : List Piece) (before_end value : ℕ) → AreAt ps → HaveAddresses (writes.parts_of ps before_end value)
pending_at [] before_end value h = tt
pending_at (p ∷ ps) before_end value h = (h.0, pending_at ps (before_end - p.len) value h.1)

module _ (space : Space) where
  pieces_fit : (ps : List Piece) (value : ℕ) → AreAt ps → Answers any FaultFits (read_pieces_of space ps value)
  pieces_fit [] value h = answers_ok value tt
  pieces_fit (p ∷ ps) value h = answers_then (reading_fits space p h.0) (λ x u. pieces_fit ps (value * 256 ^ p.len + x) h.1)

  pub read_fits : (at len : ℕ) → IsLong at → Reads any (read_operand_of space at len)
  unfolding read_operand_of
  read_fits at len h = answers_failing (refused_in at) (pieces_fit (split_of at len) 0 (cut_at 3 at len h)) (λ f k. (k, h))

  pub read_apart_fits : (at : ℕ) (size : Size) → IsLong at → Reads any (read_apart_of space at size)
  read_apart_fits at size h = answers_failing (refused_in at) (pieces_fit (apart at (bytes_of size)) 0 (apart_at at (bytes_of size) h)) (λ f k. (k, h))

  probes_fit : (ps : List Piece) (places : List Place) → AreAt ps → Answers any FaultFits (probe_pieces_of space ps places)
  probes_fit [] places h = answers_ok places tt
  probes_fit (p ∷ ps) places h = answers_then (probing_fits space p h.0) (λ place u. probes_fit ps (places ++ place ∷ []) h.1)

  pub probe_fits : (at len : ℕ) → IsLong at → Reads any (probe_operand_of space at len)
  probe_fits at len h = answers_failing (refused_in at) (probes_fit (split_of at len) [] (cut_at 3 at len h)) (λ f k. (k, h))

  pub all_fit : (first : ℕ) (ps : List Pend) → IsLong first → HaveAddresses ps → Writes (write_pieces_of space first ps)
  all_fit first [] h are = answers_ok tt tt
  all_fit first (p ∷ ps) h are =
      answers_then (answers_failing (write_fault_at first (p ∷ ps)) (writing_fits space (piece_of p) p.value are.0) (λ f k. (k, h, are)))
      (λ done u. all_fit first ps h are.1)

  pub put_fits : (at len value : ℕ) → IsLong at → Writes (write_operand_of space at len value)
  unfolding write_operand_of
  put_fits at len value h = all_fit at (pending_of at len value) h (pending_at (split_of at len) len value (cut_at 3 at len h))

  pub put_apart_fits : (at : ℕ) (size : Size) (value : ℕ) → IsLong at → Writes (write_apart_of space at size value)
  put_apart_fits at Byte value h = all_fit at (writes.parts_of (apart at 1) 1 value) h (pending_at (apart at 1) 1 value (apart_at at 1 h))
  put_apart_fits at Word value h = all_fit at (writes.parts_of (apart at 2) 2 value) h (pending_at (apart at 2) 2 value (apart_at at 2 h))
  put_apart_fits at Long value h =
      answers_then (answers_failing (write_fault_at at []) (writing_fits space (record { at = at; len = 1 }) (part_of value 4 1) h) (λ f k. (k, h, tt)))
      (λ done u.
      let later = apart ((at + 2) % 2 ^ 32) 3 in
      all_fit at (writes.parts_of later 3 value) h (pending_at later 3 value (apart_at ((at + 2) % 2 ^ 32) 3 (omega arith))))

  -- ---- where a mode leads

  abbrev IsResolved : Resolved → Type 0
  IsResolved r = IsReached r.target × IsFit r.plain

  indirect_fits : (at outer : ℕ) → IsLong at → Reads IsLong (indirect_of space at outer)
  indirect_fits at outer h = answers_then (read_fits at 4 h) (λ long u. answers_ok (sum long outer) (sum_long long outer))

  full_fits : (base w bd od : ℕ) (p : Plain) → Reads IsLong (full_of w (parts_of base w bd od p) space)
  full_fits base w bd od p =
      let parts = parts_of base w bd od p in
      let at = sum parts.base parts.displacement in
      answers_choose (w % 8 == 0) (answers_ok (sum at parts.index) (sum_long at parts.index))
      (answers_choose (nat_lt (w % 8) 4) (indirect_fits (sum at parts.index) parts.outer (sum_long at parts.index))
      (indirect_fits at (sum parts.index parts.outer) (sum_long parts.base parts.displacement)))

  indexed_fits : (base : ℕ) (e : Ext) (p : Plain) → Reads IsLong (indexed_of base e space p)
  indexed_fits base (Brief w) p = answers_ok _ (sum_long _ _)
  indexed_fits base (Full w bd od) p = full_fits base w bd od p

  in_memory_fits : (base : ℕ) (e : Ext) (p : Plain) → IsFit p → Reads IsResolved (in_memory p (indexed_of base e space p))
  in_memory_fits base e p fit = answers_then (indexed_fits base e p) (λ at is. answers_ok _ (is, fit))

  pub resolve_fits : (ea : Ea) (size : Size) (word_at : ℕ) (p : Plain) → IsFormed ea → IsFit p
      → Reads (λ r. IsReached r.target × IsFit r.plain) (resolve_of ea size word_at space p)
  unfolding resolve_of
  resolve_fits (Dn n) size word_at p is fit = answers_ok _ (tt, fit)
  resolve_fits (An n) size word_at p is fit = answers_ok _ (tt, fit)
  resolve_fits (Ind n) size word_at p is fit = answers_ok _ (address_long p n fit.0, fit)
  resolve_fits (Post n) size word_at p is fit =
      answers_ok _ (address_long p n fit.0, (with_long p n _ fit.0 (sum_long (address_register p n) (increment_of size n)), fit.1))
  resolve_fits (Pre n) size word_at p is fit =
      let lt = difference_long (address_register p n) (increment_of size n) in
      answers_ok _ (lt, (with_long p n _ fit.0 lt, fit.1))
  resolve_fits (Disp n d) size word_at p is fit = answers_ok _ (sum_long (address_register p n) _, fit)
  resolve_fits (Index n e) size word_at p is fit = in_memory_fits (address_register p n) e p fit
  resolve_fits (AbsW a) size word_at p is fit = answers_ok _ (extended_long a is, fit)
  resolve_fits (AbsL a) size word_at p is fit = answers_ok _ (is, fit)
  resolve_fits (PcDisp d) size word_at p is fit = answers_ok _ (sum_long word_at _, fit)
  resolve_fits (PcIndex e) size word_at p is fit = in_memory_fits word_at e p fit
  resolve_fits (Imm v) size word_at p is fit = answers_ok _ (tt, fit)

  -- ---- operands

  abbrev pub IsFetched : Fetched → Type 0
  IsFetched f = IsReached f.target × IsFit f.plain

  load_fits : (target : Target) (size : Size) (p : Plain) → IsReached target → Reads any (load_of target size space p)
  load_fits (Reg n) size p h = answers_ok _ tt
  load_fits (Memory at) size p h = read_fits at (bytes_of size) h
  load_fits (Value v) size p h = answers_ok _ tt

  pub operand_fits : (size : Size) (ea : Ea) (word_at : ℕ) (p : Plain) → IsFormed ea → IsFit p → Reads IsFetched (fetch_operand_of size ea word_at space p)
  operand_fits size ea word_at p is fit =
      answers_then (resolve_fits ea size word_at p is fit) (λ resolved h.
      answers_then (load_fits resolved.target size resolved.plain h.0) (λ value u. answers_ok _ h))

  pub address_fits : (size : Size) (ea : Ea) (word_at : ℕ) (p : Plain) → IsFormed ea → IsFit p → Reads IsLong (find_address_of size ea word_at space p)
  address_fits size ea word_at p is fit =
      answers_then (resolve_fits ea size word_at p is fit) (λ resolved h. answers_ok _ (place_long resolved.target h.0))

  store_fits : (target : Target) (size : Size) (value : ℕ) (p : Plain) → IsReached target → Writes (store_of target size value space p)
  store_fits (Reg n) size value p h = answers_ok _ tt
  store_fits (Memory at) size value p h = answers_then (put_fits at (bytes_of size) value h) (λ done u. answers_ok p tt)
  store_fits (Value v) size value p h = answers_ok _ tt

  -- ---- the last parts of instructions

  pub storing_fits : (i : Instr) (target : Target) (size : Size) (value : ℕ) (after : Plain) → IsReached target → IsLong after.pc
      → Row i (finish_with_of target size value space after)
  storing_fits i target size value after h pc = row_writing i after pc (store_fits target size value after h) (λ done. row_done i _)

  pub pushing_fits : (i : Instr) (value top : ℕ) (done : Carried) → IsLong top → IsLong done.plain.pc
      → Row i (push_of value top space done.plain >> Return (Ok done))
  pushing_fits i value top done h pc = row_writing i done.plain pc (put_fits top 4 value h) (λ pushed. row_done i done)
