-- Operands: what stands there, and what is put there.
use Rattle.std.specs.Prelude.{refl, false, ℕ, ◌%◌, ◌^◌, ◌<◌, ◌≤◌, ◌==◌, nat_lt, Result, Ok, List, [], ◌∷◌, length}
use Rattle.std.proofs.Common.{ap, ◌∙◌, arith}
use Rattle.mb_port.specs.Routine.{Write, Return, ◌>>◌, failing, tried, write}
use Rattle.mb_port.specs.declared.types.Space.{Space}
use Rattle.law_routines.specs.Tree.{graft, tree_of}
use Rattle.law_routines.proofs.Told.{tells_ok, tells_bind, tells_failing, tells_weaker, tells_choose, tells_write}
use Rattle.mb_instr.specs.declared.size.Size.{Size}
use Rattle.mb_instr.specs.declared.operand.Ea.{Ea}
use Rattle.mb_instr.specs.declared.operand.Ea.TheVariants.{Dn, An, Ind, Post, Pre, Disp, Index, AbsW, AbsL, PcDisp, PcIndex, Imm}
use Rattle.mb_instr.specs.declared.operand.Ext.{Ext}
use Rattle.mb_instr.specs.declared.operand.Ext.TheVariants.{Brief, Full}
use Rattle.mb_instr.specs.declared.registers.Plain.{Plain}
use Rattle.mb_instr.specs.Sizes.{bytes_of}
use Rattle.mb_instr.specs.Registers.{address_register}
use Rattle.mb_ea.specs.declared.addresses.Target.{Target}
use Rattle.mb_ea.specs.declared.addresses.Target.TheVariants.{Reg, Memory, Value}
use Rattle.mb_ea.specs.Addresses.{sum, increment_of}
use Rattle.mb_ea.specs.Reading.{read_operand_of}
use Rattle.mb_ea.specs.Resolve.{indirect_of, full_of, parts_of, indexed_of, in_memory, Resolved, resolve_of}
use Rattle.mb_writes.specs.declared.ends.WriteFault.{WriteFault}
use Rattle.mb_writes.specs.declared.transfers.Movem.{Movem}
use Rattle.mb_writes.specs.Writing.{write_fault_at, write_pieces_of, write_operand_of}
use Rattle.mb_frames.specs.declared.pend.Pend.{Pend}
use Rattle.mb_frames.specs.AccessFields.{piece_of}
use Rattle.def_instructions.specs.Ends.{Carried}
use Rattle.def_instructions.specs.Operands.{load_of, store_of, Fetched, fetch_operand_of, place_of, find_address_of, finish_with_of, push_of}
use Rattle.law_tells.specs.Guarded.{Guarded, Guards}
use Rattle.law_tells.specs.Left.{AreOwn}
use Rattle.law_tells.specs.Laws.{AreLongs}
use Rattle.law_tells.proofs.Ranges.{IsFormed}
use Rattle.law_tells.proofs.Longs.{IsReached, sum_long, difference_long, extended_long, address_long, with_long}
use Rattle.law_tells.proofs.Resumed.{then_nothing}
use Rattle.law_tells.proofs.Parts.{RowTells, Reads, Writes, reads_then, reads_none, row_writing}
use Rattle.law_tells.proofs.Pieces.{operand_tells, put_tells}

-- a target with an address, where it is in memory, and registers that are longs
IsResolved : Resolved → Type 0
IsResolved r = IsReached r.target × AreLongs r.plain.a

-- the same of an operand that was read
abbrev pub IsFetched : Fetched → Type 0
IsFetched f = IsReached f.target × AreLongs f.plain.a

abbrev pub IsAddress : ℕ → Type 0
IsAddress at = at < 2 ^ 32

pub place_long : (target : Target) → IsReached target → IsAddress (place_of target)
place_long (Reg n) h = omega arith
place_long (Memory at) h = h
place_long (Value v) h = omega arith

module _ {S : Type 0} (x : Guarded S) (space : Space) (g : Guards x space) where
  -- ---- what stands in memory

  pub reading_tells : (at len : ℕ) → at < 2 ^ 32 → Reads x (λ v. Unit {0}) (read_operand_of space at len)
  reading_tells at len h =
      tells_weaker (read_operand_of space at len) (operand_tells x space g at len h) (λ s q. q) (λ rest t e told. (told.0, told.1)) (λ a t q. (q, tt))

  -- ---- where a mode leads

  indirect_tells : (at outer : ℕ) → at < 2 ^ 32 → Reads x IsAddress (indirect_of space at outer)
  indirect_tells at outer h = reads_then x space (reading_tells at 4 h) (λ long is. reads_none x space (sum long outer) (sum_long long outer))

  full_tells : (base w bd od : ℕ) (p : Plain) → Reads x IsAddress (full_of w (parts_of base w bd od p) space)
  full_tells base w bd od p =
      let parts = parts_of base w bd od p in
      let at = sum parts.base parts.displacement in
      tells_choose (w % 8 == 0) _ _ (λ e. reads_none x space (sum at parts.index) (sum_long at parts.index))
      (λ e. tells_choose (nat_lt (w % 8) 4) _ _
      (λ f. indirect_tells (sum at parts.index) parts.outer (sum_long at parts.index))
      (λ f. indirect_tells at (sum parts.index parts.outer) (sum_long parts.base parts.displacement)))

  indexed_tells : (base : ℕ) (e : Ext) (p : Plain) → Reads x IsAddress (indexed_of base e space p)
  indexed_tells base (Brief w) p = reads_none x space _ (sum_long _ _)
  indexed_tells base (Full w bd od) p = full_tells base w bd od p

  in_memory_tells : (base : ℕ) (e : Ext) (p : Plain) → AreLongs p.a → Reads x IsResolved (in_memory p (indexed_of base e space p))
  unfolding IsResolved
  in_memory_tells base e p longs = reads_then x space (indexed_tells base e p) (λ at is. reads_none x space _ (is, longs))

  pub resolve_tells : (ea : Ea) (size : Size) (word_at : ℕ) (p : Plain) → IsFormed ea → AreLongs p.a
      → Reads x (λ r. IsReached r.target × AreLongs r.plain.a) (resolve_of ea size word_at space p)
  unfolding resolve_of IsResolved
  resolve_tells (Dn n) size word_at p is longs = reads_none x space _ (tt, longs)
  resolve_tells (An n) size word_at p is longs = reads_none x space _ (tt, longs)
  resolve_tells (Ind n) size word_at p is longs = reads_none x space _ (address_long p n longs, longs)
  resolve_tells (Post n) size word_at p is longs =
      reads_none x space _ (address_long p n longs, with_long p n _ longs (sum_long (address_register p n) (increment_of size n)))
  resolve_tells (Pre n) size word_at p is longs =
      let lt = difference_long (address_register p n) (increment_of size n) in
      reads_none x space _ (lt, with_long p n _ longs lt)
  resolve_tells (Disp n d) size word_at p is longs = reads_none x space _ (sum_long (address_register p n) _, longs)
  resolve_tells (Index n e) size word_at p is longs = in_memory_tells (address_register p n) e p longs
  resolve_tells (AbsW a) size word_at p is longs = reads_none x space _ (extended_long a is, longs)
  resolve_tells (AbsL a) size word_at p is longs = reads_none x space _ (is, longs)
  resolve_tells (PcDisp d) size word_at p is longs = reads_none x space _ (sum_long word_at _, longs)
  resolve_tells (PcIndex e) size word_at p is longs = in_memory_tells word_at e p longs
  resolve_tells (Imm v) size word_at p is longs = reads_none x space _ (tt, longs)

  -- ---- operands that are read

  pub load_tells : (target : Target) (size : Size) (p : Plain) → IsReached target → Reads x (λ v. Unit {0}) (load_of target size space p)
  load_tells (Reg n) size p h = reads_none x space _ tt
  load_tells (Memory at) size p h = reading_tells at (bytes_of size) h
  load_tells (Value v) size p h = reads_none x space _ tt

  pub fetched_tells : (size : Size) (ea : Ea) (word_at : ℕ) (p : Plain) → IsFormed ea → AreLongs p.a
      → Reads x IsFetched (fetch_operand_of size ea word_at space p)
  fetched_tells size ea word_at p is longs =
      reads_then x space (resolve_tells ea size word_at p is longs) (λ resolved h.
      reads_then x space (load_tells resolved.target size resolved.plain h.0) (λ value u. reads_none x space _ h))

  pub address_tells : (size : Size) (ea : Ea) (word_at : ℕ) (p : Plain) → IsFormed ea → AreLongs p.a
      → Reads x IsAddress (find_address_of size ea word_at space p)
  address_tells size ea word_at p is longs =
      reads_then x space (resolve_tells ea size word_at p is longs) (λ resolved h. reads_none x space _ (place_long resolved.target h.0))

  -- ---- operands that are written

  pub writing_tells : (at len value : ℕ) → at < 2 ^ 32 → Writes x space tt (write_operand_of space at len value)
  writing_tells at len value h = tells_weaker (write_operand_of space at len value) (put_tells x space g at len value h) (λ s q. q)
      (λ rest t e told. (told.0, told.2 ∙ then_nothing (tree_of (write_pieces_of space e.first e.rest.items)), told.4)) (λ a t q. q)

  pub store_tells : (target : Target) (size : Size) (value : ℕ) (p : Plain) → IsReached target → Writes x space p (store_of target size value space p)
  store_tells (Reg n) size value p h = tells_ok _ (λ s q. q)
  store_tells (Memory at) size value p h =
      tells_bind (write_operand_of space at (bytes_of size) value) (λ done. Return (Ok p))
      (tells_weaker (write_operand_of space at (bytes_of size) value) (put_tells x space g at (bytes_of size) value h) (λ s q. q)
      (λ rest t e told.
      (told.0, ap (λ u. graft u (λ (r : Result (Unit {0}) WriteFault). tree_of (tried r (λ done. Return (Ok p))))) told.2, told.4)) (λ a t q. q))
      (λ done. tells_ok p (λ s q. q))
  store_tells (Value v) size value p h = tells_ok _ (λ s q. q)

  -- ---- the last parts of instructions

  pub storing_tells : {p : Plain} {moves : Movem → Type 0} (target : Target) (size : Size) (value : ℕ) (after : Plain) → IsReached target
      → RowTells x space p moves (finish_with_of target size value space after)
  storing_tells target size value after h =
      row_writing x space after (λ done. record { flow = false; plain = done }) (store_tells target size value after h)

  -- a long is pushed, and the instruction is carried out
  pub pushing_tells : {p : Plain} {moves : Movem → Type 0} (value top : ℕ) (done : Carried) → top < 2 ^ 32
      → RowTells x space p moves (push_of value top space done.plain >> Return (Ok done))
  pushing_tells value top done h = row_writing x space tt (λ pushed. done) (writing_tells top 4 value h)

  -- ---- pieces that are no operand's

  -- a list of pieces
  pub list_tells : (first : ℕ) (ps : List Pend) → AreOwn ps → length ps ≤ 3 → Writes x space tt (write_pieces_of space first ps)
  list_tells first [] own few = tells_ok tt (λ s q. q)
  list_tells first (p ∷ ps) own few =
      tells_bind (failing (write_fault_at first (p ∷ ps)) (write space (piece_of p) p.value)) (λ done. write_pieces_of space first ps)
      (tells_failing (write_fault_at first (p ∷ ps)) (write space (piece_of p) p.value)
      (tells_write g.refuses space (piece_of p) p.value (record {
        lawfully = λ s q. g.writes (piece_of p) p.value s q own.0.placed;
        well = λ s done q yes e. g.opens.call (Write space (piece_of p) p.value) s q (g.writes (piece_of p) p.value s q own.0.placed);
        refused = λ s u fault q no e same. (
          (Write space (piece_of p) p.value, refl, ap (λ r. r.0) e),
          then_nothing (tree_of (write_pieces_of space first (p ∷ ps))),
          record { some = omega arith; few = few; own = own },
        );
      })))
      (λ done. list_tells first ps own.1 (omega arith))
