-- What compares with bounds.
use Rattle.std.specs.Prelude.{ℕ}
use Rattle.mb_port.specs.declared.types.Space.{Space}
use Rattle.mb_instr.specs.declared.registers.Plain.{Plain}
use Rattle.mb_writes.specs.declared.transfers.Movem.{Movem}
use Rattle.law_tells.specs.Guarded.{Guarded, Guards}
use Rattle.law_tells.specs.Laws.{AreLongs}
use Rattle.mb_instr.specs.declared.size.Size.{Size}
use Rattle.mb_instr.specs.declared.operand.Ea.{Ea}
use Rattle.mb_instr.specs.Sizes.{bytes_of}
use Rattle.mb_ea.specs.Addresses.{sum}
use Rattle.def_instructions.specs.Bounds.{chk_of, compare_bounds_of, cmp2_of, chk2_of}
use Rattle.law_tells.proofs.Longs.{sum_long}
use Rattle.law_tells.proofs.Ranges.{IsFormed}
use Rattle.law_tells.proofs.Parts.{RowTells, Reads, reads_then, reads_none, row_reading, row_done, row_ends}
use Rattle.law_tells.proofs.Operands.{reading_tells, fetched_tells, address_tells}

module _ {S : Type 0} (x : Guarded S) (space : Space) (g : Guards x space) where
  bounds_tells : (size : Size) (ea : Ea) (w word_at : ℕ) (p : Plain) → IsFormed ea → AreLongs p.a
      → Reads x (λ ccr. Unit {0}) (compare_bounds_of size ea w word_at space p)
  bounds_tells size ea w word_at p is longs =
      reads_then x space (address_tells x space g size ea word_at p is longs) (λ place found.
      reads_then x space (reading_tells x space g place (bytes_of size) found) (λ lower read.
      reads_then x space (reading_tells x space g (sum place (bytes_of size)) (bytes_of size) (sum_long place (bytes_of size))) (λ upper also.
      reads_none x space _ tt)))

module _ {S : Type 0} (x : Guarded S) (space : Space) (g : Guards x space) {moves : Movem → Type 0} where
  pub chk_tells : (n : ℕ) (size : Size) (ea : Ea) (word_at : ℕ) (p : Plain) → IsFormed ea → AreLongs p.a
      → RowTells x space p moves (chk_of n size ea word_at space p)
  chk_tells n size ea word_at p is longs =
      row_reading x space (fetched_tells x space g size ea word_at p is longs) (λ bound read. row_ends x space _)

  pub cmp2_tells : (size : Size) (ea : Ea) (w word_at : ℕ) (p : Plain) → IsFormed ea → AreLongs p.a
      → RowTells x space p moves (cmp2_of size ea w word_at space p)
  cmp2_tells size ea w word_at p is longs = row_reading x space (bounds_tells x space g size ea w word_at p is longs) (λ ccr read. row_done x space _)

  pub chk2_tells : (size : Size) (ea : Ea) (w word_at : ℕ) (p : Plain) → IsFormed ea → AreLongs p.a
      → RowTells x space p moves (chk2_of size ea w word_at space p)
  chk2_tells size ea w word_at p is longs = row_reading x space (bounds_tells x space g size ea w word_at p is longs) (λ ccr read. row_ends x space _)
