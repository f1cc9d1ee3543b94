-- Bits.
use Rattle.std.specs.Prelude.{ℕ}
use Rattle.mb_port.specs.declared.types.Space.{Space}
use Rattle.mb_instr.specs.declared.registers.Plain.{Plain}
use Rattle.mb_writes.specs.declared.transfers.Movem.{Movem}
use Rattle.law_tells.specs.Guarded.{Guarded, Guards}
use Rattle.law_tells.specs.Laws.{AreLongs}
use Rattle.mb_instr.specs.declared.operand.Ea.{Ea}
use Rattle.mb_instr.specs.declared.kinds.BitKind.{BitKind}
use Rattle.mb_instr.specs.declared.kinds.BitKind.TheVariants as bit
use Rattle.def_instructions.specs.Bits.{bit_size, change_bit_of, bit_row_of}
use Rattle.law_tells.proofs.Ranges.{IsFormed}
use Rattle.law_tells.proofs.Parts.{RowTells, row_reading, row_done}
use Rattle.law_tells.proofs.Operands.{fetched_tells}
use Rattle.law_tells.proofs.Modifying.{modifying_tells}

module _ {S : Type 0} (x : Guarded S) (space : Space) (g : Guards x space) {moves : Movem → Type 0} where
  pub bit_row_tells : (kind : BitKind) (number : ℕ) (ea : Ea) (word_at : ℕ) (p : Plain) → IsFormed ea → AreLongs p.a
      → RowTells x space p moves (bit_row_of kind number ea word_at space p)
  bit_row_tells bit.Test number ea word_at p is longs =
      row_reading x space (fetched_tells x space g (bit_size ea) ea word_at p is longs) (λ operand read. row_done x space _)
  bit_row_tells kind number ea word_at p is longs =
      modifying_tells x space g (change_bit_of kind number (bit_size ea)) (bit_size ea) ea word_at p is longs
