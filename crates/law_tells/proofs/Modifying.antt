-- Operands that are read, changed and written back.
use Rattle.std.specs.Prelude.{ℕ}
use Rattle.mb_port.specs.declared.types.Space.{Space}
use Rattle.mb_instr.specs.declared.size.Size.{Size}
use Rattle.mb_instr.specs.declared.operand.Ea.{Ea}
use Rattle.mb_instr.specs.declared.registers.Plain.{Plain}
use Rattle.mb_alu.specs.declared.conditions.Flagged.{Flagged}
use Rattle.mb_writes.specs.declared.transfers.Movem.{Movem}
use Rattle.def_instructions.specs.Modifying.{modify_of}
use Rattle.law_tells.specs.Guarded.{Guarded, Guards}
use Rattle.law_tells.specs.Laws.{AreLongs}
use Rattle.law_tells.proofs.Ranges.{IsFormed}
use Rattle.law_tells.proofs.Parts.{RowTells, row_reading}
use Rattle.law_tells.proofs.Operands.{fetched_tells, storing_tells}

module _ {S : Type 0} (x : Guarded S) (space : Space) (g : Guards x space) {moves : Movem → Type 0} where
  pub modifying_tells : (change : ℕ → ℕ → Flagged) (size : Size) (ea : Ea) (word_at : ℕ) (p : Plain) → IsFormed ea → AreLongs p.a
      → RowTells x space p moves (modify_of change size ea word_at space p)
  modifying_tells change size ea word_at p is longs =
      row_reading x space (fetched_tells x space g size ea word_at p is longs) (λ operand read.
      let result = change operand.value operand.plain.ccr in
      storing_tells x space g operand.target size result.value (record operand.plain { ccr = result.ccr }) read.0)
