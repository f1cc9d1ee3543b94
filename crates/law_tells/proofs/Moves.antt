-- What moves.
use Rattle.std.specs.Prelude.{ℕ, ◌%◌, ◌^◌}
use Rattle.mb_port.specs.declared.types.Space.{Space}
use Rattle.mb_instr.specs.declared.size.Size.{Size}
use Rattle.mb_instr.specs.declared.size.Size.TheVariants.{Byte, Word, Long}
use Rattle.mb_instr.specs.declared.kinds.Condition.{Condition}
use Rattle.mb_instr.specs.declared.operand.Ea.{Ea}
use Rattle.mb_instr.specs.declared.registers.Plain.{Plain}
use Rattle.mb_writes.specs.declared.transfers.Movem.{Movem}
use Rattle.def_instructions.specs.Operands.{behind_of}
use Rattle.def_instructions.specs.Moves.{move_flags, move_operand_of, movea_of, lea_of, move_to_ccr_of, move_from_ccr_of, condition_byte, scc_of}
use Rattle.def_instructions.specs.Conditions.{is_met}
use Rattle.law_tells.specs.Guarded.{Guarded, Guards}
use Rattle.law_tells.specs.Laws.{AreLongs}
use Rattle.law_tells.proofs.Ranges.{IsFormed}
use Rattle.law_tells.proofs.Parts.{RowTells, row_reading, row_done}
use Rattle.law_tells.proofs.Operands.{resolve_tells, fetched_tells, address_tells, storing_tells}

module _ {S : Type 0} (x : Guarded S) (space : Space) (g : Guards x space) {moves : Movem → Type 0} where
  pub move_tells : (size : Size) (destination source : Ea) (word_at : ℕ) (p : Plain) → IsFormed destination → IsFormed source → AreLongs p.a
      → RowTells x space p moves (move_operand_of size destination source word_at space p)
  move_tells size destination source word_at p goes comes longs =
      row_reading x space (fetched_tells x space g size source word_at p comes longs) (λ from read.
      row_reading x space (resolve_tells x space g destination size (behind_of size source word_at) from.plain goes read.1) (λ to found.
      storing_tells x space g to.target size from.value (move_flags size from.value to.plain) found.0))

  pub to_ccr_tells : (ea : Ea) (word_at : ℕ) (p : Plain) → IsFormed ea → AreLongs p.a → RowTells x space p moves (move_to_ccr_of ea word_at space p)
  to_ccr_tells ea word_at p is longs = row_reading x space (fetched_tells x space g Word ea word_at p is longs) (λ operand read. row_done x space _)

  pub movea_tells : (size : Size) (n : ℕ) (source : Ea) (word_at : ℕ) (p : Plain) → IsFormed source → AreLongs p.a
      → RowTells x space p moves (movea_of size n source word_at space p)
  movea_tells size n source word_at p is longs =
      row_reading x space (fetched_tells x space g size source word_at p is longs) (λ from read. row_done x space _)

  pub lea_tells : (n : ℕ) (ea : Ea) (word_at : ℕ) (p : Plain) → IsFormed ea → AreLongs p.a → RowTells x space p moves (lea_of n ea word_at space p)
  lea_tells n ea word_at p is longs = row_reading x space (address_tells x space g Long ea word_at p is longs) (λ place found. row_done x space _)

  pub from_ccr_tells : (ea : Ea) (word_at : ℕ) (p : Plain) → IsFormed ea → AreLongs p.a → RowTells x space p moves (move_from_ccr_of ea word_at space p)
  from_ccr_tells ea word_at p is longs =
      row_reading x space (resolve_tells x space g ea Word word_at p is longs) (λ to found.
      storing_tells x space g to.target Word (p.ccr % 2 ^ 5) to.plain found.0)

  pub scc_tells : (c : Condition) (ea : Ea) (word_at : ℕ) (p : Plain) → IsFormed ea → AreLongs p.a → RowTells x space p moves (scc_of c ea word_at space p)
  scc_tells c ea word_at p is longs =
      row_reading x space (resolve_tells x space g ea Byte word_at p is longs) (λ to found.
      storing_tells x space g to.target Byte (condition_byte (is_met c p.ccr)) to.plain found.0)
