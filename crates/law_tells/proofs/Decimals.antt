-- Decimal digits.
use Rattle.std.specs.Prelude.{ℕ, Bool, true, false}
use Rattle.mb_port.specs.declared.types.Space.{Space}
use Rattle.mb_instr.specs.declared.registers.Plain.{Plain}
use Rattle.mb_writes.specs.declared.transfers.Movem.{Movem}
use Rattle.law_tells.specs.Guarded.{Guarded, Guards}
use Rattle.law_tells.specs.Laws.{AreLongs}
use Rattle.mb_instr.specs.declared.size.Size.{Size}
use Rattle.mb_instr.specs.declared.size.Size.TheVariants.{Byte}
use Rattle.mb_alu.specs.declared.conditions.Flagged.{Flagged}
use Rattle.def_instructions.specs.Decimals.{paired, decimal_of, repack_of}
use Rattle.law_tells.proofs.Ranges.{IsFormed}
use Rattle.law_tells.proofs.Parts.{RowTells, row_reading}
use Rattle.law_tells.proofs.Operands.{resolve_tells, fetched_tells, storing_tells}

paired_formed : (in_memory : Bool) (n : ℕ) → IsFormed (paired in_memory n)
paired_formed true n = tt
paired_formed false n = tt

module _ {S : Type 0} (x : Guarded S) (space : Space) (g : Guards x space) {moves : Movem → Type 0} where
  pub decimal_tells : (operation : ℕ → ℕ → ℕ → Flagged) (to : ℕ) (in_memory : Bool) (from word_at : ℕ) (p : Plain) → AreLongs p.a
      → RowTells x space p moves (decimal_of operation to in_memory from word_at space p)
  decimal_tells operation to in_memory from word_at p longs =
      row_reading x space (fetched_tells x space g Byte (paired in_memory from) word_at p (paired_formed in_memory from) longs) (λ source read.
      row_reading x space (fetched_tells x space g Byte (paired in_memory to) word_at source.plain (paired_formed in_memory to) read.1)
      (λ destination found.
      let result = operation source.value destination.value destination.plain.ccr in
      storing_tells x space g destination.target Byte result.value (record destination.plain { ccr = result.ccr }) found.0))

  pub digits_tells : (operation : ℕ → ℕ → ℕ) (read written : Size) (to : ℕ) (in_memory : Bool) (from adjust word_at : ℕ) (p : Plain) → AreLongs p.a
      → RowTells x space p moves (repack_of operation read written to in_memory from adjust word_at space p)
  digits_tells operation read written to in_memory from adjust word_at p longs =
      row_reading x space (fetched_tells x space g read (paired in_memory from) word_at p (paired_formed in_memory from) longs) (λ source comes.
      row_reading x space (resolve_tells x space g (paired in_memory to) written word_at source.plain (paired_formed in_memory to) comes.1)
      (λ destination found.
      storing_tells x space g destination.target written (operation source.value adjust) destination.plain found.0))
