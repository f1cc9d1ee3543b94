-- What goes back.
use Rattle.std.specs.Prelude.{ℕ}
use Rattle.mb_port.specs.declared.types.Space.{Space}
use Rattle.mb_instr.specs.declared.registers.Plain.{Plain}
use Rattle.mb_writes.specs.declared.transfers.Movem.{Movem}
use Rattle.law_tells.specs.Guarded.{Guarded, Guards}
use Rattle.law_tells.specs.Laws.{AreLongs}
use Rattle.mb_instr.specs.declared.size.Size.TheVariants.{Word, Long}
use Rattle.mb_instr.specs.Sizes.{bytes_of}
use Rattle.mb_instr.specs.Registers.{address_register}
use Rattle.def_instructions.specs.Returns.{rts_of, rtd_of, stack_raised_by_word, rtr_of}
use Rattle.law_tells.proofs.Longs.{address_long, with_long, sum_long}
use Rattle.law_tells.proofs.Parts.{RowTells, row_reading, row_done}
use Rattle.law_tells.proofs.Operands.{reading_tells}

module _ {S : Type 0} (x : Guarded S) (space : Space) (g : Guards x space) {moves : Movem → Type 0} where
  pub rts_tells : (p : Plain) → AreLongs p.a → RowTells x space p moves (rts_of space p)
  rts_tells p longs =
      row_reading x space (reading_tells x space g (address_register p 7) (bytes_of Long) (address_long p 7 longs)) (λ target read. row_done x space _)

  pub rtd_tells : (d : ℕ) (p : Plain) → AreLongs p.a → RowTells x space p moves (rtd_of d space p)
  rtd_tells d p longs =
      row_reading x space (reading_tells x space g (address_register p 7) (bytes_of Long) (address_long p 7 longs)) (λ target read. row_done x space _)

  pub rtr_tells : (p : Plain) → AreLongs p.a → RowTells x space p moves (rtr_of space p)
  rtr_tells p longs =
      let above = address_long (stack_raised_by_word p) 7 (with_long p 7 _ longs (sum_long (address_register p 7) 2)) in
      row_reading x space (reading_tells x space g (address_register p 7) (bytes_of Word) (address_long p 7 longs)) (λ codes read.
      row_reading x space (reading_tells x space g (address_register (stack_raised_by_word p) 7) (bytes_of Long) above) (λ target found. row_done x space _))
