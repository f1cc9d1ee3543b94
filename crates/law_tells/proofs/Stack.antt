-- PEA, LINK and UNLK.
use Rattle.std.specs.Prelude.{ℕ, false}
use Rattle.mb_port.specs.declared.types.Space.{Space}
use Rattle.mb_instr.specs.declared.size.Size.TheVariants.{Long}
use Rattle.mb_instr.specs.declared.operand.Ea.{Ea}
use Rattle.mb_instr.specs.declared.registers.Plain.{Plain}
use Rattle.mb_instr.specs.Registers.{address_register}
use Rattle.mb_writes.specs.declared.transfers.Movem.{Movem}
use Rattle.def_instructions.specs.Operands.{stack_lowered}
use Rattle.def_instructions.specs.Stack.{pea_of, linked, link_of, unlk_of}
use Rattle.law_tells.specs.Guarded.{Guarded, Guards}
use Rattle.law_tells.specs.Laws.{AreLongs}
use Rattle.law_tells.proofs.Longs.{address_long, lowered_long}
use Rattle.law_tells.proofs.Ranges.{IsFormed}
use Rattle.law_tells.proofs.Parts.{RowTells, row_reading, row_done}
use Rattle.law_tells.proofs.Operands.{address_tells, reading_tells, pushing_tells}

module _ {S : Type 0} (x : Guarded S) (space : Space) (g : Guards x space) {moves : Movem → Type 0} where
  pub pea_tells : (ea : Ea) (word_at : ℕ) (p : Plain) → IsFormed ea → AreLongs p.a → RowTells x space p moves (pea_of ea word_at space p)
  pea_tells ea word_at p is longs =
      let after = stack_lowered p in
      row_reading x space (address_tells x space g Long ea word_at p is longs) (λ place found.
      pushing_tells x space g place (address_register after 7) (record { flow = false; plain = after }) (lowered_long p longs))

  pub link_tells : (n displacement : ℕ) (p : Plain) → AreLongs p.a → RowTells x space p moves (link_of n displacement space p)
  link_tells n displacement p longs =
      let low = stack_lowered p in
      pushing_tells x space g (address_register low n) (address_register low 7) (record { flow = false; plain = linked n displacement low })
      (lowered_long p longs)

  pub unlk_tells : (n : ℕ) (p : Plain) → AreLongs p.a → RowTells x space p moves (unlk_of n space p)
  unlk_tells n p longs = row_reading x space (reading_tells x space g (address_register p n) 4 (address_long p n longs)) (λ frame read. row_done x space _)
