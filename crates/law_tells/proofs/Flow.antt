-- What goes elsewhere.
use Rattle.std.specs.Prelude.{ℕ, true}
use Rattle.mb_port.specs.declared.types.Space.{Space}
use Rattle.mb_instr.specs.declared.registers.Plain.{Plain}
use Rattle.mb_writes.specs.declared.transfers.Movem.{Movem}
use Rattle.law_tells.specs.Guarded.{Guarded, Guards}
use Rattle.law_tells.specs.Laws.{AreLongs}
use Rattle.law_routines.proofs.Told.{tells_choose}
use Rattle.mb_instr.specs.declared.size.Size.TheVariants.{Long}
use Rattle.mb_instr.specs.declared.operand.Ea.{Ea}
use Rattle.mb_instr.specs.declared.kinds.Branch.{Branch}
use Rattle.mb_instr.specs.declared.kinds.Condition.{Condition}
use Rattle.mb_instr.specs.Registers.{address_register}
use Rattle.def_instructions.specs.Operands.{stack_lowered}
use Rattle.def_instructions.specs.Flow.{target_of, is_call, call_of, go_if_met_of, branch_of, jmp_of, jsr_of}
use Rattle.law_tells.proofs.Longs.{lowered_long}
use Rattle.law_tells.proofs.Ranges.{IsFormed}
use Rattle.law_tells.proofs.Parts.{RowTells, row_reading, row_done, row_ends}
use Rattle.law_tells.proofs.Operands.{address_tells, pushing_tells}

module _ {S : Type 0} (x : Guarded S) (space : Space) (g : Guards x space) {moves : Movem → Type 0} where
  call_tells : (target : ℕ) (p : Plain) → AreLongs p.a → RowTells x space p moves (call_of target space p)
  call_tells target p longs =
      let after = record (stack_lowered p) { pc = target } in
      pushing_tells x space g p.pc (address_register after 7) (record { flow = true; plain = after }) (lowered_long p longs)

  pub branch_tells : (c : Condition) (d : Branch) (word_at : ℕ) (p : Plain) → AreLongs p.a → RowTells x space p moves (branch_of c d word_at space p)
  branch_tells c d word_at p longs =
      tells_choose (is_call c) _ _ (λ e. call_tells (target_of word_at d) p longs) (λ e. row_ends x space (go_if_met_of c (target_of word_at d) p))

  pub jmp_tells : (ea : Ea) (word_at : ℕ) (p : Plain) → IsFormed ea → AreLongs p.a → RowTells x space p moves (jmp_of ea word_at space p)
  jmp_tells ea word_at p is longs = row_reading x space (address_tells x space g Long ea word_at p is longs) (λ target found. row_done x space _)

  pub jsr_tells : (ea : Ea) (word_at : ℕ) (p : Plain) → IsFormed ea → AreLongs p.a → RowTells x space p moves (jsr_of ea word_at space p)
  jsr_tells ea word_at p is longs =
      row_reading x space (address_tells x space g Long ea word_at p is longs) (λ target found. call_tells target p longs)
