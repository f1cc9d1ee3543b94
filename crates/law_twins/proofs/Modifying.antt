-- Operands that are read, changed and written back, whatever the change.
use Rattle.std.specs.Prelude.{ℕ}
use Rattle.law_routines.specs.Between.{Setting}
use Rattle.mb_instr.specs.declared.size.Size.{Size}
use Rattle.mb_instr.specs.declared.operand.Ea.{Ea}
use Rattle.mb_instr.specs.declared.registers.Plain.{Plain}
use Rattle.mb_alu.specs.declared.conditions.Flagged.{Flagged}
use Rattle.def_instructions.specs.Modifying.{modify_of}
use Rattle.law_twins.proofs.Parts.{SameCut, Rows, then_twins, reading_twins}
use Rattle.law_twins.proofs.Operands.{operand_twins, storing_twins}

pub modifying_twins : (x : Setting) (change : ℕ → ℕ → Flagged) (size : Size) (ea : Ea) (word_at : ℕ) (p : Plain)
    → Rows x (modify_of change size ea word_at x.here p) (modify_of change size ea word_at x.there p)
modifying_twins x change size ea word_at p =
    then_twins x (SameCut x) (reading_twins x (operand_twins x size ea word_at p)) (λ operand.
    let result = change operand.value operand.plain.ccr in
    storing_twins x operand.target size result.value (record operand.plain { ccr = result.ccr }))
