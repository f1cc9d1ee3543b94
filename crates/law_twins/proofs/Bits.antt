-- Bits.
use Rattle.std.specs.Prelude.{refl, ℕ}
use Rattle.law_routines.specs.Twin.{returned}
use Rattle.law_routines.specs.Between.{Setting}
use Rattle.mb_instr.specs.declared.operand.Ea.{Ea}
use Rattle.mb_instr.specs.declared.kinds.BitKind.{BitKind}
use Rattle.mb_instr.specs.declared.kinds.BitKind.TheVariants as bit
use Rattle.mb_instr.specs.declared.registers.Plain.{Plain}
use Rattle.def_instructions.specs.Bits.{bit_size, change_bit_of, bit_row_of}
use Rattle.law_twins.proofs.Parts.{SameCut, Rows, then_twins, reading_twins}
use Rattle.law_twins.proofs.Operands.{operand_twins}
use Rattle.law_twins.proofs.Modifying.{modifying_twins}

pub bit_row_twins : (x : Setting) (kind : BitKind) (number : ℕ) (ea : Ea) (word_at : ℕ) (p : Plain)
    → Rows x (bit_row_of kind number ea word_at x.here p) (bit_row_of kind number ea word_at x.there p)
bit_row_twins x bit.Test number ea word_at p =
    then_twins x (SameCut x) (reading_twins x (operand_twins x (bit_size ea) ea word_at p)) (λ operand. returned refl)
bit_row_twins x kind number ea word_at p = modifying_twins x (change_bit_of kind number (bit_size ea)) (bit_size ea) ea word_at p
