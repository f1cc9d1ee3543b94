-- Decimal digits.
use Rattle.std.specs.Prelude.{ℕ, Bool}
use Rattle.law_routines.specs.Between.{Setting}
use Rattle.mb_instr.specs.declared.size.Size.{Size}
use Rattle.mb_instr.specs.declared.size.Size.TheVariants.{Byte}
use Rattle.mb_instr.specs.declared.registers.Plain.{Plain}
use Rattle.mb_alu.specs.declared.conditions.Flagged.{Flagged}
use Rattle.def_instructions.specs.Decimals.{paired, decimal_of, repack_of}
use Rattle.law_twins.proofs.Parts.{SameCut, Rows, then_twins, reading_twins}
use Rattle.law_twins.proofs.Operands.{resolve_twins, operand_twins, storing_twins}

pub decimal_twins : (x : Setting) (operation : ℕ → ℕ → ℕ → Flagged) (to : ℕ) (in_memory : Bool) (from word_at : ℕ) (p : Plain)
    → Rows x (decimal_of operation to in_memory from word_at x.here p) (decimal_of operation to in_memory from word_at x.there p)
decimal_twins x operation to in_memory from word_at p =
    then_twins x (SameCut x) (reading_twins x (operand_twins x Byte (paired in_memory from) word_at p)) (λ source.
    then_twins x (SameCut x) (reading_twins x (operand_twins x Byte (paired in_memory to) word_at source.plain)) (λ destination.
    let result = operation source.value destination.value destination.plain.ccr in
    storing_twins x destination.target Byte result.value (record destination.plain { ccr = result.ccr })))

pub digits_twins : (x : Setting) (operation : ℕ → ℕ → ℕ) (read written : Size) (to : ℕ) (in_memory : Bool) (from adjust word_at : ℕ) (p : Plain)
    → Rows x (repack_of operation read written to in_memory from adjust word_at x.here p)
    (repack_of operation read written to in_memory from adjust word_at x.there p)
digits_twins x operation read written to in_memory from adjust word_at p =
    then_twins x (SameCut x) (reading_twins x (operand_twins x read (paired in_memory from) word_at p)) (λ source.
    then_twins x (SameCut x) (reading_twins x (resolve_twins x (paired in_memory to) written word_at source.plain)) (λ destination.
    storing_twins x destination.target written (operation source.value adjust) destination.plain))
