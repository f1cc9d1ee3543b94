-- What moves.
use Rattle.std.specs.Prelude.{refl, ℕ, ◌%◌, ◌^◌}
use Rattle.law_routines.specs.Twin.{returned}
use Rattle.law_routines.specs.Between.{Setting}
use Rattle.mb_instr.specs.declared.size.Size.{Size}
use Rattle.mb_instr.specs.declared.size.Size.TheVariants.{Byte, Word, Long}
use Rattle.mb_instr.specs.declared.operand.Ea.{Ea}
use Rattle.mb_instr.specs.declared.kinds.Condition.{Condition}
use Rattle.mb_instr.specs.declared.registers.Plain.{Plain}
use Rattle.def_instructions.specs.Operands.{behind_of}
use Rattle.def_instructions.specs.Conditions.{is_met}
use Rattle.def_instructions.specs.Moves.{move_flags, move_operand_of, movea_of, lea_of, move_to_ccr_of, move_from_ccr_of, condition_byte, scc_of}
use Rattle.law_twins.proofs.Parts.{SameCut, Rows, then_twins, reading_twins}
use Rattle.law_twins.proofs.Operands.{resolve_twins, operand_twins, address_twins, storing_twins}

pub move_twins : (x : Setting) (size : Size) (destination source : Ea) (word_at : ℕ) (p : Plain)
    → Rows x (move_operand_of size destination source word_at x.here p) (move_operand_of size destination source word_at x.there p)
move_twins x size destination source word_at p =
    then_twins x (SameCut x) (reading_twins x (operand_twins x size source word_at p)) (λ from.
    then_twins x (SameCut x) (reading_twins x (resolve_twins x destination size (behind_of size source word_at) from.plain)) (λ to.
    storing_twins x to.target size from.value (move_flags size from.value to.plain)))

pub to_ccr_twins : (x : Setting) (ea : Ea) (word_at : ℕ) (p : Plain) → Rows x (move_to_ccr_of ea word_at x.here p) (move_to_ccr_of ea word_at x.there p)
to_ccr_twins x ea word_at p =
    then_twins x (SameCut x) (reading_twins x (operand_twins x Word ea word_at p)) (λ operand. returned refl)

pub from_ccr_twins : (x : Setting) (ea : Ea) (word_at : ℕ) (p : Plain) → Rows x (move_from_ccr_of ea word_at x.here p) (move_from_ccr_of ea word_at x.there p)
from_ccr_twins x ea word_at p =
    then_twins x (SameCut x) (reading_twins x (resolve_twins x ea Word word_at p)) (λ to.
    storing_twins x to.target Word (p.ccr % 2 ^ 5) to.plain)

pub scc_twins : (x : Setting) (c : Condition) (ea : Ea) (word_at : ℕ) (p : Plain) → Rows x (scc_of c ea word_at x.here p) (scc_of c ea word_at x.there p)
scc_twins x c ea word_at p =
    then_twins x (SameCut x) (reading_twins x (resolve_twins x ea Byte word_at p)) (λ to.
    storing_twins x to.target Byte (condition_byte (is_met c p.ccr)) to.plain)

pub movea_twins : (x : Setting) (size : Size) (n : ℕ) (source : Ea) (word_at : ℕ) (p : Plain)
    → Rows x (movea_of size n source word_at x.here p) (movea_of size n source word_at x.there p)
movea_twins x size n source word_at p =
    then_twins x (SameCut x) (reading_twins x (operand_twins x size source word_at p)) (λ from. returned refl)

pub lea_twins : (x : Setting) (n : ℕ) (ea : Ea) (word_at : ℕ) (p : Plain) → Rows x (lea_of n ea word_at x.here p) (lea_of n ea word_at x.there p)
lea_twins x n ea word_at p =
    then_twins x (SameCut x) (reading_twins x (address_twins x Long ea word_at p)) (λ place. returned refl)
