-- What compares with bounds.
use Rattle.std.specs.Prelude.{refl, ℕ, ◌||◌}
use Rattle.std.proofs.Common.{inl, inr}
use Rattle.law_routines.specs.Twin.{returned}
use Rattle.law_routines.specs.Between.{Setting}
use Rattle.mb_instr.specs.declared.size.Size.{Size}
use Rattle.mb_instr.specs.declared.operand.Ea.{Ea}
use Rattle.mb_instr.specs.declared.registers.Plain.{Plain}
use Rattle.mb_instr.specs.Sizes.{bytes_of}
use Rattle.mb_instr.specs.Registers.{data_register}
use Rattle.mb_alu.specs.Conditions.{conditions_of}
use Rattle.mb_ea.specs.Addresses.{sum}
use Rattle.def_instructions.specs.Ends.{carried, ended_otherwise}
use Rattle.def_instructions.specs.Traps.{out_of_bounds}
use Rattle.def_instructions.specs.Bounds.{is_below, is_above, check_bound_of, chk_of, compare_bounds_of, cmp2_of, check_carry_of, chk2_of}
use Rattle.law_twins.specs.Twins.{SameRead}
use Rattle.law_twins.proofs.Parts.{SameCut, SameRowed, Rows, Reads, then_twins, reading_twins}
use Rattle.law_twins.proofs.Operands.{read_twins, operand_twins, address_twins}
use Rattle.law_twins.proofs.Flow.{either_same}

checked_same : (x : Setting) (size : Size) (bound value : ℕ) (p : Plain) → SameRowed x (check_bound_of size bound value p) (check_bound_of size bound value p)
checked_same x size bound value p =
    either_same x (is_below size value || is_above size bound value) (ended_otherwise out_of_bounds _) (carried p) ((refl, inr (inl refl)), refl) refl

pub chk_twins : (x : Setting) (n : ℕ) (size : Size) (ea : Ea) (word_at : ℕ) (p : Plain)
    → Rows x (chk_of n size ea word_at x.here p) (chk_of n size ea word_at x.there p)
chk_twins x n size ea word_at p =
    then_twins x (SameCut x) (reading_twins x (operand_twins x size ea word_at p)) (λ bound.
    returned (checked_same x size bound.value (data_register bound.plain n) bound.plain))

bounds_twins : (x : Setting) (size : Size) (ea : Ea) (w word_at : ℕ) (p : Plain)
    → Reads x (compare_bounds_of size ea w word_at x.here p) (compare_bounds_of size ea w word_at x.there p)
bounds_twins x size ea w word_at p =
    then_twins x (SameRead x) (address_twins x size ea word_at p) (λ place.
    then_twins x (SameRead x) (read_twins x place (bytes_of size)) (λ lower.
    then_twins x (SameRead x) (read_twins x (sum place (bytes_of size)) (bytes_of size)) (λ upper. returned refl)))

pub cmp2_twins : (x : Setting) (size : Size) (ea : Ea) (w word_at : ℕ) (p : Plain)
    → Rows x (cmp2_of size ea w word_at x.here p) (cmp2_of size ea w word_at x.there p)
cmp2_twins x size ea w word_at p = then_twins x (SameCut x) (reading_twins x (bounds_twins x size ea w word_at p)) (λ ccr. returned refl)

checked_carry_same : (x : Setting) (p : Plain) → SameRowed x (check_carry_of p) (check_carry_of p)
checked_carry_same x p = either_same x (conditions_of p.ccr).c (ended_otherwise out_of_bounds p) (carried p) ((refl, inr (inl refl)), refl) refl

pub chk2_twins : (x : Setting) (size : Size) (ea : Ea) (w word_at : ℕ) (p : Plain)
    → Rows x (chk2_of size ea w word_at x.here p) (chk2_of size ea w word_at x.there p)
chk2_twins x size ea w word_at p =
    then_twins x (SameCut x) (reading_twins x (bounds_twins x size ea w word_at p)) (λ ccr. returned (checked_carry_same x (record p { ccr = ccr })))
