-- What traps.
use Rattle.std.specs.Prelude.{refl, ℕ, ◌<◌}
use Rattle.std.proofs.Common.{arith, inl, inr}
use Rattle.law_routines.specs.Between.{Setting}
use Rattle.mb_instr.specs.declared.kinds.Condition.{Condition}
use Rattle.mb_instr.specs.declared.kinds.Condition.TheVariants.{OverflowSet}
use Rattle.mb_instr.specs.declared.registers.Plain.{Plain}
use Rattle.def_instructions.specs.Ends.{carried, ended_otherwise}
use Rattle.def_instructions.specs.Conditions.{is_met}
use Rattle.def_instructions.specs.Traps.{conditional_trap, trap_of, trapcc_of, trapv_of}
use Rattle.law_twins.proofs.Flow.{either_same}
use Rattle.law_twins.proofs.Parts.{SameRowed}

pub trap_same : (x : Setting) (number : ℕ) (p : Plain) → number < 16 → SameRowed x (trap_of number p) (trap_of number p)
trap_same x number p lt = ((refl, inr (inr (inr (omega arith, omega arith)))), refl)

pub trapcc_same : (x : Setting) (c : Condition) (p : Plain) → SameRowed x (trapcc_of c p) (trapcc_of c p)
trapcc_same x c p = either_same x (is_met c p.ccr) (ended_otherwise conditional_trap p) (carried p) ((refl, inr (inr (inl refl))), refl) refl

pub trapv_same : (x : Setting) (p : Plain) → SameRowed x (trapv_of p) (trapv_of p)
trapv_same x p = trapcc_same x OverflowSet p
