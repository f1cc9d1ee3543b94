-- What goes elsewhere.
use Rattle.std.specs.Prelude.{refl, ℕ, ◌-◌, ◌^◌, ◌==◌, Bool, true, false, if◌then◌else◌}
use Rattle.law_routines.specs.Twin.{returned}
use Rattle.law_routines.specs.Between.{Setting, between}
use Rattle.law_routines.proofs.Twinned.{twins_choose}
use Rattle.mb_instr.specs.declared.size.Size.TheVariants.{Word, Long}
use Rattle.mb_instr.specs.declared.operand.Ea.{Ea}
use Rattle.mb_instr.specs.declared.kinds.Branch.{Branch}
use Rattle.mb_instr.specs.declared.kinds.Branch.TheVariants as displacement
use Rattle.mb_instr.specs.declared.kinds.Condition.{Condition}
use Rattle.mb_instr.specs.declared.registers.Plain.{Plain}
use Rattle.mb_instr.specs.Sizes.{low_of}
use Rattle.mb_instr.specs.Registers.{data_register, address_register}
use Rattle.def_instructions.specs.Ends.{Rowed, carried, jumped}
use Rattle.def_instructions.specs.Conditions.{is_met}
use Rattle.def_instructions.specs.Operands.{stack_lowered}
use Rattle.def_instructions.specs.Flow.{target_of, is_call, call_of, go_if_met_of, branch_of, count_down_of, go_if_counted_of, dbcc_of, jmp_of, jsr_of}
use Rattle.law_twins.proofs.Parts.{SameCut, SameRowed, Rows, then_twins, reading_twins}
use Rattle.law_twins.proofs.Operands.{address_twins, pushing_twins}

call_twins : (x : Setting) (target : ℕ) (p : Plain) → Rows x (call_of target x.here p) (call_of target x.there p)
call_twins x target p =
    let after = record (stack_lowered p) { pc = target } in
    then_twins x (SameCut x) (pushing_twins x p.pc (address_register after 7) after) (λ done. returned refl)

-- one of two ends
pub either_same : (x : Setting) (b : Bool) (one other : Rowed) → SameRowed x one one → SameRowed x other other →
    let end = if b then one else other in SameRowed x end end
either_same x true one other h k = h
either_same x false one other h k = k

branched_same : (x : Setting) (c : Condition) (target : ℕ) (p : Plain) → SameRowed x (go_if_met_of c target p) (go_if_met_of c target p)
branched_same x c target p = either_same x (is_met c p.ccr) (jumped (record p { pc = target })) (carried p) refl refl

pub branch_twins : (x : Setting) (c : Condition) (d : Branch) (word_at : ℕ) (p : Plain)
    → Rows x (branch_of c d word_at x.here p) (branch_of c d word_at x.there p)
branch_twins x c d word_at p =
    twins_choose (between x) (SameRowed x) (is_call c) _ _ _ _ (call_twins x (target_of word_at d) p) (returned (branched_same x c (target_of word_at d) p))

looped_same : (x : Setting) (n target : ℕ) (p : Plain) → SameRowed x (go_if_counted_of n target p) (go_if_counted_of n target p)
looped_same x n target p =
    let after = count_down_of n p in
    either_same x (low_of Word (data_register after n) == 2 ^ 16 - 1) (carried after) (jumped (record after { pc = target })) refl refl

pub dbcc_same : (x : Setting) (c : Condition) (n d word_at : ℕ) (p : Plain) → SameRowed x (dbcc_of c n d word_at p) (dbcc_of c n d word_at p)
dbcc_same x c n d word_at p =
    let target = target_of word_at (displacement.Word d) in
    either_same x (is_met c p.ccr) (carried p) (go_if_counted_of n target p) refl (looped_same x n target p)

pub jmp_twins : (x : Setting) (ea : Ea) (word_at : ℕ) (p : Plain) → Rows x (jmp_of ea word_at x.here p) (jmp_of ea word_at x.there p)
jmp_twins x ea word_at p =
    then_twins x (SameCut x) (reading_twins x (address_twins x Long ea word_at p)) (λ target. returned refl)

pub jsr_twins : (x : Setting) (ea : Ea) (word_at : ℕ) (p : Plain) → Rows x (jsr_of ea word_at x.here p) (jsr_of ea word_at x.there p)
jsr_twins x ea word_at p =
    then_twins x (SameCut x) (reading_twins x (address_twins x Long ea word_at p)) (λ target. call_twins x target p)
