-- PEA, LINK and UNLK.
use Rattle.std.specs.Prelude.{refl, ℕ}
use Rattle.law_routines.specs.Twin.{returned}
use Rattle.law_routines.specs.Between.{Setting}
use Rattle.mb_instr.specs.declared.size.Size.TheVariants.{Long}
use Rattle.mb_instr.specs.declared.operand.Ea.{Ea}
use Rattle.mb_instr.specs.declared.registers.Plain.{Plain}
use Rattle.mb_instr.specs.Registers.{address_register}
use Rattle.def_instructions.specs.Operands.{stack_lowered}
use Rattle.def_instructions.specs.Stack.{pea_of, linked, link_of, unlk_of}
use Rattle.law_twins.proofs.Parts.{SameCut, Rows, then_twins, reading_twins}
use Rattle.law_twins.proofs.Operands.{read_twins, address_twins, pushing_twins}

pub pea_twins : (x : Setting) (ea : Ea) (word_at : ℕ) (p : Plain) → Rows x (pea_of ea word_at x.here p) (pea_of ea word_at x.there p)
pea_twins x ea word_at p =
    let after = stack_lowered p in
    then_twins x (SameCut x) (reading_twins x (address_twins x Long ea word_at p)) (λ place.
    then_twins x (SameCut x) (pushing_twins x place (address_register after 7) after) (λ done. returned refl))

pub link_twins : (x : Setting) (n displacement : ℕ) (p : Plain) → Rows x (link_of n displacement x.here p) (link_of n displacement x.there p)
link_twins x n displacement p =
    let low = stack_lowered p in
    let after = linked n displacement low in
    then_twins x (SameCut x) (pushing_twins x (address_register low n) (address_register low 7) after) (λ done. returned refl)

pub unlk_twins : (x : Setting) (n : ℕ) (p : Plain) → Rows x (unlk_of n x.here p) (unlk_of n x.there p)
unlk_twins x n p = then_twins x (SameCut x) (reading_twins x (read_twins x (address_register p n) 4)) (λ frame. returned refl)
