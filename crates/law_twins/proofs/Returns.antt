-- What goes back.
use Rattle.std.specs.Prelude.{refl, ℕ}
use Rattle.law_routines.specs.Twin.{returned}
use Rattle.law_routines.specs.Between.{Setting}
use Rattle.mb_instr.specs.declared.size.Size.TheVariants.{Word, Long}
use Rattle.mb_instr.specs.declared.registers.Plain.{Plain}
use Rattle.mb_instr.specs.Sizes.{bytes_of}
use Rattle.mb_instr.specs.Registers.{address_register}
use Rattle.def_instructions.specs.Returns.{rts_of, rtd_of, stack_raised_by_word, rtr_of}
use Rattle.law_twins.proofs.Parts.{SameCut, Rows, then_twins, reading_twins}
use Rattle.law_twins.proofs.Operands.{read_twins}

pub rts_twins : (x : Setting) (p : Plain) → Rows x (rts_of x.here p) (rts_of x.there p)
rts_twins x p =
    then_twins x (SameCut x) (reading_twins x (read_twins x (address_register p 7) (bytes_of Long))) (λ target. returned refl)

pub rtd_twins : (x : Setting) (d : ℕ) (p : Plain) → Rows x (rtd_of d x.here p) (rtd_of d x.there p)
rtd_twins x d p =
    then_twins x (SameCut x) (reading_twins x (read_twins x (address_register p 7) (bytes_of Long))) (λ target. returned refl)

pub rtr_twins : (x : Setting) (p : Plain) → Rows x (rtr_of x.here p) (rtr_of x.there p)
rtr_twins x p =
    then_twins x (SameCut x) (reading_twins x (read_twins x (address_register p 7) (bytes_of Word))) (λ codes.
    then_twins x (SameCut x) (reading_twins x (read_twins x (address_register (stack_raised_by_word p) 7) (bytes_of Long))) (λ target. returned refl))
