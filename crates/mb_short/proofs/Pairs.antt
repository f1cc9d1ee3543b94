-- Products and quotients by a data register.
use Rattle.std.proofs.Common.{◌≡◌, ◌∙◌, ℕ, ◌<◌, false, ap, sym}
use Rattle.mb_port.specs.Routine.{Bus}
use Rattle.mb_port.specs.declared.types.Space.{Space}
use Rattle.mb_instr.specs.declared.size.Size.TheVariants.{Long}
use Rattle.mb_instr.specs.declared.operand.Ea.TheVariants.{Dn}
use Rattle.mb_instr.specs.declared.instruction.Instr.TheVariants as instr
use Rattle.mb_instr.specs.declared.instruction.Arith.TheVariants as arith_row
use Rattle.mb_instr.specs.declared.registers.Plain.{Plain}
use Rattle.mb_instr.specs.FurtherWords.{pair_word}
use Rattle.mb_instr.specs.Sizes.{low_of}
use Rattle.mb_instr.specs.Registers.{data_register}
use Rattle.mb_alu.specs.declared.quotients.Divided.{Divided}
use Rattle.mb_alu.specs.declared.quotients.Divided.TheVariants.{Done}
use Rattle.mb_alu.specs.Products.{div_of}
use Rattle.def_instructions.specs.Attempt.{past}
use Rattle.def_instructions.specs.Ends.{Rowed, carried}
use Rattle.def_instructions.specs.Products.{dividend_of, width_in, divided_by_long, divide_long_of, multiply_long_of}
use Rattle.mb_short.specs.Taken.{Goes}
use Rattle.mb_short.proofs.Moves.{taken_register}
use Rattle.mb_short.proofs.Goings.{two_go}

pub divide_goes : {S : Type 0} (bus : Bus S) (n w quotient remainder ccr : ℕ) (space : Space) (p q : Plain) (s : S) → n < 8
    → div_of (pair_word w).is_signed (width_in w) (low_of Long (data_register p n)) (dividend_of w p) p.ccr ≡ Done quotient remainder ccr
    → carried q ≡ divided_by_long w (Done quotient remainder ccr) (past 2 p)
    → Goes bus (instr.Arith (arith_row.DivL (Dn n) w)) 2 space p s false q s
divide_goes bus n w quotient remainder ccr space p q s h e is =
    two_go bus (instr.Arith (arith_row.DivL (Dn n) w)) space p q s s
    (taken_register bus (divide_long_of w) Long n _ space (past 2 p) s h ∙ ap (λ (d : Divided). (divided_by_long w d (past 2 p), s)) e
    ∙ ap (λ (r : Rowed). (r, s)) (sym is))

pub multiply_goes : {S : Type 0} (bus : Bus S) (n w : ℕ) (space : Space) (p q : Plain) (s : S) → n < 8
    → carried q ≡ multiply_long_of w (low_of Long (data_register p n)) (past 2 p)
    → Goes bus (instr.Arith (arith_row.MulL (Dn n) w)) 2 space p s false q s
multiply_goes bus n w space p q s h is =
    two_go bus (instr.Arith (arith_row.MulL (Dn n) w)) space p q s s
    (taken_register bus (multiply_long_of w) Long n _ space (past 2 p) s h ∙ ap (λ (r : Rowed). (r, s)) (sym is))
