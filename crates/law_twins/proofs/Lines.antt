-- MOVE16.
use Rattle.std.specs.Prelude.{refl, ℕ}
use Rattle.law_routines.specs.Twin.{returned}
use Rattle.law_routines.specs.Between.{Setting, SameFault}
use Rattle.law_routines.proofs.Between.{twin_read_line, twin_write_line}
use Rattle.mb_instr.specs.declared.kinds.LineMove.{LineMove}
use Rattle.mb_instr.specs.declared.kinds.LineMove.TheVariants as line
use Rattle.mb_instr.specs.declared.registers.Plain.{Plain}
use Rattle.mb_instr.specs.Registers.{address_register}
use Rattle.mb_instr.specs.FurtherWords.{line_word}
use Rattle.def_instructions.specs.Lines.{line_address, move_line_of, past_line, move16_absolute_of, past_lines, move16_post_of}
use Rattle.law_twins.specs.Twins.{SameRead}
use Rattle.law_twins.proofs.Parts.{SameCut, Rows, then_twins, failing_twins, reading_twins}

line_twins : (x : Setting) (from to : ℕ) (after : Plain) → Rows x (move_line_of from to x.here after) (move_line_of from to x.there after)
line_twins x from to after =
    then_twins x (SameCut x)
    (reading_twins x (failing_twins x (SameFault x) (SameRead x) (λ e f h. record { fault = h; first = refl }) (twin_read_line x (line_address from))))
    (λ line. then_twins x (SameCut x)
    (failing_twins x (SameFault x) (SameCut x) (λ e f h. ((h, refl), refl)) (twin_write_line x (line_address to) line))
    (λ done. returned refl))

pub move16_absolute_twins : (x : Setting) (kind : LineMove) (n place : ℕ) (p : Plain)
    → Rows x (move16_absolute_of kind n place x.here p) (move16_absolute_of kind n place x.there p)
move16_absolute_twins x line.PostToAbsolute n place p = line_twins x (address_register p n) place (past_line n p)
move16_absolute_twins x line.AbsoluteToPost n place p = line_twins x place (address_register p n) (past_line n p)
move16_absolute_twins x line.IndirectToAbsolute n place p = line_twins x (address_register p n) place p
move16_absolute_twins x line.AbsoluteToIndirect n place p = line_twins x place (address_register p n) p

pub move16_twins : (x : Setting) (m word : ℕ) (p : Plain) → Rows x (move16_post_of m word x.here p) (move16_post_of m word x.there p)
move16_twins x m word p =
    let n = (line_word word).destination in
    line_twins x (address_register p m) (address_register p n) (past_lines m n p)
