use Rattle.std.proofs.Common.{◌∙◌, sym}
use Rattle.mb_instr.specs.declared.kinds.ShiftKind.TheVariants.{Arithmetic, Logical, Rotate}
use Rattle.mb_alu.specs.Shifts.{unshifted}
use Rattle.mb_alu.proofs.Steps.{left_values, left_values_signed, right_values, right_values_signed, rotated_keeps}
use Rattle.mb_alu.proofs.Turns.{rotated_values}
use Rattle.mb_alu.proofs.shifts.shifted_far.Goals as goal

pub returns-in-Arithmetic-clause-value : goal.returns-in-Arithmetic-clause-value
returns-in-Arithmetic-clause-value c =
    rw (c.in-Arithmetic.is, c.if-left.true)
    (c.shifted_left.ensures ∙ sym (left_values_signed c.args.size (unshifted Arithmetic c.args.value c.args.x) c.requires.low c.args.count))

pub returns-in-Arithmetic-2-clause-value : goal.returns-in-Arithmetic-2-clause-value
returns-in-Arithmetic-2-clause-value c =
    rw (c.in-Arithmetic.is, c.if-left.false)
    (c.shifted_right_signed.ensures ∙ sym (right_values_signed c.args.size (unshifted Arithmetic c.args.value c.args.x) c.requires.low c.args.count))

pub returns-in-Logical-clause-value : goal.returns-in-Logical-clause-value
returns-in-Logical-clause-value c =
    rw (c.in-Logical.is, c.if-left-2.true)
    (c.shifted_left-in-Logical.ensures ∙ sym (left_values c.args.size (unshifted Logical c.args.value c.args.x) c.requires.low c.args.count))

pub returns-in-Logical-2-clause-value : goal.returns-in-Logical-2-clause-value
returns-in-Logical-2-clause-value c =
    rw (c.in-Logical.is, c.if-left-2.false)
    (c.shifted_right.ensures ∙ sym (right_values c.args.size (unshifted Logical c.args.value c.args.x) c.args.count))

pub returns-in-Rotate-clause-value : goal.returns-in-Rotate-clause-value
returns-in-Rotate-clause-value c =
    rw c.in-Rotate.is
    (c.rotated.ensures ∙ sym (rotated_values c.args.left c.args.size (unshifted Rotate c.args.value c.args.x) c.requires.low c.args.count))

pub returns-in-Rotate-clause-extend : goal.returns-in-Rotate-clause-extend
returns-in-Rotate-clause-extend c = λ _.
    rw c.in-Rotate.is (sym (rotated_keeps c.args.left c.args.size (unshifted Rotate c.args.value c.args.x) c.args.count))
