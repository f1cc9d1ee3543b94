use Rattle.std.proofs.Common.{◌≡◌, ap, ◌∙◌, sym, refl, not, false, inl, inr}
use Rattle.mb_instr.specs.declared.kinds.ShiftKind.TheVariants.{Arithmetic}
use Rattle.mb_alu.specs.Shifts.{unshifted, is_arithmetic}
use Rattle.mb_alu.proofs.Steps.{left_overflows, right_overflows, others_overflow}
use Rattle.mb_alu.proofs.shifts.overflow.Goals as goal

pub returns-then-left : goal.returns-then-left
returns-then-left c = λ x.
    rw (c.in-Arithmetic.is, c.if-left.true)
    (ap not c.has_room.ensures ∙ sym (left_overflows c.args.size (unshifted Arithmetic c.args.value x) c.requires.low refl c.args.count))

pub returns-else-left : goal.returns-else-left
returns-else-left c = λ x.
    rw (c.in-Arithmetic.is, c.if-left.false) (sym (right_overflows c.args.size (unshifted Arithmetic c.args.value x) c.requires.low refl c.args.count))

pub returns-in-Logical : goal.returns-in-Logical
returns-in-Logical c = λ x.
    let other : is_arithmetic c.args.kind ≡ false =
    elim c.in-Logical.is [ inl e ↦ rw e refl | inr r ↦ elim r [ inl e ↦ rw e refl | inr e ↦ rw e refl ] ] in
    sym (others_overflow c.args.kind c.args.left c.args.size (unshifted c.args.kind c.args.value x) other refl c.args.count)
