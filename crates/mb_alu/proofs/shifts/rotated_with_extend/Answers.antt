use Rattle.std.proofs.Common.{◌≡◌, ◌<◌, ap, ◌∙◌}
use Rattle.mb_instr.specs.Sizes.{low_of, values_of}
use Rattle.mb_alu.specs.declared.shifts.Shifting.{Shifting}
use Rattle.mb_instr.specs.declared.kinds.ShiftKind.TheVariants.{RotateExtended}
use Rattle.mb_alu.specs.Shifts.{unshifted, shifted}
use Rattle.mb_alu.proofs.Steps.{repeated-below}
use Rattle.mb_alu.proofs.Turns.{extended_word, extended_words, extended_bits, extended_low, extended_high}
use Rattle.mb_alu.proofs.shifts.rotated_with_extend.Goals as goal

-- the operand and X after the turn
end : goal.After-bits-3 → Shifting
end c = shifted RotateExtended c.args.left c.args.size c.args.count c.args.value c.args.x

-- the word that was turned holds both
word : (c : goal.After-bits-3) → c.turn-turned.result ≡ extended_word c.args.size (end c).x (end c).value
unfolding end
word c =
    cc (
      extended_words c.args.left c.args.size (unshifted RotateExtended c.args.value c.args.x) c.requires c.args.count,
      extended_bits c.args.size c.args.x c.args.value c.requires,
    )

below : (c : goal.After-bits-3) → (end c).value < values_of c.args.size
unfolding end
below c = repeated-below RotateExtended c.args.left c.args.size (unshifted RotateExtended c.args.value c.args.x) c.requires c.args.count

pub returns-clause-value : goal.returns-clause-value
unfolding end
returns-clause-value c = c.cut.ensures.value ∙ ap (low_of c.args.size) (word c) ∙ extended_low c.args.size (end c).x (end c).value (below c)

pub returns-clause-extend : goal.returns-clause-extend
unfolding end
returns-clause-extend c =
    rw (c.bits-3.ensures, word c) (extended_high c.args.size (end c).x (end c).value (below c))
