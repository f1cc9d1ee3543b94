-- The operands so far, with those that are left, are all operands.
use Rattle.std.proofs.Common.{◌≡◌, length}
use Rattle.mb_syntax.specs.Code.{with_front}
use Rattle.mb_syntax.specs.Operands.{operands_of}
use Rattle.mb_syntax.proofs.operand_reading.operands_of.Given as goal

abbrev pub invariant-loop-most : goal.invariant-loop-most
invariant-loop-most l =
    with_front l.operands.items (operands_of l.most l.takes_caches l.words) ≡ operands_of (length l.fn.words) l.takes_caches l.fn.words

abbrev pub decreases-loop-most : goal.decreases-loop-most
decreases-loop-most l = l.most
