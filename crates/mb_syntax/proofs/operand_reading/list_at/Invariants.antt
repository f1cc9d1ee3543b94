-- The registers so far, with those that are left, are all of the list.
use Rattle.std.proofs.Common.{◌≡◌, length}
use Rattle.mb_syntax.specs.Operands.{list_behind}
use Rattle.mb_syntax.proofs.operand_reading.list_at.Given as goal

abbrev pub invariant-lists : goal.invariant-lists
invariant-lists l = list_behind l.mask l.words ≡ list_behind 0 l.fn.words

abbrev pub decreases-lists : goal.decreases-lists
decreases-lists l = length l.words
