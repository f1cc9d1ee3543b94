use Rattle.std.proofs.Common.{◌≡◌, take}
use Rattle.mb_writes.proofs.writing.left.Given as goal

abbrev pub invariant-loop-pend : goal.invariant-loop-pend
invariant-loop-pend l = l.left.items ≡ take l.pend-index l.rest
