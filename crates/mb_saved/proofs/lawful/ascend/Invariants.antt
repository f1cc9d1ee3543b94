use Rattle.mb_saved.proofs.Ascending.{AscendTo}
use Rattle.mb_saved.proofs.lawful.ascend.Given as goal

abbrev pub invariant-loop-place : goal.invariant-loop-place
invariant-loop-place l = AscendTo l.lines l.place
