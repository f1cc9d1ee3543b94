use Rattle.std.proofs.Common.{refl}
use Rattle.mb_alu.specs.Shifts.{repeated}
use Rattle.mb_alu.proofs.shifts.shift.Goals as goal

pub returns-then-count-eq0-clause-means : goal.returns-then-count-eq0-clause-means
unfolding repeated
returns-then-count-eq0-clause-means c = rw (c.if-count-eq0.true, c.flagged.ensures, c.start.ensures, c.low-value.ensures.value, c.of-extend.ensures) refl
