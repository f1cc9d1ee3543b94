use Rattle.mb_alu.proofs.Words.{low_of-far}
use Rattle.mb_alu.proofs.shifts.shifted_left.Goals as goal

pub returns-else-count-lt32 : goal.returns-else-count-lt32
returns-else-count-lt32 c = low_of-far c.args.size c.args.value c.args.count c.if-count-lt32.false
