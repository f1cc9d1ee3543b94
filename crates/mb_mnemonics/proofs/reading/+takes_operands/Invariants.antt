use Rattle.std.proofs.Common.{length}
use Rattle.mb_mnemonics.proofs.reading.+takes_operands.Given as goal

-- it goes down the list
abbrev pub decreases-takes_operands : goal.decreases-takes_operands
decreases-takes_operands l = length l.operands.now
