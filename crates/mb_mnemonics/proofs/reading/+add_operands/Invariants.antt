use Rattle.std.proofs.Common.{length}
use Rattle.mb_mnemonics.proofs.reading.+add_operands.Given as goal

-- it goes down the list
abbrev pub decreases-add_operands : goal.decreases-add_operands
decreases-add_operands l = length l.operands.now
