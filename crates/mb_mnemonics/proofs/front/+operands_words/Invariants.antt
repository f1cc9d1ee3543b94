use Rattle.std.proofs.Common.{length}
use Rattle.mb_mnemonics.proofs.front.+operands_words.Given as goal

-- it goes down the list
abbrev pub decreases-operands_words : goal.decreases-operands_words
decreases-operands_words l = length l.operands.now
