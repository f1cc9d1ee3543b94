use Rattle.std.proofs.Common.{length}
use Rattle.mb_mnemonics.proofs.endings.+ending_among.Given as goal

-- it goes down the list
abbrev pub decreases-ending_among : goal.decreases-ending_among
decreases-ending_among l = length l.names.now
