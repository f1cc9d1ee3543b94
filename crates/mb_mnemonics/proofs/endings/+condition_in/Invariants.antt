use Rattle.std.proofs.Common.{length}
use Rattle.mb_mnemonics.proofs.endings.+condition_in.Given as goal

-- it goes down the list
abbrev pub decreases-condition_in : goal.decreases-condition_in
decreases-condition_in l = length l.names.now
