use Rattle.std.proofs.Common.{length}
use Rattle.mb_mnemonics.proofs.front.+is_named.Given as goal

-- it goes down the list
abbrev pub decreases-is_named : goal.decreases-is_named
decreases-is_named l = length l.lines.now
