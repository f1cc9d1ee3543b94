use Rattle.std.proofs.Common.{length}
use Rattle.mb_statement.proofs.modes.+word_in.Given as goal

-- it goes down the list
abbrev pub decreases-word_in : goal.decreases-word_in
decreases-word_in l = length l.words.now
