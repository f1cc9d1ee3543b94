use Rattle.mb_walk.proofs.Parts as parts
use Rattle.mb_walk.proofs.laws.writes_of_memory.Goals as goal

pub returns-clause-below : goal.returns-clause-below
returns-clause-below c = parts.take-over

pub returns-clause-above : goal.returns-clause-above
returns-clause-above c = parts.drop-over

pub returns-clause-again : goal.returns-clause-again
returns-clause-again c = parts.over-again

pub returns-clause-beside : goal.returns-clause-beside
returns-clause-beside c = parts.over-stands

pub returns-clause-split : goal.returns-clause-split
returns-clause-split c = parts.over-split

pub returns-clause-back : goal.returns-clause-back
returns-clause-back c = parts.numbers_have_their_bytes
