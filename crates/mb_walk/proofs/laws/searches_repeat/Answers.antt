use Rattle.mb_walk.proofs.Again as proved
use Rattle.mb_walk.proofs.laws.searches_repeat.Goals as goal

pub returns-clause-marks : goal.returns-clause-marks
returns-clause-marks c = proved.searches_mark

pub returns-clause-again : goal.returns-clause-again
returns-clause-again c = proved.searches_repeat
