use Rattle.mb_model.proofs.Found as found
use Rattle.mb_model.proofs.laws.found_after_a_flush.Goals as goal

pub returns-clause-covered : goal.returns-clause-covered
returns-clause-covered c = found.flushed_gone

pub returns-clause-others : goal.returns-clause-others
returns-clause-others c = found.flushed_stays
