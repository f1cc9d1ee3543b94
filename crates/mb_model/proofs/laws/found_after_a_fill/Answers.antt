use Rattle.mb_model.proofs.Found as found
use Rattle.mb_model.proofs.laws.found_after_a_fill.Goals as goal

pub returns-clause-new : goal.returns-clause-new
returns-clause-new c = found.filled_same

pub returns-clause-others : goal.returns-clause-others
returns-clause-others c = found.filled_other

pub returns-clause-dropped : goal.returns-clause-dropped
returns-clause-dropped c = found.displaced_same
