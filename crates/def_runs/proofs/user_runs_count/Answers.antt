use Rattle.def_runs.proofs.RunEnds.{runs-end_by_cause}
use Rattle.def_runs.proofs.Spellings.{trails-by_spelling}
use Rattle.def_runs.proofs.user_runs_count.Goals as goal

pub returns-clause-ends : goal.returns-clause-ends
returns-clause-ends c = runs-end_by_cause

pub returns-clause-trail : goal.returns-clause-trail
returns-clause-trail c = trails-by_spelling
