use Rattle.def_runs.proofs.Past.{each_access-searches, past-is_searched_out}
use Rattle.def_runs.proofs.past_is_searched_out.Goals as goal

pub returns-clause-accesses : goal.returns-clause-accesses
returns-clause-accesses c = each_access-searches

pub returns-clause-past : goal.returns-clause-past
returns-clause-past c = past-is_searched_out
