use Rattle.def_runs.proofs.Writebacks.{frames_tell}
use Rattle.def_runs.proofs.Causes.{refusals_tell, traps_tell}
use Rattle.def_runs.proofs.frames_tell.Goals as goal

pub returns-clause-refusals : goal.returns-clause-refusals
returns-clause-refusals c = refusals_tell

pub returns-clause-traps : goal.returns-clause-traps
returns-clause-traps c = traps_tell

pub returns-clause-left : goal.returns-clause-left
returns-clause-left c = frames_tell
