use Rattle.def_runs.proofs.Calls.{calls-are_free}
use Rattle.def_runs.proofs.Runs.{run-is_free, run-from_reset}
use Rattle.def_runs.proofs.runs_are_free.Goals as goal

pub returns-clause-calls : goal.returns-clause-calls
returns-clause-calls c = calls-are_free

pub returns-clause-runs : goal.returns-clause-runs
returns-clause-runs c = run-is_free

pub returns-clause-from_reset : goal.returns-clause-from_reset
returns-clause-from_reset c = run-from_reset
