use Rattle.def_machine.proofs.Builds.{built-start, built-bus, built-run}
use Rattle.def_machine.proofs.laws.devices_keep_their_build.Goals as goal

pub returns-clause-start : goal.returns-clause-start
returns-clause-start c = built-start

pub returns-clause-calls : goal.returns-clause-calls
returns-clause-calls c = built-bus

pub returns-clause-runs : goal.returns-clause-runs
returns-clause-runs c = built-run
