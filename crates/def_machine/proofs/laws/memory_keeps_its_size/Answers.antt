use Rattle.def_machine.proofs.Beneath as beneath
use Rattle.def_machine.proofs.laws.memory_keeps_its_size.Goals as goal

pub returns-clause-calls : goal.returns-clause-calls
returns-clause-calls c = beneath.calls_leave_the_size

pub returns-clause-runs : goal.returns-clause-runs
returns-clause-runs c = beneath.runs_leave_the_size
