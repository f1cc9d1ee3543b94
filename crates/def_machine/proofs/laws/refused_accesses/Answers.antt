use Rattle.def_machine.proofs.Refusals.{faults-tell, translated-beside}
use Rattle.def_machine.proofs.laws.refused_accesses.Goals as goal

pub returns-clause-tell : goal.returns-clause-tell
returns-clause-tell c = faults-tell

pub returns-clause-beside : goal.returns-clause-beside
returns-clause-beside c = translated-beside
