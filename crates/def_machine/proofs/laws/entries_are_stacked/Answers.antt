use Rattle.def_machine.proofs.Enters.{enters_stacked}
use Rattle.def_machine.proofs.laws.entries_are_stacked.Goals as goal

pub returns : goal.returns
returns c = enters_stacked
