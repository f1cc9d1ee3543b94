use Rattle.def_machine.proofs.Beneath as beneath
use Rattle.def_machine.proofs.laws.accesses_stand_beneath.Goals as goal

pub returns-clause-calls : goal.returns-clause-calls
returns-clause-calls c = beneath.calls_stand_beneath

pub returns-clause-places : goal.returns-clause-places
returns-clause-places c = beneath.places_stand_beneath
