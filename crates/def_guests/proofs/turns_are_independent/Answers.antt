use Rattle.def_guests.proofs.Independent.{others_stay, turns_are_independent, prepared_guests_run_alone}
use Rattle.def_guests.proofs.turns_are_independent.Goals as goal

pub returns-clause-others : goal.returns-clause-others
returns-clause-others c = others_stay

pub returns-clause-independent : goal.returns-clause-independent
returns-clause-independent c = turns_are_independent

pub returns-clause-alone : goal.returns-clause-alone
returns-clause-alone c = prepared_guests_run_alone
