use Rattle.def_guests.proofs.Seated.{nothing_is_taken, takes_add}
use Rattle.def_guests.proofs.seated_turns_add.Goals as goal

pub returns-clause-none : goal.returns-clause-none
returns-clause-none c = nothing_is_taken

pub returns-clause-add : goal.returns-clause-add
returns-clause-add c = takes_add
