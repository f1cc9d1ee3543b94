use Rattle.def_guests.proofs.TurnLaws.{halted_turn, turns_add, marks_stay_before}
use Rattle.def_guests.proofs.turns_add.Goals as goal

pub returns-clause-halted : goal.returns-clause-halted
returns-clause-halted c = halted_turn

pub returns-clause-add : goal.returns-clause-add
returns-clause-add c = turns_add

pub returns-clause-marks : goal.returns-clause-marks
returns-clause-marks c = marks_stay_before
