use Rattle.vm_debug.proofs.OnBoards.{ones_are_a_turn, turns_end_there}
use Rattle.vm_debug.proofs.ones_are_turns.Goals as goal

pub returns-clause-ones : goal.returns-clause-ones
returns-clause-ones c = ones_are_a_turn

pub returns-clause-ends : goal.returns-clause-ends
returns-clause-ends c = turns_end_there
