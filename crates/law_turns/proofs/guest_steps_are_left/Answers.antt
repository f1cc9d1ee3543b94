use Rattle.law_turns.proofs.Exit as exit_laws
use Rattle.law_turns.proofs.Rest as rest_laws
use Rattle.law_turns.proofs.guest_steps_are_left.Goals as goal

pub returns-clause-goes_on : goal.returns-clause-goes_on
returns-clause-goes_on c = rest_laws.steps_go_on

pub returns-clause-left : goal.returns-clause-left
returns-clause-left c = exit_laws.left_steps
