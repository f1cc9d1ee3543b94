use Rattle.law_leave.proofs.Steps.{steps_retire, steps_leave}
use Rattle.law_leave.proofs.board_steps.Goals as goal

pub returns-clause-retired : goal.returns-clause-retired
returns-clause-retired c = steps_retire

pub returns-clause-left : goal.returns-clause-left
returns-clause-left c = steps_leave
