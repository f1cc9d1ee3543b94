use Rattle.law_turns.proofs.Quiet as quiet_laws
use Rattle.law_turns.proofs.quiet_stretches.Goals as goal

pub returns-clause-tried : goal.returns-clause-tried
returns-clause-tried c = quiet_laws.quiet_steps_are_tried

pub returns-clause-ticks : goal.returns-clause-ticks
returns-clause-ticks c = quiet_laws.retired_steps_tick

pub returns-clause-truth : goal.returns-clause-truth
returns-clause-truth c = quiet_laws.retired_steps_keep_truth

pub returns-clause-leave : goal.returns-clause-leave
returns-clause-leave c = quiet_laws.retired_steps_leave
