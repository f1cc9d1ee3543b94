use Rattle.law_turns.proofs.Idle as idle_laws
use Rattle.law_turns.proofs.idle_stretches.Goals as goal

pub returns-clause-idle : goal.returns-clause-idle
returns-clause-idle c = idle_laws.quiet_steps_are_idle

pub returns-clause-take : goal.returns-clause-take
returns-clause-take c = idle_laws.idle_steps_take
