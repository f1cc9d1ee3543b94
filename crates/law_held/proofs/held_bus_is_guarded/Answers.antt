use Rattle.law_held.proofs.Again.{held_guards}
use Rattle.law_held.proofs.Keeps.{held_keeps}
use Rattle.law_held.proofs.Own.{guest_is_held}
use Rattle.law_held.proofs.held_bus_is_guarded.Goals as goal

pub returns-clause-guarded : goal.returns-clause-guarded
returns-clause-guarded c = held_guards

pub returns-clause-keeps : goal.returns-clause-keeps
returns-clause-keeps c = held_keeps

pub returns-clause-allowed : goal.returns-clause-allowed
returns-clause-allowed c = guest_is_held
