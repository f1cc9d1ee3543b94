use Rattle.law_turns.proofs.Held as held_laws
use Rattle.law_turns.proofs.Retire as retire_laws
use Rattle.law_turns.proofs.guest_steps_retire.Goals as goal

pub returns-clause-classes : goal.returns-clause-classes
returns-clause-classes c = held_laws.classes_are_held

pub returns-clause-retired : goal.returns-clause-retired
returns-clause-retired c = retire_laws.retired_steps
