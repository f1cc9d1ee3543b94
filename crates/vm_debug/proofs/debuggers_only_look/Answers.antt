use Rattle.vm_debug.proofs.Debugging.{going_ends_first, commands_add, texts_add, courses_show, bound_is_kept, breaks_are_few, courses_go_on}
use Rattle.vm_debug.proofs.debuggers_only_look.Goals as goal

pub returns-clause-least : goal.returns-clause-least
returns-clause-least c = going_ends_first

pub returns-clause-states : goal.returns-clause-states
returns-clause-states c = commands_add

pub returns-clause-texts : goal.returns-clause-texts
returns-clause-texts c = texts_add

pub returns-clause-courses : goal.returns-clause-courses
returns-clause-courses c = courses_show

pub returns-clause-bound : goal.returns-clause-bound
returns-clause-bound c = bound_is_kept

pub returns-clause-breaks : goal.returns-clause-breaks
returns-clause-breaks c = breaks_are_few

pub returns-clause-along : goal.returns-clause-along
returns-clause-along c = courses_go_on
