use Rattle.def_guests.proofs.Counts.{counts_are_steps, marks_are_of_retired, marks_append, exceptions_are_bounded}
use Rattle.def_guests.proofs.Trails.{trail_append}
use Rattle.def_guests.proofs.steps_are_counted.Goals as goal

pub returns-clause-counts : goal.returns-clause-counts
returns-clause-counts c = counts_are_steps

pub returns-clause-retired : goal.returns-clause-retired
returns-clause-retired c = marks_are_of_retired

pub returns-clause-marks : goal.returns-clause-marks
returns-clause-marks c = marks_append

pub returns-clause-trail : goal.returns-clause-trail
returns-clause-trail c = trail_append

pub returns-clause-exceptions : goal.returns-clause-exceptions
returns-clause-exceptions c = exceptions_are_bounded
