use Rattle.vm_saved.proofs.Lawful.{guests_are_lawful, runs_are_guests, saved_are_guests, starts_are_guests}
use Rattle.vm_saved.proofs.saved_guests_are_lawful.Goals as goal

pub returns-clause-starts : goal.returns-clause-starts
returns-clause-starts c = starts_are_guests

pub returns-clause-saved : goal.returns-clause-saved
returns-clause-saved c = saved_are_guests

pub returns-clause-runs : goal.returns-clause-runs
returns-clause-runs c = runs_are_guests

pub returns-clause-lawful : goal.returns-clause-lawful
returns-clause-lawful c = guests_are_lawful
