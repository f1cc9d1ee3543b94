use Rattle.vm_saved.proofs.Saving.{starts_can_be_saved, saved_can_be_saved, runs_keep_lists, runs_can_be_saved}
use Rattle.vm_saved.proofs.guests_can_be_saved.Goals as goal

pub returns-clause-starts : goal.returns-clause-starts
returns-clause-starts c = starts_can_be_saved

pub returns-clause-saved : goal.returns-clause-saved
returns-clause-saved c = saved_can_be_saved

pub returns-clause-lists : goal.returns-clause-lists
returns-clause-lists c = runs_keep_lists

pub returns-clause-runs : goal.returns-clause-runs
returns-clause-runs c = runs_can_be_saved
