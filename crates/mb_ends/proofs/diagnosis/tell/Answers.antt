use Rattle.mb_ends.proofs.diagnosis.tell.Goals as goal

pub returns-in-Unread : goal.returns-in-Unread
returns-in-Unread g c = rw c.in-Unread.is (rw c.as_str-in-Unread.ensures.value at c.say.ensures)

pub returns-in-Output : goal.returns-in-Output
returns-in-Output g c = rw c.in-Output.is c.put_all-in-Output.ensures

pub returns-in-Memory : goal.returns-in-Memory
returns-in-Memory g c = rw c.in-Memory.is c.put_all-in-Memory.ensures
