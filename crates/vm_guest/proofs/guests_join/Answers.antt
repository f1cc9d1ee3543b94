use Rattle.vm_guest.proofs.Joining as joining_laws
use Rattle.vm_guest.proofs.guests_join.Goals as goal

pub returns : goal.returns
returns c = joining_laws.guests_join
