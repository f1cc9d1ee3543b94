use Rattle.vm_snapshot.proofs.Held.{bit_held}
use Rattle.vm_snapshot.proofs.disk_reading.outcome.Goals as goal

pub returns-clause-small : goal.returns-clause-small
returns-clause-small c = bit_held c.long.result c.long.ensures.admitted
