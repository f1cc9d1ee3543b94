use Rattle.vm_snapshot.proofs.Held.{place_held}
use Rattle.vm_snapshot.proofs.disk_reading.position.Goals as goal

pub returns-clause-place : goal.returns-clause-place
returns-clause-place c = place_held c.long.result c.long.ensures.admitted
