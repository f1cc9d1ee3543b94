use Rattle.vm_snapshot.proofs.Held.{masked_held}
use Rattle.vm_snapshot.proofs.register_reading.register.Goals as goal

pub returns-clause-reads : goal.returns-clause-reads
returns-clause-reads c = rw c.kept_bits.ensures at c.long.ensures.reads

pub returns-clause-small : goal.returns-clause-small
returns-clause-small c = masked_held _ c.long.result (rw c.kept_bits.ensures at c.long.ensures.admitted)
