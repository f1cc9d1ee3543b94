use Rattle.vm_snapshot.proofs.device_reading.read_count.Goals as goal

pub returns-clause-reads : goal.returns-clause-reads
returns-clause-reads c = rw c.counts.ensures at c.long.ensures.reads
