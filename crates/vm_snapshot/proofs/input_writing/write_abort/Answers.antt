use Rattle.mb_report.proofs.BufferLemmas.{buffers_then}
use Rattle.vm_snapshot.proofs.input_writing.write_abort.Goals as goal

pub returns : goal.returns
returns g c = buffers_then c.begin.ensures c.add.ensures
