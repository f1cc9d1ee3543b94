use Rattle.mb_report.proofs.BufferLemmas.{buffers_then}
use Rattle.vm_snapshot.proofs.input_writing.begin.Goals as goal

pub returns : goal.returns
returns g c =
    let step = rw c.from.ensures at c.write_decimal.ensures in
    buffers_then (buffers_then c.close.ensures c.add.ensures) step
