use Rattle.mb_report.proofs.BufferLemmas.{buffers_then}
use Rattle.vm_snapshot.proofs.input_writing.begin_bytes.Goals as goal

pub returns : goal.returns
returns g c =
    let byte = rw c.hex2.ensures at c.add-2.ensures in
    buffers_then (buffers_then c.begin.ensures c.add.ensures) byte
