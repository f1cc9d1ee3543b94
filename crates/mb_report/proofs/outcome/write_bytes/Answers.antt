use Rattle.mb_report.proofs.BufferLemmas.{buffers_then}
use Rattle.mb_report.proofs.outcome.write_bytes.Goals as goal

pub returns : goal.returns
returns g c = buffers_then c.write_count.ensures c.write_dump.ensures
