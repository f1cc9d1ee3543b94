use Rattle.mb_report.proofs.BufferLemmas.{buffers_then}
use Rattle.mb_report.proofs.outcome.write_word.Goals as goal

pub returns : goal.returns
returns g c = buffers_then (buffers_then (buffers_then c.add.ensures c.add-2.ensures) c.add-3.ensures) c.add-4.ensures
