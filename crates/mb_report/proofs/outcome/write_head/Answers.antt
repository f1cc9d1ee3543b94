use Rattle.mb_report.proofs.LineLemmas.{buffers_lines}
use Rattle.mb_report.proofs.outcome.write_head.Goals as goal

pub returns : goal.returns
returns g c = buffers_lines c.head_lines.result c.head_lines.ensures c.write_lines.ensures
