use Rattle.mb_report.proofs.LineLemmas.{buffers_lines}
use Rattle.mb_report.proofs.outcome.write_registers.Goals as goal

pub returns : goal.returns
returns g c = buffers_lines c.register_lines.result c.register_lines.ensures c.write_lines.ensures
