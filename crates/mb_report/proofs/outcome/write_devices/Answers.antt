use Rattle.mb_report.proofs.LineLemmas.{buffers_lines}
use Rattle.mb_report.proofs.outcome.write_devices.Goals as goal

pub returns : goal.returns
returns g c = buffers_lines c.device_lines.result c.device_lines.ensures c.write_lines.ensures
