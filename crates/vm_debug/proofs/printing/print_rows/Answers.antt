use Rattle.std.proofs.Common.{ap}
use Rattle.mb_model.specs.Seen.{Seen}
use Rattle.mb_report.proofs.BufferLemmas.{buffers_printed}
use Rattle.vm_debug.proofs.printing.print_rows.Goals as goal

pub returns : goal.returns
returns g c =
    let ram = ap (λ (s : Seen). s.ram) c.outcome.ensures in
    let rows = rw ram at c.write_rows.ensures in
    buffers_printed _ _ _ _ _ _ _ _ _ _ c.new-text.ensures.held c.new-text.ensures.so_far rows c.finish.ensures
