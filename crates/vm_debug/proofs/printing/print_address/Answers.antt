use Rattle.mb_report.proofs.BufferLemmas.{buffers_printed}
use Rattle.vm_debug.proofs.printing.print_address.Goals as goal

pub returns : goal.returns
returns g c =
    let line = rw c.hex8.ensures at c.write_word.ensures in
    buffers_printed _ _ _ _ _ _ _ _ _ _ c.new-text.ensures.held c.new-text.ensures.so_far line c.finish.ensures
