use Rattle.std.proofs.Common.{◌∙◌, ap}
use Rattle.std.specs.Prelude.{decimal}
use Rattle.mb_report.proofs.BufferLemmas.{buffers_then, buffers_printed}
use Rattle.vm_debug.proofs.printing.print_kept.Goals as goal

pub returns : goal.returns
returns g c =
    let digits = c.as_bytes.ensures.value ∙ c.format.ensures.text ∙ ap decimal c.kept_count.ensures in
    let count = rw digits at c.write_word.ensures in
    buffers_printed _ _ _ _ _ _ _ _ _ _ c.new-text.ensures.held c.new-text.ensures.so_far
    (buffers_then count c.write_all_kept.ensures) c.finish.ensures
