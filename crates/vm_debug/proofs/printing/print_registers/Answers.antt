use Rattle.std.proofs.Common.{subst}
use Rattle.std.specs.List.{flat_map}
use Rattle.mb_outside.specs.Prints.{Prints}
use Rattle.mb_model.specs.Seen.{Seen}
use Rattle.mb_report.specs.Text.{line_text, register_lines}
use Rattle.mb_report.proofs.BufferLemmas.{buffers_printed}
use Rattle.vm_debug.proofs.printing.print_registers.Goals as goal

pub returns : goal.returns
returns g c =
    subst (λ (s : Seen). Prints (g.O.Sink.taken c.args.out.now) (g.O.Sink.taken c.finish.new.out) (g.O.Sink.faults c.args.out.now)
    (g.O.Sink.faults c.finish.new.out) (flat_map line_text (register_lines s)) c.finish.result) c.outcome.ensures
    (buffers_printed _ _ _ _ _ _ _ _ _ _ c.new-text.ensures.held c.new-text.ensures.so_far c.write_registers.ensures c.finish.ensures)
