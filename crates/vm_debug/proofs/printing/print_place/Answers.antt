use Rattle.std.proofs.Common.{◌∙◌, ap}
use Rattle.std.specs.Prelude.{decimal}
use Rattle.mb_model.specs.Seen.{Seen}
use Rattle.mb_report.proofs.BufferLemmas.{buffers_then, buffers_printed}
use Rattle.vm_debug.proofs.printing.print_place.Goals as goal

pub returns : goal.returns
returns g c =
    let seen = c.outcome-outcome.ensures in
    let digits = c.as_bytes.ensures.value ∙ c.format.ensures.text ∙ ap (λ (s : Seen). decimal s.steps) seen in
    let pc = ap (λ (s : Seen). s.cpu.regs.pc) seen in
    let state = ap (λ (s : Seen). s.state) seen in
    let number = rw digits at c.add-2.ensures in
    let address = rw (c.hex8.ensures, pc) at c.add-4.ensures in
    let word = rw (c.state_word.ensures, state) at c.add-6.ensures in
    buffers_printed _ _ _ _ _ _ _ _ _ _ c.new-text.ensures.held c.new-text.ensures.so_far
    (buffers_then (buffers_then (buffers_then (buffers_then (buffers_then (buffers_then (buffers_then
    c.add.ensures number) c.add-3.ensures) address) c.add-5.ensures) word) c.add-7.ensures) c.add-8.ensures)
    c.finish.ensures
